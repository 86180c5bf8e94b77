-- A document with values in its formula cells is laid out as the document is.
use Rattle.std.proofs.Common.{ℕ, true, false, cond, ◌||◌, List, [], ◌∷◌, ◌≡◌}
use Rattle.std.specs.List.{AllByRecursion}
use Rattle.std.specs.Str.{bytes_eq}
use Rattle.cell_types.specs.declared.value.CellValue.{CellValue}
use Rattle.doc_model.specs.ByIds.{AreDistinct}
use Rattle.doc_model.specs.Column.{column_id}
use Rattle.doc_model.specs.Document.{Table, Document, table_id}
use Rattle.doc_model.specs.DocumentLaws.{IsWhole}
use Rattle.doc_model.specs.Grid.{IsGrid, cell}
use Rattle.doc_model.specs.LaidOut.{IsLaidOut}
use Rattle.doc_model.specs.MetadataIds.{is_metadata_id}
use Rattle.doc_model.specs.Sound.{IsSoundGrid, has_names}
use Rattle.doc_model.proofs.GridLaws.{IsGrid-grid_of}
use Rattle.recalc.specs.Evaluated.{filled_by}

module _ (v : List ℕ → List ℕ → ℕ → CellValue) where
  apart_by : (id : List ℕ) (s : Document) → AllByRecursion (λ (y : Table). bytes_eq id y.id ≡ false) s → AllByRecursion (λ (y : Table). bytes_eq id y.id ≡ false) (filled_by v s)
  apart_by id [] h = tt
  apart_by id (t ∷ s) h = (h.0, apart_by id s h.1)

  distinct_by : (s : Document) → AreDistinct table_id s → AreDistinct table_id (filled_by v s)
  distinct_by [] h = tt
  distinct_by (t ∷ s) h = (apart_by t.id s h.0, distinct_by s h.1)

  grids_by : (s : Document) → AllByRecursion (λ t. IsSoundGrid t.grid) s → AllByRecursion (λ t. IsGrid column_id t.grid) (filled_by v s)
  grids_by [] h = tt
  grids_by (t ∷ s) h =
      (IsGrid-grid_of column_id t.grid.columns t.grid.rows (λ d r. cond d.info.is_formula (v t.id d.id r) (cell column_id t.grid d.id r)) h.0.is_grid.distinct h.0.is_grid.ascending, grids_by s h.1)

  names_by : (s : Document) → AllByRecursion (λ t. (is_metadata_id t.id || has_names t) ≡ true) s → AllByRecursion (λ t. (is_metadata_id t.id || has_names t) ≡ true) (filled_by v s)
  names_by [] h = tt
  names_by (t ∷ s) h = (h.0, names_by s h.1)

  pub laid_out_by : (s : Document) → IsWhole s → IsLaidOut (filled_by v s)
  laid_out_by s whole = record {
    distinct = distinct_by s whole.sound.distinct;
    grids = grids_by s whole.sound.grids;
    names = names_by s whole.sound.names;
  }
