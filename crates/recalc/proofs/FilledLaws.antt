-- A document with its values in place is laid out as the document is.
use Rattle.std.proofs.Common.{ℕ, true, false, cond, ◌||◌, List, [], ◌∷◌, ◌≡◌, sym}
use Rattle.std.proofs.lemmas.Simd.{map-map}
use Rattle.std.specs.List.{AllByRecursion}
use Rattle.std.specs.Str.{bytes_eq}
use Rattle.cell_types.specs.declared.value.CellValue.{CellValue}
use Rattle.doc_model.specs.ByIds.{AreDistinct}
use Rattle.doc_model.specs.Column.{column_id}
use Rattle.doc_model.specs.Document.{Table, Document, table_id}
use Rattle.doc_model.specs.Grid.{IsGrid, cell}
use Rattle.doc_model.specs.LaidOut.{no_cells}
use Rattle.doc_model.specs.MetadataIds.{is_metadata_id}
use Rattle.doc_model.specs.Sound.{IsSoundGrid, has_names}
use Rattle.doc_model.proofs.GridLaws.{IsGrid-grid_of}
use Rattle.recalc.specs.Evaluated.{filled_by, value_of}
use Rattle.recalc.specs.FilledLaws.{LaidOutLaw, SamePartsLaw}
use Rattle.recalc.proofs.FilledLemmas.{filled_table}

module _ (v : List ℕ → List ℕ → ℕ → CellValue) where
  apart_filled : (id : List ℕ) (s : Document) → AllByRecursion (λ (y : Table). bytes_eq id y.id ≡ false) s → AllByRecursion (λ (y : Table). bytes_eq id y.id ≡ false) (filled_by v s)
  apart_filled id [] h = tt
  apart_filled id (t ∷ s) h = (h.0, apart_filled id s h.1)

  distinct_filled : (s : Document) → AreDistinct table_id s → AreDistinct table_id (filled_by v s)
  distinct_filled [] h = tt
  distinct_filled (t ∷ s) h = (apart_filled t.id s h.0, distinct_filled s h.1)

  grids_filled : (s : Document) → AllByRecursion (λ t. IsSoundGrid t.grid) s → AllByRecursion (λ t. IsGrid column_id t.grid) (filled_by v s)
  grids_filled [] h = tt
  grids_filled (t ∷ s) h =
      (IsGrid-grid_of column_id t.grid.columns t.grid.rows (λ d r. cond d.info.is_formula (v t.id d.id r) (cell column_id t.grid d.id r)) h.0.is_grid.distinct h.0.is_grid.ascending, grids_filled s h.1)

  names_filled : (s : Document) → AllByRecursion (λ t. (is_metadata_id t.id || has_names t) ≡ true) s → AllByRecursion (λ t. (is_metadata_id t.id || has_names t) ≡ true) (filled_by v s)
  names_filled [] h = tt
  names_filled (t ∷ s) h = (h.0, names_filled s h.1)

pub laid_out_law : LaidOutLaw
laid_out_law s whole = record {
  distinct = distinct_filled (value_of s) s whole.sound.distinct;
  grids = grids_filled (value_of s) s whole.sound.grids;
  names = names_filled (value_of s) s whole.sound.names;
}

pub same_parts_law : SamePartsLaw
same_parts_law s = sym (map-map no_cells (filled_table (value_of s)) s)
