-- Documents whose cells may hold anything, as those whose formulas are evaluated.
use Rattle.std.specs.Prelude.{true, ◌||◌, [], map, ◌≡◌}
use Rattle.std.specs.List.{AllByRecursion}
use Rattle.doc_model.specs.ByIds.{AreDistinct}
use Rattle.doc_model.specs.Column.{column_id}
use Rattle.doc_model.specs.Document.{Table, Document, table_id}
use Rattle.doc_model.specs.Grid.{IsGrid}
use Rattle.doc_model.specs.MetadataIds.{is_metadata_id}
use Rattle.doc_model.specs.Sound.{has_names}

-- a sound document, but for what its columns say and its cells hold
pub record IsLaidOut (s : Document) : Type 0 where
  pub distinct : AreDistinct table_id s
  pub grids : AllByRecursion (λ t. IsGrid column_id t.grid) s
  pub names : AllByRecursion (λ t. (is_metadata_id t.id || has_names t) ≡ true) s

-- the table without its cells
abbrev pub no_cells : Table → Table
no_cells t = record {
  id = t.id;
  row = t.row;
  grid = record { columns = t.grid.columns; rows = t.grid.rows; cells = [] };
}

-- two documents have the same tables, columns and rows; their cells may differ
abbrev pub HaveSameParts : Document → Document → Type 0
HaveSameParts s t = map no_cells s ≡ map no_cells t
