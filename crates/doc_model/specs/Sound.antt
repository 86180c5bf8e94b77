-- Sound documents.
use Rattle.std.specs.Prelude.{ℕ, Bool, true, ◌||◌, ◌&&◌, ◌≡◌, ◌<◌, Some}
use Rattle.std.specs.List.{list_all, AllByRecursion}
use Rattle.cell_types.specs.NameRule.{is_name}
use Rattle.doc_model.specs.declared.column.ColDef.{ColDef}
use Rattle.doc_model.specs.MetadataIds.{is_metadata_id}
use Rattle.doc_model.specs.ByIds.{find_id, AreDistinct}
use Rattle.doc_model.specs.Rows.{has}
use Rattle.doc_model.specs.Grid.{Grid, IsGrid, cell}
use Rattle.doc_model.specs.Column.{column_id, is_sound_info, may_hold}
use Rattle.doc_model.specs.Document.{Table, Document, table_id}

-- a table's columns, rows and cells: a grid, no row 0, sound columns, and in each cell a value that
-- its column may hold
pub record IsSoundGrid (g : Grid ColDef) : Type 0 where
  pub is_grid : IsGrid column_id g
  pub from_one : AllByRecursion (λ r. 0 < r) g.rows
  pub infos : AllByRecursion (λ d. is_sound_info d.info ≡ true) g.columns
  pub holds : (d : ColDef) (r : ℕ) → find_id column_id d.id g.columns ≡ Some d → has g.rows r ≡ true
      → may_hold d (cell column_id g d.id r) ≡ true

-- whether the table and its columns have names that users may give
abbrev pub has_names : Table → Bool
has_names t = is_name t.id && list_all (λ (d : ColDef). is_name d.id) t.grid.columns

-- table ids are distinct, each table is sound, and all but the metadata tables have names
pub record IsSound (s : Document) : Type 0 where
  pub distinct : AreDistinct table_id s
  pub grids : AllByRecursion (λ t. IsSoundGrid t.grid) s
  pub names : AllByRecursion (λ t. (is_metadata_id t.id || has_names t) ≡ true) s
