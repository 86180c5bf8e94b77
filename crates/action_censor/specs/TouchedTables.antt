-- What a bundle did to tables, as it is kept for all who are told of it.
use Rattle.std.specs.Prelude.{ℕ, Bool, true, List, map, filter, ◌≡◌}
use Rattle.std.specs.List.{AllByRecursion}
use Rattle.doc_model.specs.declared.column.ColDef.{ColDef}
use Rattle.doc_model.specs.ByIds.{AreDistinct, has_id}
use Rattle.doc_model.specs.Document.{Document, table_id}
use Rattle.doc_model.specs.Grid.{Grid}
use Rattle.doc_readers.specs.Parts.{grid_at}
use Rattle.acl_formula.specs.RuleFields.{cell_in}
use Rattle.acl_formula.specs.RuleRow.{RuleRow}
use Rattle.acl_formula.specs.declared.user_info.AttributeRow.{AttributeRow}
use Rattle.acl_formula.specs.declared.user_info.NamedCell.{NamedCell}
use Rattle.censored_view.specs.Readable.{row_of}
use Rattle.action_censor.specs.Back.{grid_back}
use Rattle.action_censor.specs.Step.{Step, is_row_of, is_table_of}
use Rattle.action_censor.specs.ToldCells.{old_cell}
use Rattle.action_censor.specs.declared.touched_table.TouchedTable.{TouchedTable}

abbrev pub touched_id : TouchedTable → List ℕ
touched_id t = t.id

-- a row that is kept
abbrev pub kept_row : AttributeRow → RuleRow
kept_row r = record { id = r.row; cell = λ c. cell_in r.cells c }

-- a row as it was, by what is told of its cells
abbrev pub old_row : List NamedCell → Grid ColDef → ℕ → RuleRow
old_row told g r = kept_row (record { row = r; cells = map (old_cell told g r) g.columns })

-- the rows of a table that pass, as rules read them
abbrev pub passing_rows : (ℕ → Bool) → Grid ColDef → List RuleRow
passing_rows test g = map (row_of g) (filter test g.rows)

-- a table of the document that steps are about: its rows that they are about, before and after them
pub record IsTouchedTable (ks : List Step) (s : Document) (t : TouchedTable) : Type 0 where
  pub there : has_id table_id s t.id ≡ true
  pub about : is_table_of ks t.id ≡ true
  pub before : map kept_row t.before.items
      ≡ passing_rows (is_row_of ks t.id) (grid_back ks t.id (grid_at s t.id))
  pub after : t.after.items ≡ filter (is_row_of ks t.id) (grid_at s t.id).rows

-- all tables of the document that steps are about, each once
pub record AreTouchedTables (ks : List Step) (s : Document) (ts : List TouchedTable) : Type 0 where
  pub distinct : AreDistinct touched_id ts
  pub each : AllByRecursion (IsTouchedTable ks s) ts
  pub all : (c : List ℕ) → is_table_of ks c ≡ true → has_id table_id s c ≡ true
      → has_id touched_id ts c ≡ true

-- those of some steps
abbrev pub AreTouched : Document → List TouchedTable → Type 0
AreTouched s ts = (ks : List Step) × AreTouchedTables ks s ts
