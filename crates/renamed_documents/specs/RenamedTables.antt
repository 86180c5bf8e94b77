-- The tables outside the metadata where a column has a new name, and the texts of formulas follow.
use Rattle.std.specs.Prelude.{ℕ, true, false, List, map, ◌≡◌}
use Rattle.std.specs.List.{AllByRecursion}
use Rattle.doc_model.specs.declared.column.ColDef.{ColDef}
use Rattle.doc_model.specs.Document.{Document, Table, on_grid}
use Rattle.doc_model.specs.Grid.{Grid}
use Rattle.doc_model.specs.Schema.{plain_tables}
use Rattle.formula_parse.specs.FormulaOf.{formula_of}
use Rattle.formula_parse.specs.Lexemes.{is_id}
use Rattle.formula_records.specs.Recs.{Columns}
use Rattle.rename_marks.specs.declared.column_rename.ColumnRename.{ColumnRename}
use Rattle.rename_texts.specs.Renamed.{Rename}
use Rattle.renamed_values.specs.SameEv.{IsKept, moved}
use Rattle.renamed_values.specs.SameSheet.{Follow}

-- how the text of a formula of a table and a column is written then
abbrev pub Rewriting : Type 0
Rewriting = List ℕ → List ℕ → List ℕ → List ℕ

-- a column of a table, its place and its type as they were
abbrev pub column_after : ColumnRename → Rewriting → List ℕ → ColDef → ColDef
column_after m w t d = record {
  id = moved m t d.id;
  info = record {
    ty = d.info.ty;
    is_formula = d.info.is_formula;
    formula = w t d.id d.info.formula;
  };
  row = d.row;
}

abbrev pub grid_after : ColumnRename → Rewriting → List ℕ → Grid ColDef → Grid ColDef
grid_after m w t g =
    record { columns = map (column_after m w t) g.columns; rows = g.rows; cells = g.cells }

abbrev pub table_after : ColumnRename → Rewriting → Table → Table
table_after m w t = on_grid (grid_after m w t.id) t

-- so it is of each of the tables
abbrev pub IsRenamed : ColumnRename → Rewriting → Document → Document → Type 0
IsRenamed m w s s' = plain_tables s' ≡ map (table_after m w) (plain_tables s)

-- the new name is free, and the text of a formula column is written as its renamed formula is
pub record ColumnFollows (m : ColumnRename) (r : List ℕ → Rename) (w : Rewriting) (k : Columns)
    (t : List ℕ) (d : ColDef) : Type 0 where
  pub free : IsKept m t d.id
  pub formula : d.info.is_formula ≡ true
      → Follow m (r t) k t (formula_of d.info.formula) (formula_of (w t d.id d.info.formula))

abbrev pub AllFollow : ColumnRename → (List ℕ → Rename) → Rewriting → Columns → List Table → Type 0
AllFollow m r w k ts =
    AllByRecursion (λ t. AllByRecursion (ColumnFollows m r w k t.id) t.grid.columns) ts

-- the column has another name, neither is the word by which rows are asked, and all follow
pub record IsFollowed (m : ColumnRename) (r : List ℕ → Rename) (w : Rewriting) (k : Columns)
    (s : Document) : Type 0 where
  pub old : is_id m.old ≡ false
  pub new : is_id m.new ≡ false
  pub columns : AllFollow m r w k (plain_tables s)
