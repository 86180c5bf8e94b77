-- What a user sees of an evaluated document, by what a context lets the user read of each table.
use Rattle.std.specs.Prelude.{ℕ, Bool, cond, List, [], ◌∷◌, map, filter, Some, None, unwrap_or}
use Rattle.std.specs.List.{list_any}
use Rattle.cell_types.specs.declared.value.CellValue.{CellValue}
use Rattle.cell_types.specs.declared.value.CellValue.TheVariants.{Null, Censored}
use Rattle.doc_model.specs.declared.column.ColDef.{ColDef}
use Rattle.doc_model.specs.declared.view.ViewCol.{ViewCol}
use Rattle.doc_model.specs.declared.view.ViewTable.{ViewTable}
use Rattle.doc_model.specs.ByIds.{by_id}
use Rattle.doc_model.specs.Changes.{shown_table_id}
use Rattle.doc_model.specs.Document.{Document, Table}
use Rattle.doc_model.specs.ViewEdits.{shown_id}
use Rattle.acl_formula.specs.RuleRow.{RuleRow}
use Rattle.censored_view.specs.Readable.{Readable, row_of}

-- a column, with its formula where that is shown
abbrev pub shown_column : Readable → ColDef → ViewCol
shown_column x d = record {
  id = d.id;
  ty = d.info.ty;
  is_formula = d.info.is_formula;
  formula = cond (x.formula d.id) (Some d.info.formula) None;
}

-- the columns that are shown, by id
abbrev pub shown_columns : Readable → List ColDef → List ViewCol
shown_columns x ds =
    by_id shown_id (map (shown_column x) (filter (λ (d : ColDef). x.column d.id) ds))

-- whether a row is shown: it may be read in some shown column, or at all where there are none
abbrev pub is_row_shown : Readable → List ViewCol → RuleRow → Bool
is_row_shown x [] row = x.cell None row
is_row_shown x (d ∷ ds) row = list_any (λ (e : ViewCol). x.cell (Some e.id) row) (d ∷ ds)

-- a cell of a shown row: censored where it may not be read
abbrev pub shown_value : Readable → RuleRow → ViewCol → CellValue
shown_value x row d = cond (x.cell (Some d.id) row) (unwrap_or (row.cell d.id) Null) Censored

-- a table of these columns and rows: those rows that are shown, each with its cells
abbrev pub shown_rows : Readable → List ℕ → List ViewCol → List RuleRow → ViewTable
shown_rows x id ds rows = record {
  id = id;
  columns = ds;
  rows = map (λ (row : RuleRow). row.id) (filter (is_row_shown x ds) rows);
  cells = map (λ row. map (shown_value x row) ds) (filter (is_row_shown x ds) rows);
}

-- a table with all its rows
abbrev pub shown_table : Readable → Table → ViewTable
shown_table x t =
    shown_rows x t.id (shown_columns x t.grid.columns) (map (row_of t.grid) t.grid.rows)

-- whether a table is shown: where one of its columns is, and where it has none as that is given
abbrev pub is_shown : Readable → List ColDef → Bool
is_shown x [] = x.bare
is_shown x (d ∷ ds) = list_any (λ (e : ColDef). x.column e.id) (d ∷ ds)

-- the tables that are shown, by id
abbrev pub view : (List ℕ → Readable) → Document → List ViewTable
view x s =
    by_id shown_table_id
    (map (λ (t : Table). shown_table (x t.id) t)
    (filter (λ (t : Table). is_shown (x t.id) t.grid.columns) s))
