-- Small documents and views at which a wrong definition would show; each line is computed.
use Rattle.std.proofs.Common.{ℕ, pos, true, false, List, [], ◌∷◌, ◌≡◌, refl, ap, length, Some, arith}
use Rattle.std.specs.Prelude.{codes}
use Rattle.cell_types.specs.declared.column_type.ColType.{ColType}
use Rattle.cell_types.specs.declared.column_type.ColType.TheVariants as type
use Rattle.cell_types.specs.declared.value.CellValue.{CellValue}
use Rattle.cell_types.specs.declared.value.CellValue.TheVariants as value
use Rattle.doc_model.specs.declared.action.DocAction.TheVariants as act
use Rattle.doc_model.specs.declared.column.CellColumn.{CellColumn}
use Rattle.doc_model.specs.declared.column.ColDef.{ColDef}
use Rattle.doc_model.specs.declared.view.ViewCol.{ViewCol}
use Rattle.doc_model.specs.declared.view.ViewTable.{ViewTable}
use Rattle.doc_model.specs.declared.view.ViewAction.TheVariants as shown
use Rattle.doc_model.specs.MetadataIds.{tables_id, columns_id, resources_id, rules_id}
use Rattle.doc_model.specs.Document.{Table, Document}
use Rattle.doc_model.specs.Schema.{metadata_table, tables_grid, columns_columns, with_schema, SchemaAgrees, resources_columns, rules_columns}
use Rattle.doc_model.specs.NewDocument.{no_rows}
use Rattle.doc_model.specs.Valid.{valid}
use Rattle.doc_model.specs.Apply.{effect}
use Rattle.doc_model.specs.Inverse.{inverse}
use Rattle.doc_model.specs.Changes.{changes}
use Rattle.doc_model.specs.Patch.{patch, unfit_at}

-- a column of type Int
abbrev int_column : List ℕ → ℕ → ColDef
int_column id row = record { id = id; info = record { ty = type.Int; is_formula = false; formula = [] }; row = row }

abbrev int : ℕ → CellValue
int n = value.Int (pos n)

abbrev column : List ℕ → List CellValue → CellColumn
column id values = record { id = id; values = values }

abbrev numbers : Table
numbers = record {
  id = codes "Numbers";
  row = 1;
  grid = record {
    columns = int_column (codes "C") 2 ∷ int_column (codes "A") 5 ∷ int_column (codes "B") 7 ∷ [];
    rows = 3 ∷ 4 ∷ [];
    cells = (int 1 ∷ int 2 ∷ int 3 ∷ []) ∷ (int 4 ∷ int 5 ∷ int 6 ∷ []) ∷ [];
  };
}

abbrev others : Table
others = record { id = codes "Others"; row = 4; grid = no_rows (int_column (codes "X") 3 ∷ []) }

abbrev document : List Table → Document
document plain = with_schema (no_rows resources_columns) (no_rows rules_columns) plain

abbrev both : Document
both = document (numbers ∷ others ∷ [])

-- an inverse AddTable of a low metadata row: the inverse names the row, and the table comes first again
pub removed_table : inverse both (act.RemoveTable (codes "Numbers"))
    ≡ act.AddTable (codes "Numbers") 1 numbers.grid.columns
    ∷ act.BulkAdd (codes "Numbers") (3 ∷ 4 ∷ []) (column (codes "A") (int 2 ∷ int 5 ∷ []) ∷ column (codes "B") (int 3 ∷ int 6 ∷ []) ∷ column (codes "C") (int 1 ∷ int 4 ∷ []) ∷ []) ∷ []
unfolding tables_id columns_id resources_id rules_id
removed_table = refl

pub table_first_again : effect (document (others ∷ [])) (act.AddTable (codes "Numbers") 1 numbers.grid.columns)
    ≡ document (record { id = codes "Numbers"; row = 1; grid = no_rows numbers.grid.columns } ∷ others ∷ [])
table_first_again = refl

-- columns that come unsorted stand by their metadata rows
pub unsorted_columns : effect (document []) (act.AddTable (codes "T") 9 (int_column (codes "A") 5 ∷ int_column (codes "B") 3 ∷ []))
    ≡ document (record { id = codes "T"; row = 9; grid = no_rows (int_column (codes "B") 3 ∷ int_column (codes "A") 5 ∷ []) } ∷ [])
unsorted_columns = refl

-- a middle column: its cells go with it, and come back with it
pub removed_middle : inverse both (act.RemoveColumn (codes "Numbers") (codes "A"))
    ≡ act.AddColumn (codes "Numbers") (int_column (codes "A") 5) ∷ act.BulkUpdate (codes "Numbers") (3 ∷ 4 ∷ []) (column (codes "A") (int 2 ∷ int 5 ∷ []) ∷ []) ∷ []
unfolding tables_id columns_id resources_id rules_id
removed_middle = refl

abbrev without_middle : Table
without_middle = record {
  id = codes "Numbers";
  row = 1;
  grid = record {
    columns = int_column (codes "C") 2 ∷ int_column (codes "B") 7 ∷ [];
    rows = 3 ∷ 4 ∷ [];
    cells = (int 1 ∷ int 3 ∷ []) ∷ (int 4 ∷ int 6 ∷ []) ∷ [];
  };
}

pub middle_gone : effect both (act.RemoveColumn (codes "Numbers") (codes "A")) ≡ document (without_middle ∷ others ∷ [])
middle_gone = refl

pub middle_again : effect (effect (document (without_middle ∷ [])) (act.AddColumn (codes "Numbers") (int_column (codes "A") 5))) (act.BulkUpdate (codes "Numbers") (3 ∷ 4 ∷ []) (column (codes "A") (int 2 ∷ int 5 ∷ []) ∷ []))
    ≡ document (numbers ∷ [])
unfolding tables_id columns_id resources_id rules_id
middle_again = refl

-- a row list with a repeat is not valid, and one in any order is; the inverse keeps the order
pub repeated_row : valid both (act.BulkRemove (codes "Numbers") (3 ∷ 3 ∷ [])) ≡ false
unfolding tables_id columns_id resources_id rules_id
repeated_row = refl

pub any_order : valid both (act.BulkRemove (codes "Numbers") (4 ∷ 3 ∷ [])) ≡ true
unfolding tables_id columns_id resources_id rules_id
any_order = refl

pub order_kept : inverse both (act.BulkUpdate (codes "Numbers") (4 ∷ 3 ∷ []) (column (codes "C") (int 9 ∷ int 8 ∷ []) ∷ []))
    ≡ act.BulkUpdate (codes "Numbers") (4 ∷ 3 ∷ []) (column (codes "C") (int 4 ∷ int 1 ∷ []) ∷ []) ∷ []
unfolding tables_id columns_id resources_id rules_id
order_kept = refl

-- the schema tables take no record action, and the metadata tables no schema action
pub schema_record : valid both (act.BulkRemove (codes "_grist_Tables") []) ≡ false
unfolding tables_id columns_id resources_id rules_id
schema_record = refl

pub access_record : valid both (act.BulkRemove (codes "_grist_ACLRules") []) ≡ true
unfolding tables_id columns_id resources_id rules_id
access_record = refl

pub metadata_schema : valid both (act.RemoveTable (codes "_grist_ACLRules")) ≡ false
unfolding tables_id columns_id resources_id rules_id
metadata_schema = refl

-- a schema row that says nothing: a document that has one does not agree
abbrev idle_row : Document
idle_row =
    metadata_table tables_id (tables_grid [])
    ∷ metadata_table columns_id (record { columns = columns_columns; rows = 1 ∷ []; cells = (int 0 ∷ value.Text [] ∷ value.Text [] ∷ value.Bool false ∷ value.Text [] ∷ []) ∷ [] })
    ∷ metadata_table resources_id (no_rows resources_columns) ∷ metadata_table rules_id (no_rows rules_columns) ∷ []

second_rows : Document → ℕ
second_rows (a ∷ b ∷ s) = length b.grid.rows
second_rows _ = 0

pub idle_row_disagrees : SchemaAgrees idle_row → ⊥
unfolding second_rows
idle_row_disagrees h = let one : ◌≡◌ {A = ℕ} 1 0 = ap second_rows h.schema in absurd (omega arith)

-- ---- views

abbrev shown_column : List ℕ → ColType → ViewCol
shown_column id ty = record { id = id; ty = ty; is_formula = false; formula = Some [] }

-- a table without columns has rows all the same
abbrev no_columns : ViewTable
no_columns = record { id = codes "T"; columns = []; rows = 1 ∷ 2 ∷ []; cells = [] ∷ [] ∷ [] }

pub no_columns_shown : changes [] (no_columns ∷ []) ≡ shown.AddTable (codes "T") [] ∷ shown.BulkAdd (codes "T") (1 ∷ 2 ∷ []) [] ∷ []
no_columns_shown = refl

pub no_columns_again : patch [] (changes [] (no_columns ∷ [])) ≡ no_columns ∷ []
no_columns_again = refl

abbrev first : List ℕ → List (List CellValue) → ViewTable
first rows cells = record {
  id = codes "Table1";
  columns = shown_column (codes "A") type.Any ∷ shown_column (codes "B") type.Any ∷ shown_column (codes "C") type.Any ∷ [];
  rows = rows;
  cells = cells;
}

-- a row that is added is shown with all columns
pub row_added : changes (first [] [] ∷ []) (first (1 ∷ []) ((int 5 ∷ value.Text (codes "x") ∷ value.Null ∷ []) ∷ []) ∷ [])
    ≡ shown.BulkAdd (codes "Table1") (1 ∷ []) (column (codes "A") (int 5 ∷ []) ∷ column (codes "B") (value.Text (codes "x") ∷ []) ∷ column (codes "C") (value.Null ∷ []) ∷ []) ∷ []
row_added = refl

-- only the cells that differ are told, column by column; 1 and true differ
pub cells_changed : changes (first (1 ∷ 2 ∷ []) ((int 1 ∷ int 1 ∷ int 0 ∷ []) ∷ (int 7 ∷ int 8 ∷ int 9 ∷ []) ∷ []) ∷ []) (first (1 ∷ 2 ∷ []) ((value.Bool true ∷ int 1 ∷ int 3 ∷ []) ∷ (int 7 ∷ int 8 ∷ int 4 ∷ []) ∷ []) ∷ [])
    ≡ shown.BulkUpdate (codes "Table1") (1 ∷ []) (column (codes "A") (value.Bool true ∷ []) ∷ []) ∷ shown.BulkUpdate (codes "Table1") (1 ∷ 2 ∷ []) (column (codes "C") (int 3 ∷ int 4 ∷ []) ∷ []) ∷ []
cells_changed = refl

-- a row that goes and a row that comes
pub rows_exchanged : changes (first (1 ∷ []) ((int 1 ∷ int 2 ∷ int 3 ∷ []) ∷ []) ∷ []) (first (2 ∷ []) ((int 1 ∷ int 2 ∷ int 3 ∷ []) ∷ []) ∷ [])
    ≡ shown.BulkRemove (codes "Table1") (1 ∷ []) ∷ shown.BulkAdd (codes "Table1") (2 ∷ []) (column (codes "A") (int 1 ∷ []) ∷ column (codes "B") (int 2 ∷ []) ∷ column (codes "C") (int 3 ∷ []) ∷ []) ∷ []
rows_exchanged = refl

-- an update of a row that is not there does not fit, and neither does a row that is added twice
pub absent_row : unfit_at (no_columns ∷ []) (shown.BulkUpdate (codes "T") (1 ∷ []) [] ∷ shown.BulkUpdate (codes "T") (3 ∷ []) [] ∷ []) ≡ Some 1
absent_row = refl

pub row_twice : unfit_at (no_columns ∷ []) (shown.BulkAdd (codes "T") (3 ∷ 3 ∷ []) [] ∷ []) ≡ Some 0
row_twice = refl

-- the later value of a row stands, and a row that is added goes to its place
pub later_stands : patch (first (1 ∷ 3 ∷ []) ((int 1 ∷ int 1 ∷ int 1 ∷ []) ∷ (int 3 ∷ int 3 ∷ int 3 ∷ []) ∷ []) ∷ []) (shown.BulkAdd (codes "Table1") (2 ∷ []) (column (codes "B") (int 2 ∷ []) ∷ []) ∷ shown.BulkUpdate (codes "Table1") (1 ∷ 1 ∷ []) (column (codes "A") (int 8 ∷ int 9 ∷ []) ∷ []) ∷ [])
    ≡ first (1 ∷ 2 ∷ 3 ∷ []) ((int 9 ∷ int 1 ∷ int 1 ∷ []) ∷ (value.Null ∷ int 2 ∷ value.Null ∷ []) ∷ (int 3 ∷ int 3 ∷ int 3 ∷ []) ∷ []) ∷ []
later_stands = refl
