-- What a document action does.
use Rattle.std.specs.Prelude.{ℕ, Bool, true, cond, ◌&&◌, List, [], ◌∷◌}
use Rattle.std.specs.Str.{bytes_eq}
use Rattle.doc_model.specs.declared.action.DocAction.{DocAction}
use Rattle.doc_model.specs.declared.action.DocAction.TheVariants.{BulkAdd, BulkUpdate, BulkRemove, AddTable, RemoveTable, RenameTable, AddColumn, RemoveColumn, RenameColumn, ModifyColumn}
use Rattle.doc_model.specs.declared.column.ColDef.{ColDef}
use Rattle.doc_model.specs.declared.column.ColInfo.{ColInfo}
use Rattle.doc_model.specs.ByIds.{with_id, without_id}
use Rattle.doc_model.specs.Grid.{Grid, grid_of, cell}
use Rattle.doc_model.specs.Records.{add_rows, update_rows, remove_rows}
use Rattle.doc_model.specs.Column.{column_id, column_row, start_of}
use Rattle.doc_model.specs.Document.{Table, Document, table_id, table_row, on_grid, renamed, with_table, put_by_row, by_row}
use Rattle.doc_model.specs.Schema.{with_schema, resources, rules, plain_tables}
use Rattle.doc_model.specs.Valid.{valid}

-- a table of these columns in the order of their rows, without rows
abbrev pub new_table : List ℕ → ℕ → List ColDef → Table
new_table id row columns = record {
  id = id;
  row = row;
  grid = record { columns = by_row column_row columns; rows = []; cells = [] };
}

-- the column in its place by row, its cells as new ones are
abbrev pub add_column : ColDef → Grid ColDef → Grid ColDef
add_column new g =
    grid_of (put_by_row column_row new g.columns) g.rows (λ d r.
    cond (bytes_eq d.id new.id) (start_of new) (cell column_id g d.id r))

abbrev pub remove_column : List ℕ → Grid ColDef → Grid ColDef
remove_column c g =
    grid_of (without_id column_id c g.columns) g.rows (λ d r. cell column_id g d.id r)

-- the column of this id changed, and all cells as they were
abbrev pub with_column : List ℕ → (ColDef → ColDef) → Grid ColDef → Grid ColDef
with_column c f g = record {
  columns = with_id column_id c f g.columns;
  rows = g.rows;
  cells = g.cells;
}

abbrev pub with_name : List ℕ → ColDef → ColDef
with_name new d = record { id = new; info = d.info; row = d.row }

abbrev pub with_info : ColInfo → ColDef → ColDef
with_info info d = record { id = d.id; info = info; row = d.row }

-- the document whose plain tables are these; the schema tables describe them
abbrev pub with_plain : Document → List Table → Document
with_plain s plain = with_schema (resources s) (rules s) plain

-- the document with a plain table's columns, rows and cells changed
abbrev pub with_plain_table : List ℕ → (Table → Table) → Document → Document
with_plain_table id f s = with_plain s (with_table id f (plain_tables s))

-- the effect of a valid action
abbrev pub effect : Document → DocAction → Document
effect s (BulkAdd table rows ks) =
    with_table table (on_grid (add_rows column_id start_of rows ks)) s
effect s (BulkUpdate table rows ks) = with_table table (on_grid (update_rows column_id rows ks)) s
effect s (BulkRemove table rows) = with_table table (on_grid (remove_rows column_id rows)) s
effect s (AddTable table row columns) =
    with_plain s (put_by_row table_row (new_table table row columns) (plain_tables s))
effect s (RemoveTable table) = with_plain s (without_id table_id table (plain_tables s))
effect s (RenameTable table new) = with_plain_table table (renamed new) s
effect s (AddColumn table d) = with_plain_table table (on_grid (add_column d)) s
effect s (RemoveColumn table column) = with_plain_table table (on_grid (remove_column column)) s
effect s (RenameColumn table column new) =
    with_plain_table table (on_grid (with_column column (with_name new))) s
effect s (ModifyColumn table column info) =
    with_plain_table table (on_grid (with_column column (with_info info))) s

-- the document after an action; one that is not valid leaves it
abbrev pub apply : Document → DocAction → Document
apply s a = cond (valid s a) (effect s a) s

-- the document after actions, in order
abbrev pub apply_all : Document → List DocAction → Document
apply_all s [] = s
apply_all s (a ∷ as') = apply_all (apply s a) as'

-- whether each action is valid at its place
abbrev pub all_valid : Document → List DocAction → Bool
all_valid s [] = true
all_valid s (a ∷ as') = valid s a && all_valid (apply s a) as'
