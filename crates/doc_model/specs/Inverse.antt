-- What undoes a document action.
use Rattle.std.specs.Prelude.{ℕ, cond, not, List, [], ◌∷◌, ◌++◌, map, filter, Option, Some, None}
use Rattle.doc_model.specs.declared.action.DocAction.{DocAction}
use Rattle.doc_model.specs.declared.action.DocAction.TheVariants.{BulkAdd, BulkUpdate, BulkRemove, AddTable, RemoveTable, RenameTable, AddColumn, RemoveColumn, RenameColumn, ModifyColumn}
use Rattle.doc_model.specs.declared.column.CellColumn.{CellColumn}
use Rattle.doc_model.specs.declared.column.ColDef.{ColDef}
use Rattle.doc_model.specs.ByIds.{find_id, by_id}
use Rattle.doc_model.specs.Grid.{Grid}
use Rattle.doc_model.specs.Records.{given_id, column_of}
use Rattle.doc_model.specs.Column.{column_id}
use Rattle.doc_model.specs.Document.{Table, Document, table_id}
use Rattle.doc_model.specs.Apply.{apply}
use Rattle.doc_model.specs.ViewEdits.{if_any}

-- what the thing makes, where it is there
abbrev pub made_of : {X : Type 0} → Option X → (X → List DocAction) → List DocAction
made_of None f = []
made_of (Some x) f = f x

-- the cells of all data columns in these rows, by column id
abbrev pub data_columns : Grid ColDef → List ℕ → List CellColumn
data_columns g rows =
    map (λ (d : ColDef). column_of column_id g rows d.id)
    (by_id column_id (filter (λ (d : ColDef). not d.info.is_formula) g.columns))

-- the old cells of the given columns, by column id
abbrev pub old_columns : Grid ColDef → List ℕ → List CellColumn → List CellColumn
old_columns g rows ks =
    map (λ (k : CellColumn). column_of column_id g rows k.id) (by_id given_id ks)

-- a table's column comes back in its place, and then its cells where it has some of its own
abbrev pub column_again : List ℕ → Grid ColDef → ColDef → List DocAction
column_again table g d =
    AddColumn table d
    ∷ cond d.info.is_formula [] (if_any g.rows
    (BulkUpdate table g.rows (column_of column_id g g.rows d.id ∷ [])))

-- a table comes back in its place, and then its rows
abbrev pub table_again : Table → List DocAction
table_again t =
    AddTable t.id t.row t.grid.columns
    ∷ if_any t.grid.rows (BulkAdd t.id t.grid.rows (data_columns t.grid t.grid.rows))

-- the actions that undo an action, taken at the document before it
abbrev pub inverse : Document → DocAction → List DocAction
inverse s (BulkAdd table rows ks) = BulkRemove table rows ∷ []
inverse s (BulkUpdate table rows ks) = made_of (find_id table_id table s) (λ t.
    BulkUpdate table rows (old_columns t.grid rows ks) ∷ [])
inverse s (BulkRemove table rows) = made_of (find_id table_id table s) (λ t.
    BulkAdd table rows (data_columns t.grid rows) ∷ [])
inverse s (AddTable table row columns) = RemoveTable table ∷ []
inverse s (RemoveTable table) = made_of (find_id table_id table s) table_again
inverse s (RenameTable table new) = RenameTable new table ∷ []
inverse s (AddColumn table d) = RemoveColumn table d.id ∷ []
inverse s (RemoveColumn table column) = made_of (find_id table_id table s) (λ t.
    made_of (find_id column_id column t.grid.columns) (column_again table t.grid))
inverse s (RenameColumn table column new) = RenameColumn table new column ∷ []
inverse s (ModifyColumn table column info) = made_of (find_id table_id table s) (λ t.
    made_of (find_id column_id column t.grid.columns) (λ d. ModifyColumn table column d.info ∷ []))

-- the actions that undo actions: the inverses in reverse order
abbrev pub inverse_all : Document → List DocAction → List DocAction
inverse_all s [] = []
inverse_all s (a ∷ as') = inverse_all (apply s a) as' ++ inverse s a
