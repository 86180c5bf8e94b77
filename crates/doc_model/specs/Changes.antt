-- Views, and the changes that lead from one to another.
use Rattle.std.specs.Prelude.{ℕ, not, List, [], ◌∷◌, ◌++◌, map, filter, Some, None}
use Rattle.std.specs.List.{AllByRecursion}
use Rattle.doc_model.specs.declared.view.ViewCol.{ViewCol}
use Rattle.doc_model.specs.declared.view.ViewTable.{ViewTable}
use Rattle.doc_model.specs.declared.view.ViewAction.{ViewAction}
use Rattle.doc_model.specs.declared.view.ViewAction.TheVariants.{AddTable, RemoveTable, AddColumn, RemoveColumn, ModifyColumn, BulkAdd, BulkUpdate, BulkRemove}
use Rattle.doc_model.specs.ByIds.{find_id, has_id, IsByIds}
use Rattle.doc_model.specs.Grid.{Grid}
use Rattle.doc_model.specs.ViewEdits.{IsShown, Edit, remove_column, add_column, modify_column, remove, add, update, if_any, whole, edits}

abbrev pub shown_table_id : ViewTable → List ℕ
shown_table_id t = t.id

-- the columns, rows and cells of a table
abbrev pub grid : ViewTable → Grid ViewCol
grid t = record { columns = t.columns; rows = t.rows; cells = t.cells }

-- the table with this id, and these columns, rows and cells
abbrev pub table : List ℕ → Grid ViewCol → ViewTable
table id g = record { id = id; columns = g.columns; rows = g.rows; cells = g.cells }

-- a view: its tables stand by id
pub record IsView (v : List ViewTable) : Type 0 where
  pub by_ids : IsByIds shown_table_id v
  pub tables : AllByRecursion (λ t. IsShown (grid t)) v

-- the edit as an action on the table of this id
abbrev pub on_table : List ℕ → Edit → ViewAction
on_table t (remove_column c) = RemoveColumn t c
on_table t (add_column d) = AddColumn t d
on_table t (modify_column d) = ModifyColumn t d
on_table t (remove rows) = BulkRemove t rows
on_table t (add rows ks) = BulkAdd t rows ks
on_table t (update rows ks) = BulkUpdate t rows ks

-- a new table, and then all its rows
abbrev pub introduced : ViewTable → List ViewAction
introduced t =
    AddTable t.id t.columns
    ∷ map (on_table t.id) (if_any t.rows (add t.rows (whole (grid t) t.rows)))

-- the changes of a table that is there in both views
abbrev pub revised : List ViewTable → ViewTable → List ViewAction
revised v t =
    elim (find_id shown_table_id t.id v) [
      | None ↦ []
      | Some s ↦ map (on_table t.id) (edits (grid s) (grid t))
    ]

-- what is done for each, one after another
abbrev pub for_each : {X Y : Type 0} → (X → List Y) → List X → List Y
for_each f [] = []
for_each f (x ∷ xs) = f x ++ for_each f xs

-- the changes that lead from v to w: tables that are gone, new tables, and then the others
abbrev pub changes : List ViewTable → List ViewTable → List ViewAction
changes v w =
    map (λ (s : ViewTable). RemoveTable s.id) (filter (λ s. not (has_id shown_table_id w s.id)) v)
    ++ for_each introduced (filter (λ t. not (has_id shown_table_id v t.id)) w)
    ++ for_each (revised v) w
