-- What an action does to the table that it names, and where it fits there.
use Rattle.std.specs.Prelude.{ℕ, Bool, false, List, None, Option, Some}
use Rattle.doc_model.specs.declared.view.ViewAction.{ViewAction}
use Rattle.doc_model.specs.declared.view.ViewAction.TheVariants.{AddColumn, AddTable, BulkAdd, BulkRemove, BulkUpdate, ModifyColumn, RemoveColumn, RemoveTable}
use Rattle.doc_model.specs.declared.view.ViewTable.{ViewTable}
use Rattle.doc_model.specs.ByIds.{find_id}
use Rattle.doc_model.specs.Changes.{grid, shown_table_id, table}
use Rattle.doc_model.specs.Patch.{edit_fits}
use Rattle.doc_model.specs.ViewEdits.{add, add_column, Edit, edited, modify_column, remove, remove_column, update}

-- what the action does to a table, if it is about one that is there
abbrev pub edit_of : ViewAction → Option Edit
edit_of (AddTable t columns) = None
edit_of (RemoveTable t) = None
edit_of (AddColumn t d) = Some (add_column d)
edit_of (RemoveColumn t c) = Some (remove_column c)
edit_of (ModifyColumn t d) = Some (modify_column d)
edit_of (BulkAdd t rows ks) = Some (add rows ks)
edit_of (BulkUpdate t rows ks) = Some (update rows ks)
edit_of (BulkRemove t rows) = Some (remove rows)

-- the table after the action
abbrev pub act : ViewAction → ViewTable → ViewTable
act a s = elim (edit_of a) [ None ↦ s | Some e ↦ table s.id (edited e (grid s)) ]

-- whether the action is about a table that is there, and fits this one
abbrev pub act_fits : ViewAction → ViewTable → Bool
act_fits a s = elim (edit_of a) [ None ↦ false | Some e ↦ edit_fits e (grid s) ]

-- whether there is a table of this id, and the action fits it
abbrev pub fits_there : List ℕ → ViewAction → List ViewTable → Bool
fits_there t a v = elim (find_id shown_table_id t v) [ None ↦ false | Some s ↦ act_fits a s ]
