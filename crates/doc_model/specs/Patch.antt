-- A view after changes, and where a change fits.
use Rattle.std.specs.Prelude.{ℕ, ◌+◌, Bool, false, cond, not, ◌&&◌, List, [], ◌∷◌, Option, Some, None}
use Rattle.std.specs.List.{list_all}
use Rattle.std.specs.Option.{option_map}
use Rattle.doc_model.specs.declared.column.CellColumn.{CellColumn}
use Rattle.doc_model.specs.declared.view.ViewCol.{ViewCol}
use Rattle.doc_model.specs.declared.view.ViewTable.{ViewTable}
use Rattle.doc_model.specs.declared.view.ViewAction.{ViewAction}
use Rattle.doc_model.specs.declared.view.ViewAction.TheVariants.{AddTable, RemoveTable, AddColumn, RemoveColumn, ModifyColumn, BulkAdd, BulkUpdate, BulkRemove}
use Rattle.doc_model.specs.ByIds.{find_id, has_id, are_distinct, put_by_id, by_id, with_id, without_id}
use Rattle.doc_model.specs.Rows.{has_no_duplicates, all_in, none_in}
use Rattle.doc_model.specs.Grid.{Grid}
use Rattle.doc_model.specs.Records.{given_id}
use Rattle.doc_model.specs.ViewEdits.{shown_id, Edit, remove_column, add_column, modify_column, remove, add, update, edited}
use Rattle.doc_model.specs.Changes.{shown_table_id, grid, table}

-- the table without rows
abbrev pub bare : List ViewCol → Grid ViewCol
bare columns = record { columns = by_id shown_id columns; rows = []; cells = [] }

-- the view with its table of this id edited
abbrev pub edit_table : List ℕ → Edit → List ViewTable → List ViewTable
edit_table t e v = with_id shown_table_id t (λ s. table s.id (edited e (grid s))) v

-- the view after an action
abbrev pub patched : ViewAction → List ViewTable → List ViewTable
patched (AddTable t columns) v = put_by_id shown_table_id (table t (bare columns)) v
patched (RemoveTable t) v = without_id shown_table_id t v
patched (AddColumn t d) v = edit_table t (add_column d) v
patched (RemoveColumn t c) v = edit_table t (remove_column c) v
patched (ModifyColumn t d) v = edit_table t (modify_column d) v
patched (BulkAdd t rows ks) v = edit_table t (add rows ks) v
patched (BulkUpdate t rows ks) v = edit_table t (update rows ks) v
patched (BulkRemove t rows) v = edit_table t (remove rows) v

-- the view after actions, in order
abbrev pub patch : List ViewTable → List ViewAction → List ViewTable
patch v [] = v
patch v (a ∷ as') = patch (patched a v) as'

-- whether an edit names what is there and adds what is not; an added thing stands once
abbrev pub edit_fits : Edit → Grid ViewCol → Bool
edit_fits (remove_column c) g = has_id shown_id g.columns c
edit_fits (add_column d) g = not (has_id shown_id g.columns d.id)
edit_fits (modify_column d) g = has_id shown_id g.columns d.id
edit_fits (remove rows) g = all_in rows g.rows
edit_fits (add rows ks) g =
    has_no_duplicates rows && none_in rows g.rows
    && are_distinct given_id ks && list_all (λ (k : CellColumn). has_id shown_id g.columns k.id) ks
edit_fits (update rows ks) g =
    all_in rows g.rows && list_all (λ (k : CellColumn). has_id shown_id g.columns k.id) ks

-- whether the table of this id is there and the edit fits it
abbrev pub fits_table : List ℕ → Edit → List ViewTable → Bool
fits_table t e v =
    elim (find_id shown_table_id t v) [ None ↦ false | Some s ↦ edit_fits e (grid s) ]

-- whether an action names what is there and adds what is not
abbrev pub fits : ViewAction → List ViewTable → Bool
fits (AddTable t columns) v = not (has_id shown_table_id v t) && are_distinct shown_id columns
fits (RemoveTable t) v = has_id shown_table_id v t
fits (AddColumn t d) v = fits_table t (add_column d) v
fits (RemoveColumn t c) v = fits_table t (remove_column c) v
fits (ModifyColumn t d) v = fits_table t (modify_column d) v
fits (BulkAdd t rows ks) v = fits_table t (add rows ks) v
fits (BulkUpdate t rows ks) v = fits_table t (update rows ks) v
fits (BulkRemove t rows) v = fits_table t (remove rows) v

-- the index, from 0, of the first action that does not fit where it stands
abbrev pub unfit_at : List ViewTable → List ViewAction → Option ℕ
unfit_at v [] = None
unfit_at v (a ∷ as') =
    cond (fits a v) (option_map (λ index. index + 1) (unfit_at (patched a v) as')) (Some 0)
