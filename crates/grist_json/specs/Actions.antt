-- The JSON of changes of views.
use Rattle.std.specs.Prelude.{ℕ, List, codes, Option, Some, None, fold}
use Rattle.serde_json.specs.Data.{Data, null, boolean, string, array, object, Items, no_items, item, Members, no_members, member, put}
use Rattle.doc_model.specs.declared.column.CellColumn.{CellColumn}
use Rattle.doc_model.specs.declared.view.ViewCol.{ViewCol}
use Rattle.doc_model.specs.declared.view.ViewAction.{ViewAction}
use Rattle.doc_model.specs.declared.view.ViewAction.TheVariants as action
use Rattle.doc_model.specs.Schema.{type_text}
use Rattle.grist_json.specs.Values.{array_of, rows_data, values_data}

-- a formula that is hidden is null
abbrev pub formula_data : Option (List ℕ) → Data
formula_data None = null
formula_data (Some t) = string t

-- what a column is, with its id
abbrev pub column_data : ViewCol → Data
column_data c =
    object (member (codes "formula") (formula_data c.formula)
    (member (codes "id") (string c.id)
    (member (codes "isFormula") (boolean c.is_formula)
    (member (codes "type") (string (type_text c.ty)) no_members))))

-- what a column is, without its id
abbrev pub info_members : ViewCol → Members
info_members c =
    member (codes "formula") (formula_data c.formula)
    (member (codes "isFormula") (boolean c.is_formula)
    (member (codes "type") (string (type_text c.ty)) no_members))

abbrev pub info_data : ViewCol → Data
info_data c = object (info_members c)

abbrev pub infos_data : List ViewCol → Data
infos_data cs = array_of column_data cs

-- the values of one column more, by its id
abbrev pub put_column : Members → CellColumn → Members
put_column ms c = put c.id (values_data c.values) ms

-- the values of columns, by id
abbrev pub columns_data : List CellColumn → Data
columns_data cs = object (fold put_column no_members cs)

-- [name,table,..]
abbrev pub action_of : List ℕ → List ℕ → Items → Data
action_of name table more = array (item (string name) (item (string table) more))

abbrev pub action_data : ViewAction → Data
action_data (action.AddTable t cs) = action_of (codes "AddTable") t (item (infos_data cs) no_items)
action_data (action.RemoveTable t) = action_of (codes "RemoveTable") t no_items
action_data (action.AddColumn t c) =
    action_of (codes "AddColumn") t (item (string c.id) (item (info_data c) no_items))
action_data (action.RemoveColumn t c) =
    action_of (codes "RemoveColumn") t (item (string c) no_items)
action_data (action.ModifyColumn t c) =
    action_of (codes "ModifyColumn") t (item (string c.id) (item (info_data c) no_items))
action_data (action.BulkAdd t rows cs) =
    action_of (codes "BulkAddRecord") t (item (rows_data rows) (item (columns_data cs) no_items))
action_data (action.BulkUpdate t rows cs) =
    action_of (codes "BulkUpdateRecord") t (item (rows_data rows) (item (columns_data cs) no_items))
action_data (action.BulkRemove t rows) =
    action_of (codes "BulkRemoveRecord") t (item (rows_data rows) no_items)

abbrev pub actions_data : List ViewAction → Data
actions_data actions = array_of action_data actions
