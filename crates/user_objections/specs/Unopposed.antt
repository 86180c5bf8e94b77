-- Actions that nothing stands against, in a view of a document.
use Rattle.std.specs.Prelude.{true, List, ◌≡◌, Some, None}
use Rattle.std.specs.List.{AllByRecursion}
use Rattle.doc_model.specs.declared.column.ColDef.{ColDef}
use Rattle.doc_model.specs.declared.user_action.UserAction.{UserAction}
use Rattle.doc_model.specs.declared.view.ViewCol.{ViewCol}
use Rattle.doc_model.specs.declared.view.ViewTable.{ViewTable}
use Rattle.doc_model.specs.ByIds.{find_id}
use Rattle.doc_model.specs.Column.{column_id}
use Rattle.doc_model.specs.Document.{Table, Document, table_id}
use Rattle.doc_model.specs.Rows.{all_in}
use Rattle.user_actions.specs.Allowed.{is_allowed}
use Rattle.user_objections.specs.Objections.{objection_to}

-- a column of the view is one of the table, of the same type and kind
pub record IsColumnOf (t : Table) (c : ViewCol) : Type 0 where
  pub column : ColDef
  pub found : find_id column_id c.id t.grid.columns ≡ Some column
  pub same_type : column.info.ty ≡ c.ty
  pub same_kind : column.info.is_formula ≡ c.is_formula

-- a table of the view is one of the document, with some of its columns and rows
pub record IsTableOf (s : Document) (v : ViewTable) : Type 0 where
  pub table : Table
  pub found : find_id table_id v.id s ≡ Some table
  pub columns : AllByRecursion (IsColumnOf table) v.columns
  pub rows : all_in v.rows table.grid.rows ≡ true

-- nothing stands against the action in some view of the document
pub record IsUnopposed (s : Document) (a : UserAction) : Type 0 where
  pub view : List ViewTable
  pub shown : AllByRecursion (IsTableOf s) view
  pub none : objection_to view a ≡ None

-- the document allows what nothing stands against
abbrev pub UnopposedLaw : Type 0
UnopposedLaw = (s : Document) (a : UserAction) → IsUnopposed s a → is_allowed s a ≡ true
