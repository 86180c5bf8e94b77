-- What stands against a user action, told from the action and its user's view alone.
use Rattle.std.specs.Prelude.{ℕ, ℤ, Bool, true, false, cond, not, ◌&&◌, List, [], ◌∷◌, length, Option, Some, None}
use Rattle.std.specs.List.{list_all, list_any}
use Rattle.std.specs.Ordering.{int_eq}
use Rattle.cell_types.specs.NameRule.{is_name}
use Rattle.cell_types.specs.Reference.{row_number}
use Rattle.doc_model.specs.declared.user_action.UserAction.{UserAction}
use Rattle.doc_model.specs.declared.user_action.UserAction.TheVariants.{Add, Update, Remove, AddTable, RenameTable, AddColumn, RemoveColumn, RenameColumn, ModifyColumn}
use Rattle.doc_model.specs.declared.user_action.UserCol.{UserCol}
use Rattle.doc_model.specs.declared.user_action.UserColumn.{UserColumn}
use Rattle.doc_model.specs.declared.view.ViewCol.{ViewCol}
use Rattle.doc_model.specs.declared.view.ViewTable.{ViewTable}
use Rattle.doc_model.specs.ByIds.{find_id, has_id}
use Rattle.doc_model.specs.Changes.{shown_table_id}
use Rattle.doc_model.specs.Column.{is_base}
use Rattle.doc_model.specs.MetadataIds.{is_schema_id, is_acl_id, is_metadata_id}
use Rattle.doc_model.specs.Rows.{has}
use Rattle.doc_model.specs.ViewEdits.{shown_id}
use Rattle.doc_model.specs.declared.refusal.Refusal.{Refusal}
use Rattle.doc_model.specs.declared.refusal.Refusal.TheVariants as refusal
use Rattle.user_actions.specs.Columns.{may_be_new, may_become}
use Rattle.user_actions.specs.Given.{has_base, has_good_id, have_no_duplicates, is_row}
use Rattle.user_actions.specs.Kinds.{is_about_rows, table_of}
use Rattle.user_objections.specs.RuleRows.{are_good_rows}

-- the objection where it applies, or else the next one
abbrev pub against : Bool → Refusal → Option Refusal → Option Refusal
against applies this next = cond applies (Some this) next

-- what stands against an action on a table of the view
abbrev pub in_table : List ViewTable → List ℕ → (ViewTable → Option Refusal) → Option Refusal
in_table v table rest =
    elim (find_id shown_table_id table v) [ None ↦ Some refusal.NoSuchTable | Some t ↦ rest t ]

-- a record action
abbrev pub in_records : List ViewTable → List ℕ → (ViewTable → Option Refusal) → Option Refusal
in_records v table rest = against (is_schema_id table) refusal.MetaTable (in_table v table rest)

-- a schema action
abbrev pub in_schema : List ViewTable → List ℕ → (ViewTable → Option Refusal) → Option Refusal
in_schema v table rest = against (is_metadata_id table) refusal.MetaTable (in_table v table rest)

-- rows that are given: each once, and each in the table
abbrev pub on_rows : ViewTable → List ℤ → Option Refusal → Option Refusal
on_rows t rows next =
    against (not (have_no_duplicates rows)) refusal.DuplicateRow
    (against (not (list_all (is_row t.rows) rows)) refusal.NoSuchRow next)

abbrev pub is_shown : List ViewCol → UserColumn → Bool
is_shown columns k = has_id shown_id columns k.id

-- whether the column has a formula
abbrev pub is_computed : List ViewCol → UserColumn → Bool
is_computed columns k =
    elim (find_id shown_id k.id columns) [ None ↦ false | Some d ↦ d.is_formula ]

-- columns that are given values: each in the table, and none with a formula
abbrev pub on_columns : ViewTable → List UserColumn → Option Refusal → Option Refusal
on_columns t ks next =
    against (not (list_all (is_shown t.columns) ks)) refusal.NoSuchColumn
    (against (list_any (is_computed t.columns) ks) refusal.FormulaColumn next)

-- values that are given
abbrev pub on_values : List UserColumn → Option Refusal → Option Refusal
on_values ks next = against (not (list_all has_base ks)) refusal.BadValue next

-- the rows that result, in the tables of access rules: those of these numbers, or so many new ones
abbrev pub on_rules : List ViewTable → ViewTable → List UserColumn → List ℤ → ℕ → Option Refusal
on_rules v t ks rows count =
    against (is_acl_id t.id && not (are_good_rows v t ks rows count)) refusal.BadRule None

-- a column that is named
abbrev pub on_column : ViewTable → List ℕ → Option Refusal → Option Refusal
on_column t column next = against (not (has_id shown_id t.columns column)) refusal.NoSuchColumn next

-- a new id
abbrev pub on_name : List ℕ → Option Refusal → Option Refusal
on_name id next = against (not (is_name id)) refusal.BadName next

-- what is said of a new column
abbrev pub on_info : UserCol → Option Refusal
on_info c = against (not (may_be_new c)) refusal.BadValue None

-- what is said of a column that is there
abbrev pub on_change : ViewTable → UserCol → Option Refusal
on_change t c =
    elim (find_id shown_id c.id t.columns) [
      | None ↦ Some refusal.NoSuchColumn
      | Some d ↦ against (not (may_become d.is_formula c)) refusal.BadValue None
    ]

-- a new table: its id and those of its columns, and what is said of these
abbrev pub on_table : List ℕ → List UserCol → Option Refusal
on_table table cs =
    against (not (is_name table && list_all has_good_id cs)) refusal.BadName
    (against (not (list_all may_be_new cs)) refusal.BadValue None)

-- a record action on a table that is there
abbrev pub to_records : List ViewTable → ViewTable → UserAction → Option Refusal
to_records v t (Add table single count has_row_ids ks) =
    on_columns t ks
    (against has_row_ids refusal.BadValue (on_values ks (on_rules v t ks [] count)))
to_records v t (Update table single rows ks) =
    on_rows t rows (on_columns t ks (on_values ks (on_rules v t ks rows (length rows))))
to_records v t (Remove table single rows) = on_rows t rows None
to_records v t _ = None

-- a schema action on a table that is there
abbrev pub to_schema : ViewTable → UserAction → Option Refusal
to_schema t (RenameTable table new) = on_name new None
to_schema t (AddColumn table c) = on_name c.id (on_info c)
to_schema t (RemoveColumn table column) = on_column t column None
to_schema t (RenameColumn table column new) = on_column t column (on_name new None)
to_schema t (ModifyColumn table c) = on_change t c
to_schema t _ = None

-- the first objection that applies
abbrev pub objection_to : List ViewTable → UserAction → Option Refusal
objection_to v (AddTable table cs) =
    against (is_metadata_id table) refusal.MetaTable (on_table table cs)
objection_to v a =
    cond (is_about_rows a) (in_records v (table_of a) (λ t. to_records v t a))
    (in_schema v (table_of a) (λ t. to_schema t a))
