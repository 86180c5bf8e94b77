-- Rows of the tables of access rules, as an action would leave them.
use Rattle.std.specs.Prelude.{ℕ, suc, zero, ℤ, Bool, true, cond, ◌&&◌, List, [], Option, Some, None, slice_get}
use Rattle.std.specs.Str.{bytes_eq}
use Rattle.cell_types.specs.declared.column_type.ColType.{ColType}
use Rattle.cell_types.specs.declared.column_type.ColType.TheVariants as type
use Rattle.cell_types.specs.declared.value.CellValue.{CellValue}
use Rattle.cell_types.specs.Conversion.{default_value, fit}
use Rattle.cell_types.specs.Reference.{row_number}
use Rattle.doc_model.specs.declared.user_action.UserColumn.{UserColumn}
use Rattle.doc_model.specs.declared.view.ViewTable.{ViewTable}
use Rattle.doc_model.specs.ByIds.{find_id}
use Rattle.doc_model.specs.Changes.{grid, shown_table_id}
use Rattle.doc_model.specs.Grid.{cell}
use Rattle.doc_model.specs.MetadataIds.{resources_id}
use Rattle.doc_model.specs.ViewEdits.{shown_id}
use Rattle.doc_model.specs.WellFormed.{user_id}
use Rattle.acl_rows.specs.GoodRows.{is_good_resource, is_good_rule}

-- the value that a column is given, at an index of the action's rows
abbrev pub value_given : List UserColumn → ℕ → List ℕ → Option CellValue
value_given ks index column =
    elim (find_id user_id column ks) [ None ↦ None | Some k ↦ slice_get k.values index ]

-- the type of a column that is seen
abbrev pub type_shown : ViewTable → List ℕ → ColType
type_shown t column =
    elim (find_id shown_id column t.columns) [ None ↦ type.Any | Some d ↦ d.ty ]

-- the cell that is there before, in a row that is seen; in a new one it is the default
abbrev pub cell_before : ViewTable → Option ℕ → List ℕ → CellValue
cell_before t None column = default_value (type_shown t column)
cell_before t (Some r) column = cell shown_id (grid t) column r

-- what a column is given, as the column holds it, and else what is there before
abbrev pub given_or : ViewTable → List UserColumn → ℕ → (List ℕ → CellValue) → List ℕ → CellValue
given_or t ks index before column =
    elim (value_given ks index column) [
      | None ↦ before column
      | Some v ↦ fit (type_shown t column) v
    ]

-- the row that an action names at an index; a new row has no number
abbrev pub row_named : List ℤ → ℕ → Option ℕ
row_named rows index = elim (slice_get rows index) [ None ↦ None | Some n ↦ row_number n ]

-- the cells of the row that results at an index
abbrev pub row_after : ViewTable → List UserColumn → List ℤ → ℕ → List ℕ → CellValue
row_after t ks rows index = given_or t ks index (cell_before t (row_named rows index))

-- the rows of the resources that are seen
abbrev pub resource_rows : List ViewTable → List ℕ
resource_rows v = elim (find_id shown_table_id resources_id v) [ None ↦ [] | Some t ↦ t.rows ]

-- whether a row is good in that one of the two tables
abbrev pub is_good_row : List ViewTable → List ℕ → (List ℕ → CellValue) → Bool
is_good_row v table row =
    cond (bytes_eq resources_id table) (is_good_resource row) (is_good_rule (resource_rows v) row)

-- whether all numbers below this one pass the test
abbrev pub all_below : (ℕ → Bool) → ℕ → Bool
all_below test zero = true
all_below test (suc n) = all_below test n && test n

-- whether so many rows that result are good: those of these numbers, or new ones
abbrev pub are_good_rows : List ViewTable → ViewTable → List UserColumn → List ℤ → ℕ → Bool
are_good_rows v t ks rows count =
    all_below (λ index. is_good_row v t.id (row_after t ks rows index)) count
