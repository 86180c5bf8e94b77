-- What the attributes of a user are in a document whose cells are evaluated.
use Rattle.std.specs.Prelude.{ℕ, Bool, false, List, map, find, Option, Some, None}
use Rattle.cell_types.specs.declared.value.CellValue.{CellValue}
use Rattle.cell_types.specs.declared.value.CellValue.TheVariants as value
use Rattle.doc_model.specs.declared.column.ColDef.{ColDef}
use Rattle.doc_model.specs.declared.user.User.{User}
use Rattle.doc_model.specs.Column.{column_id}
use Rattle.doc_model.specs.Document.{Document}
use Rattle.doc_model.specs.Grid.{cell}
use Rattle.doc_model.specs.Readers.{cell_at}
use Rattle.doc_readers.specs.Parts.{grid_at}
use Rattle.value_ops.specs.Equality.{is_equal}
use Rattle.acl_formula.specs.declared.user_info.Attribute.{Attribute}
use Rattle.acl_formula.specs.declared.user_info.AttributeRow.{AttributeRow}
use Rattle.acl_formula.specs.declared.user_info.NamedCell.{NamedCell}
use Rattle.acl_formula.specs.declared.user_info.UserInfo.{UserInfo}
use Rattle.user_attrs.specs.declared.attribute_rule.AttributeRule.{AttributeRule}
use Rattle.user_attrs.specs.declared.attribute_rule.UserProperty.{UserProperty}
use Rattle.user_attrs.specs.declared.attribute_rule.UserProperty.TheVariants as property

-- a property of a user as a value
abbrev pub property_value : User → UserProperty → CellValue
property_value u property.Email = value.Text u.email
property_value u property.Name = value.Text u.name
property_value u property.UserId = value.Int u.id

-- whether a cell is there and equals the value
abbrev pub holds : CellValue → Option CellValue → Bool
holds v None = false
holds v (Some w) = is_equal w v

-- the first of these rows whose cell in the column equals the value
abbrev pub first_with : Document → List ℕ → List ℕ → CellValue → List ℕ → Option ℕ
first_with s table column v rows = find (λ r. holds v (cell_at s table column r)) rows

-- the least row of the table with such a cell, since the rows of a table ascend; none where the
-- table or the column is not there
abbrev pub row_with : Document → List ℕ → List ℕ → CellValue → Option ℕ
row_with s table column v = first_with s table column v (grid_at s table).rows

-- the cell of a column in a row, beside the column's id
abbrev pub cell_of : Document → List ℕ → ℕ → ColDef → NamedCell
cell_of s table r d =
    record { column = d.id; value = cell column_id (grid_at s table) d.id r }

-- all cells of a row, in the order of the columns
abbrev pub cells_of : Document → List ℕ → ℕ → List NamedCell
cells_of s table r = map (cell_of s table r) (grid_at s table).columns

-- a row with its cells, where there is one
abbrev pub kept_row : Document → List ℕ → Option ℕ → Option AttributeRow
kept_row s table None = None
kept_row s table (Some r) = Some (record { row = r; cells = cells_of s table r })

-- the row that an attribute finds for a user
abbrev pub found_in : Document → User → AttributeRule → Option AttributeRow
found_in s u a =
    kept_row s a.table (row_with s a.table a.column (property_value u a.property))

-- an attribute of a user
abbrev pub attribute_for : Document → User → AttributeRule → Attribute
attribute_for s u a = record { name = a.name; row = found_in s u a }

-- a user with these attributes
abbrev pub user_info : List AttributeRule → User → Document → UserInfo
user_info rules u s = record { user = u; attributes = map (attribute_for s u) rules }
