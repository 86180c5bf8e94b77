-- The items of a list value, as values.
use Rattle.std.specs.Prelude.{List, map}
use Rattle.cell_types.specs.declared.value.CellItem.{CellItem}
use Rattle.cell_types.specs.declared.value.CellItem.TheVariants as item
use Rattle.cell_types.specs.declared.value.CellValue.{CellValue}
use Rattle.cell_types.specs.declared.value.CellValue.TheVariants as value

-- an item is a value of the same kind
abbrev pub value_of_item : CellItem → CellValue
value_of_item item.Null = value.Null
value_of_item (item.Int n) = value.Int n
value_of_item (item.Bool b) = value.Bool b
value_of_item (item.Text t) = value.Text t
value_of_item (item.Date n) = value.Date n
value_of_item (item.Rec r) = value.Rec r

-- the values in a list value
abbrev pub values_of : List CellItem → List CellValue
values_of items = map value_of_item items
