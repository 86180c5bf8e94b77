-- Attributes of records and of sets of records, and what may stand in a list.
use Rattle.std.specs.Prelude.{ℕ, pos, cond, List, map}
use Rattle.cell_types.specs.declared.value.CellItem.{CellItem}
use Rattle.cell_types.specs.declared.value.CellItem.TheVariants as item
use Rattle.cell_types.specs.declared.value.CellValue.{CellValue}
use Rattle.cell_types.specs.declared.value.CellValue.TheVariants as value
use Rattle.cell_types.specs.declared.value.ErrKind.TheVariants as err
use Rattle.cell_types.specs.Reference.{row_items}
use Rattle.formula_parse.specs.Lexemes.{is_id}
use Rattle.value_ops.specs.Joined.{bounded_list}
use Rattle.formula_eval.specs.Reader.{Reader, cell_at}
use Rattle.formula_eval.specs.Run.{Out, gives, raises, Run, out_of, done, seq, collect}
use Rattle.formula_eval.specs.Reading.{read_cell}

-- the value as an item of a list, where it may be one
abbrev pub item_of : CellValue → Out CellItem
item_of value.Null = gives item.Null
item_of (value.Int n) = gives (item.Int n)
item_of (value.Bool b) = gives (item.Bool b)
item_of (value.Text t) = gives (item.Text t)
item_of (value.Date n) = gives (item.Date n)
item_of (value.Rec r) = gives (item.Rec r)
item_of v = raises err.WrongType

-- a value that is wanted as an item
abbrev pub as_item : Run CellValue → Run CellItem
as_item a = seq a (λ v. done (item_of v))

-- the list of what they give; one that is no item ends it before the next
abbrev pub listed : List (Run CellValue) → Run CellValue
listed runs = seq (collect (map as_item runs)) (λ is. done (out_of (bounded_list is)))

-- the reads of a column in these rows
abbrev pub column_runs : Reader → List ℕ → List ℕ → List ℕ → List (Run CellValue)
column_runs reader t c rows = map (λ r. read_cell reader (cell_at t c r)) rows

-- an attribute of a value
abbrev pub attribute_of : Reader → List ℕ → CellValue → Run CellValue
attribute_of reader n (value.Rec r) =
    cond (is_id n) (done (gives (value.Int (pos r.row))))
    (read_cell reader (cell_at r.table n r.row))
attribute_of reader n (value.RecSet s) =
    cond (is_id n) (done (out_of (bounded_list (row_items s.rows))))
    (listed (column_runs reader s.table n s.rows))
attribute_of reader n v = done (raises err.Attribute)

-- an attribute of what is run
abbrev pub field_of : Reader → List ℕ → Run CellValue → Run CellValue
field_of reader n a = seq a (λ v. attribute_of reader n v)
