-- The value of a cell as a formula reads it.
use Rattle.std.specs.Prelude.{ℕ, List, [], ◌∷◌, Option, Some, None}
use Rattle.cell_types.specs.declared.cell.CellId.{CellId}
use Rattle.cell_types.specs.declared.cell.Read.TheVariants.{Cell}
use Rattle.cell_types.specs.declared.value.CellItem.{CellItem}
use Rattle.cell_types.specs.declared.value.CellItem.TheVariants as item
use Rattle.cell_types.specs.declared.value.CellValue.{CellValue}
use Rattle.cell_types.specs.declared.value.CellValue.TheVariants as value
use Rattle.cell_types.specs.declared.value.ErrKind.TheVariants as err
use Rattle.cell_types.specs.declared.column_type.ColType.{ColType}
use Rattle.cell_types.specs.declared.column_type.ColType.TheVariants as ty
use Rattle.cell_types.specs.Conversion.{default_value}
use Rattle.cell_types.specs.Reference.{row_number, no_zero, with_first}
use Rattle.formula_eval.specs.declared.note.Note.TheVariants as note
use Rattle.formula_eval.specs.Reader.{Told, known, no_table, no_column, no_row, needed, Reader}
use Rattle.formula_eval.specs.Run.{circular, need, Out, gives, raises, stops, Run, done, after, seq}

-- the row that an item says by its number, from 1 on
abbrev pub row_of_item : CellItem → Option ℕ
row_of_item (item.Int n) = no_zero (row_number n)
row_of_item i = None

-- the rows that all the items say
abbrev pub rows_of_items : List CellItem → Option (List ℕ)
rows_of_items [] = Some []
rows_of_items (i ∷ is) = with_first (row_of_item i) (rows_of_items is)

-- a row of the table, or what stands where there is none
abbrev pub record_or : List ℕ → CellValue → Option ℕ → CellValue
record_or t v None = v
record_or t v (Some r) = value.Rec (record { table = t; row = r })

-- rows of the table, or what stands where there are none
abbrev pub records_or : List ℕ → CellValue → Option (List ℕ) → CellValue
records_or t v None = v
records_or t v (Some rs) = value.RecSet (record { table = t; rows = rs })

-- in a column of references a row number is a record
abbrev pub as_record : List ℕ → CellValue → CellValue
as_record t (value.Int n) = record_or t (value.Int n) (row_number n)
as_record t v = v

-- in a column of lists of references null and a list of row numbers are records
abbrev pub as_records : List ℕ → CellValue → CellValue
as_records t value.Null = value.RecSet (record { table = t; rows = [] })
as_records t (value.List is) = records_or t (value.List is) (rows_of_items is)
as_records t v = v

-- a cell's value in a column of this type, as it is read
abbrev pub as_read : ColType → CellValue → CellValue
as_read (ty.Ref t) v = as_record t v
as_read (ty.RefList t) v = as_records t v
as_read k v = v

-- the one place where evaluation stops: at a circular cell and at one that is needed
abbrev pub told_out : CellId → Told → Out Told
told_out c (known (value.Err err.Circular)) = stops circular
told_out c (known v) = gives (known v)
told_out c no_table = gives no_table
told_out c no_column = gives no_column
told_out c no_row = gives no_row
told_out c needed = stops (need (c ∷ []))

-- a cell's value as it is read; an error is raised
abbrev pub value_out : ColType → CellValue → Out CellValue
value_out k (value.Err e) = raises e
value_out k v = gives (as_read k v)

-- the value of a cell that is told, in a column of this type; a row that is not there has the
-- default
abbrev pub value_in : Option ColType → Told → Out CellValue
value_in None o = raises err.Attribute
value_in (Some k) (known v) = value_out k v
value_in (Some k) no_table = raises err.Attribute
value_in (Some k) no_column = raises err.Attribute
value_in (Some k) no_row = gives (as_read k (default_value k))
value_in (Some k) needed = raises err.Attribute

-- the read of a cell
abbrev pub read_cell : Reader → CellId → Run CellValue
read_cell reader c =
    after (note.Read (Cell c) ∷ []) (seq (done (told_out c (reader.cell c)))
    (λ o. done (value_in (reader.kind c.table c.column) o)))
