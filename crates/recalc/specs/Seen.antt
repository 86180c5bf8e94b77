-- A document, what is kept of it and indexes of its data columns, as a formula reads them.
use Rattle.std.specs.Prelude.{ℕ, cond, List, Option, Some, None}
use Rattle.cell_types.specs.declared.value.CellValue.{CellValue}
use Rattle.formula_eval.specs.Reader.{Told, known, no_row, needed}
use Rattle.recalc.specs.declared.indexes.ColumnIndex.{ColumnIndex}
use Rattle.recalc.specs.declared.kept.KeptTable.{KeptTable}
use Rattle.doc_model.specs.Rows.{has}
use Rattle.recalc.specs.Kept.{held_in}

pub record Seen (D : Type 0) : Type 0 where
  pub tables : D
  pub kept : List KeptTable
  pub indexes : List ColumnIndex

abbrev pub told_or_needed : Option CellValue → Told
told_or_needed (Some v) = known v
told_or_needed None = needed

abbrev pub told_or_no_row : Option CellValue → Told
told_or_no_row (Some v) = known v
told_or_no_row None = no_row

abbrev pub joined : {X : Type 0} → Option (Option X) → Option X
joined None = None
joined (Some o) = o

-- what is told of the cell of a formula column in a row, whose values stand beside these rows
abbrev pub told_beside : List ℕ → List (Option CellValue) → ℕ → Told
told_beside rows values r = cond (has rows r) (told_or_needed (held_in rows values r)) no_row

-- the value of a cell of which this is told, where it is there
abbrev pub value_told : Told → Option CellValue
value_told (known v) = Some v
value_told _ = None
