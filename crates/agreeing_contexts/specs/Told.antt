-- What the code holds of a field.
use Rattle.cell_types.specs.declared.value.CellValue.{CellValue}
use Rattle.agreeing_contexts.specs.declared.agreement.FieldValue.{FieldValue}
use Rattle.agreeing_contexts.specs.declared.agreement.FieldValue.TheVariants.{Kept, Made}

-- the value
abbrev pub told : FieldValue → CellValue
told (Kept v) = v.now
told (Made v) = v
