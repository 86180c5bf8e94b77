-- What is told anew of a column.
use Rattle.doc_model.specs.Apply.{with_info, with_name}
use Rattle.doc_model.specs.declared.column.ColDef.{ColDef}
use Rattle.row_tables.specs.declared.columns.Told.{Told}
use Rattle.row_tables.specs.declared.columns.Told.TheVariants as told

abbrev pub told_column : Told → ColDef → ColDef
told_column (told.Name new) = with_name new.now
told_column (told.Info info) = with_info info.now
