use Rattle.std.proofs.Common.{◌≡◌, drop}
use Rattle.formula_tests.specs.Memory.{column_of}
use Rattle.formula_tests.proofs.memory.find_column.Given as goal

abbrev pub invariant-loop-column : goal.invariant-loop-column
invariant-loop-column l = column_of (drop l.column-index l.columns) l.table l.id ≡ column_of l.columns l.table l.id
