use Rattle.std.proofs.Common.{◌≡◌}
use Rattle.std.specs.Vec.Iter.{into_iter_items}
use Rattle.record_lines.specs.Columns.{named_onto, named_from}
use Rattle.record_lines.proofs.cells.all_named.Given as goal

abbrev pub invariant-loop-column : goal.invariant-loop-column
invariant-loop-column l = named_onto l.found (into_iter_items l.column-iterator) ≡ named_from l.fn.columns
