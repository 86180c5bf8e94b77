use Rattle.std.proofs.Common.{◌≡◌, length}
use Rattle.formula_parse.specs.Machine.{reduce}
use Rattle.formula_parse.proofs.reduce.reduce.Given as goal

abbrev pub invariant-loop-frame : goal.invariant-loop-frame
invariant-loop-frame l = reduce l.level l.frames l.tree ≡ reduce l.level l.fn.frames l.fn.tree

abbrev pub decreases-loop-frame : goal.decreases-loop-frame
decreases-loop-frame l = length l.frames
