use Rattle.std.proofs.Common.{◌≡◌, ◌++◌, drop}
use Rattle.evaluated_doc.proofs.touching.push_copies.Given as goal

-- the cells so far, and those that are to come
abbrev pub invariant-loop-cell : goal.invariant-loop-cell
invariant-loop-cell l = l.copies.items ++ drop l.cell-index l.cells ≡ l.fn.copies.items ++ l.cells
