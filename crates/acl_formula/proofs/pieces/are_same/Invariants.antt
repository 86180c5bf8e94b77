use Rattle.std.proofs.Common.{◌≡◌, take}
use Rattle.acl_formula.specs.Desk.{joined}
use Rattle.acl_formula.proofs.pieces.are_same.Given as goal

abbrev pub invariant-loop-place : goal.invariant-loop-place
invariant-loop-place l = take l.place (joined l.left) ≡ take l.place (joined l.right)
