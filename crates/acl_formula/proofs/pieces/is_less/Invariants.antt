use Rattle.std.proofs.Common.{◌≡◌, ◌≤◌, drop}
use Rattle.acl_formula.specs.Desk.{joined}
use Rattle.acl_formula.specs.Pieces.{is_less}
use Rattle.acl_formula.proofs.pieces.is_less.Given as goal

abbrev pub invariant-loop-place : goal.invariant-loop-place
invariant-loop-place l = (l.place ≤ l.right_len) × (is_less (drop l.place (joined l.left)) (drop l.place (joined l.right)) ≡ is_less (joined l.left) (joined l.right))
