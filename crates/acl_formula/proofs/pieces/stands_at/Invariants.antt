use Rattle.std.proofs.Common.{◌≡◌, ◌+◌, drop}
use Rattle.acl_formula.specs.Desk.{joined}
use Rattle.acl_formula.specs.Pieces.{begins}
use Rattle.acl_formula.proofs.pieces.stands_at.Given as goal

abbrev pub invariant-loop-place : goal.invariant-loop-place
invariant-loop-place l = begins (drop l.place (joined l.part)) (drop (l.from + l.place) (joined l.text)) ≡ begins (joined l.part) (drop l.from (joined l.text))
