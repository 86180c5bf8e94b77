use Rattle.std.proofs.Common.{◌≡◌, drop}
use Rattle.acl_formula.specs.Desk.{joined}
use Rattle.acl_formula.specs.Pieces.{is_within}
use Rattle.acl_formula.proofs.pieces.is_within.Given as goal

abbrev pub invariant-loop-from : goal.invariant-loop-from
invariant-loop-from l = is_within (joined l.part) (drop l.from (joined l.text)) ≡ is_within (joined l.part) (joined l.text)
