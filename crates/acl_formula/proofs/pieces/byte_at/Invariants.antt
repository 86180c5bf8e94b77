use Rattle.std.proofs.Common.{◌≡◌, ◌<◌, length, drop, get_or}
use Rattle.acl_formula.specs.Desk.{joined}
use Rattle.acl_formula.proofs.pieces.byte_at.Given as goal

abbrev pub invariant-loop-part : goal.invariant-loop-part
invariant-loop-part l =
    (l.left < length (joined (drop l.part-index l.pieces)))
    × (get_or (joined (drop l.part-index l.pieces)) l.left 0 ≡ get_or (joined l.pieces) l.place 0)
