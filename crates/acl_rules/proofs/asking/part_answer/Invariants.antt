use Rattle.std.proofs.Common.{◌≡◌, drop}
use Rattle.acl_formula.specs.Asked.{asked_by}
use Rattle.acl_rules.specs.Asking.{first_at}
use Rattle.acl_rules.specs.Chain.{part_in}
use Rattle.acl_rules.proofs.asking.part_answer.Given as goal

-- the rest decides
abbrev pub invariant-loop-place : goal.invariant-loop-place
invariant-loop-place g l =
    first_at (asked_by g.W.RowReader.told l.user l.rec l.new_rec) l.perm (part_in l.part) l.book (drop l.place-index l.places)
    ≡ first_at (asked_by g.W.RowReader.told l.user l.rec l.new_rec) l.perm (part_in l.part) l.book l.places
