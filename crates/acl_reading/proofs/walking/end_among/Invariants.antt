use Rattle.std.proofs.Common.{◌≡◌, drop}
use Rattle.acl_rules.specs.Chain.{part_in}
use Rattle.acl_reading.specs.Walking.{end_among}
use Rattle.acl_reading.proofs.walking.end_among.Given as goal

-- the rest decides
abbrev pub invariant-loop-place : goal.invariant-loop-place
invariant-loop-place l =
    end_among l.user (part_in l.part) l.book (drop l.place-index l.places)
    ≡ end_among l.user (part_in l.part) l.book l.places
