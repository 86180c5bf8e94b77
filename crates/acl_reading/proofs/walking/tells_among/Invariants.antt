use Rattle.std.proofs.Common.{◌≡◌, drop}
use Rattle.std.specs.List.{list_any}
use Rattle.acl_rules.specs.Chain.{part_in}
use Rattle.acl_reading.specs.Walking.{tells_at}
use Rattle.acl_reading.proofs.walking.tells_among.Given as goal

-- the rest decides
abbrev pub invariant-loop-place : goal.invariant-loop-place
invariant-loop-place l =
    list_any (tells_at (part_in l.part) l.book) (drop l.place-index l.places)
    ≡ list_any (tells_at (part_in l.part) l.book) l.places
