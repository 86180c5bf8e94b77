use Rattle.std.proofs.Common.{◌≡◌, ℕ, List, take}
use Rattle.acl_rules.specs.Chain.{is_on}
use Rattle.acl_rules.specs.Places.{places_in, places_of}
use Rattle.acl_rules.proofs.resources.table_places.Given as goal

abbrev pub invariant-loop-place : goal.invariant-loop-place
invariant-loop-place l =
    (table : List ℕ) → places_in l.places table ≡ places_of (is_on table) (take l.place l.resources)
