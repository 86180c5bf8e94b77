use Rattle.std.proofs.Common.{◌≡◌, drop}
use Rattle.acl_rules.specs.Reading.{places_read, with_names}
use Rattle.acl_rules.proofs.reading.note_places.Given as goal

-- what is left completes it
abbrev pub invariant-loop-place : goal.invariant-loop-place
invariant-loop-place l =
    with_names l.names (places_read l.book (drop l.place-index l.places))
    ≡ with_names l.fn.names (places_read l.book l.places)
