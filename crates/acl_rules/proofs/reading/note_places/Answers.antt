use Rattle.std.proofs.Common.{◌∙◌, rules}
use Rattle.acl_rules.proofs.ReadingLemmas.{places_step}
use Rattle.acl_rules.proofs.reading.note_places.Goals as goal

pub loop-place-preserved : goal.loop-place-preserved
loop-place-preserved c =
    places_step c.loop-place.names c.note_place.new.names c.args.book.now c.args.places.now c.loop-place.place-index _ c.loop-place-test.true (search rules) c.in_ok-note_place.ensures
    ∙ c.loop-place.invariant
