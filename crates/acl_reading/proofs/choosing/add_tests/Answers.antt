use Rattle.std.proofs.Common.{◌≡◌}
use Rattle.acl_rules.specs.Chain.{part_in}
use Rattle.censored_view.specs.RowTests.{or_answer, tests_say}
use Rattle.acl_reading.specs.Choosing.{choice_says}
use Rattle.acl_reading.specs.Shown.{reading_row}
use Rattle.acl_reading.specs.Walking.{reads_among}
use Rattle.acl_reading.proofs.ChoosingLemmas.{one_asked, passed_on, with_place}
use Rattle.acl_reading.proofs.choosing.add_tests.Goals as goal
use Rattle.acl_reading.proofs.choosing.add_tests.Goals.{in-Passed, in-Asks+in_ok-push-in-Asks}

pub loop-place-preserved : goal.loop-place-preserved
loop-place-preserved c = λ row.
    let u = c.args.user.now in
    let ts = c.loop-place.chosen.items in
    let now = c.match-choice_at.chosen.items in
    let grown : tests_say u row now ≡ or_answer (tests_say u row ts) (choice_says u row c.choice_at.result) =
    elim c.match-choice_at.branch as (λ _. tests_say u row now ≡ or_answer (tests_say u row ts) (choice_says u row c.choice_at.result)) [
      | in-Passed w ↦ let kept = w.chosen-is in let is = w.in-Passed.is in passed_on u row ts now c.choice_at.result (cc) (cc)
      | in-Asks+in_ok-push-in-Asks w ↦ let kept = w.chosen-is in let is = w.in-Asks.is in let pushed = w.in_ok-push-in-Asks.ensures.items in one_asked u row ts now c.choice_at.result w.in-Asks.test (cc) (cc)
    ] in
    with_place u row ts now c.choice_at.result (part_in c.args.part) c.args.book.now c.args.places.now c.loop-place.place-index
    (or_answer (tests_say u row c.args.tests.items) (reads_among (reading_row u row) (part_in c.args.part) c.args.book.now c.args.places.now))
    c.loop-place-test.true (c.choice_at.ensures row) grown (c.loop-place.invariant row)
