use Rattle.std.proofs.Common.{◌≡◌, drop}
use Rattle.acl_formula.specs.RuleRow.{RuleRow}
use Rattle.acl_rules.specs.Chain.{part_in}
use Rattle.censored_view.specs.RowTests.{or_answer, tests_say}
use Rattle.acl_reading.specs.Shown.{reading_row}
use Rattle.acl_reading.specs.Walking.{reads_among}
use Rattle.acl_reading.proofs.choosing.add_tests.Given as goal

-- what was chosen, and behind it the rest
abbrev pub invariant-loop-place : goal.invariant-loop-place
invariant-loop-place l =
    (row : RuleRow) → or_answer (tests_say l.user row l.chosen.items) (reads_among (reading_row l.user row) (part_in l.part) l.book (drop l.place-index l.places))
    ≡ or_answer (tests_say l.user row l.initial.chosen.items) (reads_among (reading_row l.user row) (part_in l.part) l.book l.places)
