use Rattle.std.proofs.Common.{◌≡◌, drop}
use Rattle.std.specs.List.{list_all}
use Rattle.user_actions.specs.Given.{is_row}
use Rattle.user_objections.proofs.rows.are_rows.Given as goal

abbrev pub invariant-loop-number : goal.invariant-loop-number
invariant-loop-number l =
    list_all (is_row l.rows) (drop l.number-index l.numbers) ≡ list_all (is_row l.rows) l.numbers
