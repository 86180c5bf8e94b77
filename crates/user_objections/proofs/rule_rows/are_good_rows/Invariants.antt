use Rattle.std.proofs.Common.{◌≡◌, true}
use Rattle.user_objections.specs.RuleRows.{all_below, is_good_row, row_after}
use Rattle.user_objections.proofs.rule_rows.are_good_rows.Given as goal

-- all rows so far are good
abbrev pub invariant-loop-index : goal.invariant-loop-index
invariant-loop-index l = all_below (λ n. is_good_row l.tables l.table.id (row_after l.table l.given l.rows n)) l.index ≡ true
