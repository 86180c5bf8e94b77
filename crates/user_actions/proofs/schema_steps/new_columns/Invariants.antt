use Rattle.std.proofs.Common.{◌≡◌, ◌+◌, ◌≤◌, ◌++◌, [], drop, length}
use Rattle.user_actions.specs.StepLaws.{AreFresh}
use Rattle.user_actions.specs.Steps.{new_columns}
use Rattle.user_actions.proofs.schema_steps.new_columns.Given as goal

-- the columns so far, and those that are to come; past the last row id their ids alone are told
abbrev pub invariant-loop-column : goal.invariant-loop-column
invariant-loop-column l = record {
  row : l.last + l.column-index ≤ 4294967295 → l.row ≡ l.last + l.column-index;
  made : l.last + length l.columns ≤ 4294967295 → l.made.items ++ new_columns l.taken.items (l.last + l.column-index) (drop l.column-index l.columns) ≡ new_columns [] l.last l.columns;
  fresh : AreFresh l.taken.items (drop l.column-index l.columns) → AreFresh [] l.columns;
}
