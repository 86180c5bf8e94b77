use Rattle.std.proofs.Common.{◌≡◌, ◌++◌, take}
use Rattle.doc_model.specs.Changes.{for_each}
use Rattle.plain_view.specs.Steps.{added_column}
use Rattle.plain_view.proofs.columns.tell_added_columns.Given as goal

-- what the columns so far add
abbrev pub invariant-loop-column : goal.invariant-loop-column
invariant-loop-column l = l.actions.items ≡ l.initial.actions.items ++ for_each (added_column l.table l.before) (take l.column-index l.after)
