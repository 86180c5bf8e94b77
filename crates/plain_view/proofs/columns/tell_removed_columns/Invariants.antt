use Rattle.std.proofs.Common.{◌≡◌, ◌++◌, take}
use Rattle.doc_model.specs.Changes.{for_each}
use Rattle.plain_view.specs.Steps.{removed_column}
use Rattle.plain_view.proofs.columns.tell_removed_columns.Given as goal

-- what the columns so far add
abbrev pub invariant-loop-column : goal.invariant-loop-column
invariant-loop-column l = l.actions.items ≡ l.initial.actions.items ++ for_each (removed_column l.table l.after) (take l.column-index l.before)
