use Rattle.std.proofs.Common.{◌≡◌, ◌++◌, take}
use Rattle.doc_model.specs.Changes.{for_each, grid}
use Rattle.plain_view.specs.Steps.{updated_column}
use Rattle.plain_view.proofs.records.tell_updated_cells.Given as goal

-- what the columns so far add
abbrev pub invariant-loop-column : goal.invariant-loop-column
invariant-loop-column l = l.actions.items ≡ l.initial.actions.items ++ for_each (updated_column l.after.id (grid l.before) (grid l.after)) (take l.column-index l.after.columns)
