use Rattle.std.proofs.Common.{◌≡◌, ◌++◌, take}
use Rattle.doc_model.specs.Changes.{for_each, revised}
use Rattle.plain_view.proofs.view_changes.tell_revised_tables.Given as goal

-- what the tables so far add
abbrev pub invariant-loop-table : goal.invariant-loop-table
invariant-loop-table l = l.actions.items ≡ l.initial.actions.items ++ for_each (revised l.before) (take l.table-index l.after)
