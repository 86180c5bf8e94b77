use Rattle.std.proofs.Common.{◌≡◌, ◌-◌, drop, length}
use Rattle.doc_model.specs.ByIds.{by_id}
use Rattle.doc_model.specs.ViewEdits.{shown_id}
use Rattle.view_patch.proofs.placing.columns_by_id.Given as goal

abbrev pub invariant-loop-taken : goal.invariant-loop-taken
invariant-loop-taken l = l.sorted.items ≡ by_id shown_id (drop (length l.columns - l.taken) l.columns)
