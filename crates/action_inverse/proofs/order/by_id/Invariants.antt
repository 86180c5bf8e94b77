use Rattle.std.proofs.Common.{◌≡◌, length}
use Rattle.doc_model.specs.ByIds.{by_id}
use Rattle.doc_model.specs.Records.{given_id}
use Rattle.action_inverse.proofs.OrderLemmas.{put_all}
use Rattle.action_inverse.proofs.order.by_id.Given as goal

-- what is left, put into what is sorted, is the whole
abbrev pub invariant-loop-column : goal.invariant-loop-column
invariant-loop-column l = put_all given_id l.columns.items l.sorted.items ≡ by_id given_id l.initial.columns.items

abbrev pub decreases-loop-column : goal.decreases-loop-column
decreases-loop-column l = length l.columns.items
