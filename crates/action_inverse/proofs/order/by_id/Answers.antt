use Rattle.std.proofs.Common.{◌∙◌, sym, ap}
use Rattle.doc_model.specs.Records.{given_id}
use Rattle.action_inverse.proofs.OrderLemmas.{put_all, put_all-none, put_all-last}
use Rattle.action_inverse.proofs.order.by_id.Goals as goal

pub loop-column-init : goal.loop-column-init
loop-column-init c =
    ap (put_all given_id c.args.columns.items) c.in_ok-sorted.ensures.items ∙ put_all-none given_id c.args.columns.items

pub loop-column-preserved : goal.loop-column-preserved
loop-column-preserved c =
    let left = c.pop.new.self.items in
    let sorted = c.loop-column.sorted.items in
    ap (put_all given_id left) c.in_ok-put.ensures
    ∙ sym (put_all-last given_id left c.in-Some.column sorted)
    ∙ ap (λ l. put_all given_id l sorted) (sym c.in-Some.ensures.items)
    ∙ c.loop-column.invariant
