use Rattle.std.proofs.Common.{ap, ◌∙◌, refl, sym}
use Rattle.std.proofs.lemmas.List.{take_all}
use Rattle.doc_model.proofs.TotalsLaws.{sum_of}
use Rattle.action_limits.specs.Capped.{capped}
use Rattle.action_limits.proofs.SumLemmas.{capped_step}
use Rattle.action_limits.proofs.weighing.total.Goals as goal

pub loop-item-preserved : goal.loop-item-preserved
loop-item-preserved g c = λ f h.
    capped_step f c.args.items.now c.loop-item.item-index c.item-item.result c.item-item.result c.loop-item.sum c.saturating_add-sum.result c.count.result
    c.loop-item-test.true (sym c.item-item.is) (c.loop-item.invariant f h) (h c.item-item.result c.count.result (record { shown = _; shows = refl; says = record { met = c.count.ensures } })) c.saturating_add-sum.ensures

pub returns : goal.returns
returns g c = λ f h. c.loop-item.invariant f h ∙ ap (λ xs. capped (sum_of f xs)) (take_all c.loop-item.item-index c.args.items.now c.loop-item-test.false)
