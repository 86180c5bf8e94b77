use Rattle.std.proofs.Common.{ap, ◌∙◌, map, refl}
use Rattle.std.proofs.lemmas.List.{take_all}
use Rattle.list_ops.proofs.Walks.{map_step}
use Rattle.list_ops.proofs.lists.all_made.Goals as goal

pub loop-item-preserved : goal.loop-item-preserved
loop-item-preserved g c = λ f h.
    map_step f c.args.items.now c.loop-item.item-index c.item-item.result c.loop-item.all.items c.push.new.self.items c.in_ok-make.field-0 c.loop-item-test.true c.item-item.is
    (c.loop-item.invariant f h) c.in_ok-push.ensures.items (h c.item-item.result c.in_ok-make.field-0 (record { shown = _; shows = refl; says = record { met = c.in_ok-make.ensures } }))

pub returns : goal.returns
returns g c = λ f h. c.loop-item.invariant f h ∙ ap (map f) (take_all c.loop-item.item-index c.args.items.now c.loop-item-test.false)
