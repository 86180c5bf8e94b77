use Rattle.std.proofs.Common.{sym, ◌∙◌}
use Rattle.std.specs.Str.{bytes_eq}
use Rattle.doc_model.specs.ByIds.{has_id}
use Rattle.plain_view.proofs.Steps.{any_here, any_later}
use Rattle.plain_view.proofs.named.is_there.Goals as goal

pub returns-then-has_id : goal.returns-then-has_id
returns-then-has_id g c =
    any_here (λ x. bytes_eq (g.T.Named.id_of x) c.args.id.now) c.args.things.now c.loop-thing.thing-index c.thing-item.result (has_id g.T.Named.id_of c.args.things.now c.args.id.now)
    c.loop-thing-test.true c.thing-item.is c.loop-thing.invariant (sym c.if-has_id.true ∙ c.has_id.ensures)

pub loop-thing-preserved : goal.loop-thing-preserved
loop-thing-preserved g c =
    any_later (λ x. bytes_eq (g.T.Named.id_of x) c.args.id.now) c.args.things.now c.loop-thing.thing-index c.thing-item.result (has_id g.T.Named.id_of c.args.things.now c.args.id.now)
    c.loop-thing-test.true c.thing-item.is c.loop-thing.invariant (sym c.if-has_id.false ∙ c.has_id.ensures)
