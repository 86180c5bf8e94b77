use Rattle.std.proofs.Common.{sym, ◌∙◌}
use Rattle.std.specs.Str.{bytes_eq}
use Rattle.doc_model.specs.ByIds.{find_id}
use Rattle.plain_view.proofs.Steps.{find_here, find_later}
use Rattle.plain_view.proofs.named.find_id.Goals as goal

pub returns-then-has_id : goal.returns-then-has_id
returns-then-has_id g c =
    find_here (λ x. bytes_eq (g.T.Named.id_of x) c.args.id.now) c.args.things.now c.loop-thing.thing-index c.thing-item.result (find_id g.T.Named.id_of c.args.id.now c.args.things.now)
    c.loop-thing-test.true c.thing-item.is c.loop-thing.invariant (sym c.if-has_id.true ∙ c.has_id.ensures)

pub loop-thing-preserved : goal.loop-thing-preserved
loop-thing-preserved g c =
    find_later (λ x. bytes_eq (g.T.Named.id_of x) c.args.id.now) c.args.things.now c.loop-thing.thing-index c.thing-item.result (find_id g.T.Named.id_of c.args.id.now c.args.things.now)
    c.loop-thing-test.true c.thing-item.is c.loop-thing.invariant (sym c.if-has_id.false ∙ c.has_id.ensures)
