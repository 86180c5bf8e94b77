use Rattle.std.proofs.Common.{◌≡◌, map, sym, ap, subst, ◌∙◌}
use Rattle.std.proofs.lemmas.List.{take_all}
use Rattle.std.specs.List.{AllByRecursion}
use Rattle.context_changes.specs.Told.{IsSeen, view_of}
use Rattle.context_changes.proofs.ToldLemmas.{all_seen, one_more}
use Rattle.context_changes.proofs.views.see_all.Goals as goal

pub loop-ctx-preserved : goal.loop-ctx-preserved
loop-ctx-preserved g c =
    let f = view_of (g.D.DocReader.document c.args.tables.now) in
    one_more f c.args.contexts.now c.loop-ctx.ctx-index c.ctx-item.result c.loop-ctx.views.items c.push.new.self.items c.in_ok-view_of.field-0
    c.loop-ctx-test.true c.ctx-item.is c.loop-ctx.invariant c.in_ok-view_of.ensures.value c.in_ok-push.ensures.items

pub returns-clause-seen : goal.returns-clause-seen
returns-clause-seen g c =
    let s = g.D.DocReader.document c.args.tables.now in
    let made : c.loop-ctx.views.items ≡ map (view_of s) c.args.contexts.now = c.loop-ctx.invariant ∙ ap (map (view_of s)) (take_all c.loop-ctx.ctx-index c.args.contexts.now c.loop-ctx-test.false) in
    subst (AllByRecursion IsSeen) (sym made) (all_seen c.censored_view_law.ensures s c.requires c.args.contexts.now)
