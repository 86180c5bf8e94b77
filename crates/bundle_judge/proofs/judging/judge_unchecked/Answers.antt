use Rattle.std.proofs.Common.{◌≡◌, ◌+◌, List, [], ◌++◌, map, ◌≤◌, length, drop, refl, sym, ap, subst, ◌∙◌, arith}
use Rattle.doc_model.specs.declared.action.Step.{Step}
use Rattle.doc_model.specs.Document.{Document}
use Rattle.doc_model.specs.WellFormed.{is_well_formed}
use Rattle.user_actions.specs.StepLaws.{action_of}
use Rattle.bundle_judge.specs.JudgedActions.{IsAt}
use Rattle.bundle_judge.specs.JudgedBundles.{after_steps}
use Rattle.bundle_judge.specs.Losses.{AreTold}
use Rattle.bundle_judge.proofs.CheckLemmas.{unchecked_carried, unchecked_undenied}
use Rattle.bundle_judge.proofs.JudgmentLemmas.{at_done, at_next, holds_at, next_done, opposed_refused, planned, refused_at, whole_at}
use Rattle.bundle_judge.proofs.RollbackLemmas.{left_at}
use Rattle.bundle_judge.proofs.ToldLemmas.{told_then}
use Rattle.bundle_judge.proofs.judging.judge_unchecked.Goals as goal

pub do_all-requires-clause-whole : goal.do_all-requires-clause-whole
do_all-requires-clause-whole g c =
    let l = c.loop-index in
    whole_at c.args.ctx.now (g.D.DocReader.document c.args.doc.now) c.args.requested.now l.index c.args.ctx.now (g.D.DocReader.document l.doc) l.steps.items l.next.items l.created.items l.tally l.invariant.0 c.requires.whole

pub do_all-requires-2-clause-whole : goal.do_all-requires-2-clause-whole
do_all-requires-2-clause-whole g c =
    let l = c.loop-index in
    whole_at c.args.ctx.now (g.D.DocReader.document c.args.doc.now) c.args.requested.now l.index c.args.ctx.now (g.D.DocReader.document l.doc) l.steps.items l.next.items l.created.items l.tally l.invariant.0 c.requires.whole

pub judge_action-requires-clause-whole : goal.judge_action-requires-clause-whole
judge_action-requires-clause-whole g c =
    let start = g.D.DocReader.document c.args.doc.now in
    let s = g.D.DocReader.document c.loop-index.doc in
    let t = g.D.DocReader.document c.do_all.new.doc in
    let l = c.loop-index in
    let now : IsAt c.args.ctx.now start c.args.requested.now l.index c.args.ctx.now t c.append.new.self.items [] l.created.items l.tally =
    at_done c.args.ctx.now start c.args.requested.now l.index c.args.ctx.now s l.steps.items l.next.items l.created.items l.tally l.invariant.0 t c.append.new.self.items
    (c.in_ok-do_all.ensures.done ∙ ap (after_steps s) c.deref.ensures.value) c.in_ok-append.ensures.items in
    whole_at c.args.ctx.now start c.args.requested.now l.index c.args.ctx.now t c.append.new.self.items [] l.created.items l.tally now c.requires.whole

pub judge_action-requires-clause-well_formed : goal.judge_action-requires-clause-well_formed
judge_action-requires-clause-well_formed g c = holds_at is_well_formed c.args.requested.now c.loop-index.index c.index-requested-index.result c.requires.well_formed c.loop-index-test.true c.index-requested-index.is

pub returns-in-Refused-clause-judged : goal.returns-in-Refused-clause-judged
returns-in-Refused-clause-judged g c =
    let start = g.D.DocReader.document c.args.doc.now in
    let s = g.D.DocReader.document c.loop-index.doc in
    let t = g.D.DocReader.document c.do_all.new.doc in
    let l = c.loop-index in
    let now : IsAt c.args.ctx.now start c.args.requested.now l.index c.args.ctx.now t c.append.new.self.items [] l.created.items l.tally =
    at_done c.args.ctx.now start c.args.requested.now l.index c.args.ctx.now s l.steps.items l.next.items l.created.items l.tally l.invariant.0 t c.append.new.self.items
    (c.in_ok-do_all.ensures.done ∙ ap (after_steps s) c.deref.ensures.value) c.in_ok-append.ensures.items in
    refused_at c.args.ctx.now start c.args.requested.now l.index c.args.ctx.now t c.append.new.self.items l.created.items l.tally c.index-requested-index.result (drop (l.index + 1) c.args.requested.now) now
    (left_at l.index c.args.requested.now c.index-requested-index.result c.loop-index-test.true c.index-requested-index.is) c.in-Refused.verdict
    (opposed_refused c.args.ctx.now t l.index c.index-requested-index.result c.in-Refused.verdict (rw c.in-Refused.is at c.in_ok-verdict.ensures))

pub loop-index-preserved : goal.loop-index-preserved
loop-index-preserved g c =
    let start = g.D.DocReader.document c.args.doc.now in
    let s = g.D.DocReader.document c.loop-index.doc in
    let t = g.D.DocReader.document c.do_all.new.doc in
    let l = c.loop-index in
    let now : IsAt c.args.ctx.now start c.args.requested.now l.index c.args.ctx.now t c.append.new.self.items [] l.created.items l.tally =
    at_done c.args.ctx.now start c.args.requested.now l.index c.args.ctx.now s l.steps.items l.next.items l.created.items l.tally l.invariant.0 t c.append.new.self.items
    (c.in_ok-do_all.ensures.done ∙ ap (after_steps s) c.deref.ensures.value) c.in_ok-append.ensures.items in
    let more = c.in_ok-do_all.ensures in
    let G : List Step → Type 0 = λ xs. AreTold s xs l.trail.traces.items c.do_all.new.trail.traces.items l.trail.inverse c.do_all.new.trail.inverse in
    let N : List Step → Type 0 = λ xs. IsAt c.args.ctx.now start c.args.requested.now (l.index + 1) c.args.ctx.now t c.append.new.self.items xs c.push.new.self.items c.in-Accepted.plan.tally in (
      subst N (sym c.into_vec-next.ensures) (at_next c.args.ctx.now start c.args.requested.now l.index c.args.ctx.now t c.append.new.self.items l.created.items l.tally c.index-requested-index.result (drop (l.index + 1) c.args.requested.now) now
          (left_at l.index c.args.requested.now c.index-requested-index.result c.loop-index-test.true c.index-requested-index.is) c.in-Accepted.plan c.push.new.self.items c.args.ctx.now refl (rw c.in-Accepted.is at c.in_ok-verdict.ensures)
          (unchecked_undenied c.unchecked_law.ensures c.args.ctx.now t l.index c.in-Accepted.plan.steps c.requires.unchecked) (unchecked_carried c.in-Accepted.plan.steps c.args.ctx.now c.requires.unchecked) c.in_ok-push-in-Accepted.ensures.items),
      more.led,
      more.back ∙ l.invariant.2,
      told_then start s l.steps.items l.next.items c.append.new.self.items c.args.trail.now.traces.items l.trail.traces.items c.do_all.new.trail.traces.items c.args.trail.now.inverse l.trail.inverse c.do_all.new.trail.inverse
          l.invariant.3 l.invariant.0.done_so_far (subst G c.deref.ensures.value more.told) c.in_ok-append.ensures.items,
    )

pub returns-clause-judged : goal.returns-clause-judged
returns-clause-judged g c =
    let start = g.D.DocReader.document c.args.doc.now in
    let s = g.D.DocReader.document c.loop-index.doc in
    let l = c.loop-index in
    let le : length c.args.requested.now ≤ l.index = omega (arith, c.loop-index-test.false) in
    planned c.args.ctx.now start c.args.requested.now l.index c.args.ctx.now s l.steps.items l.next.items l.created.items l.tally l.invariant.0 _ le refl (c.in_ok-of.ensures ∙ c.in_ok-append-2.ensures.items) refl refl

pub returns-clause-told : goal.returns-clause-told
returns-clause-told g c =
    let start = g.D.DocReader.document c.args.doc.now in
    let s = g.D.DocReader.document c.loop-index.doc in
    let l = c.loop-index in
    let all = l.steps.items ++ l.next.items in
    let more = c.in_ok-do_all-2.ensures in
    let G : List Step → Type 0 = λ xs. AreTold s xs l.trail.traces.items c.do_all-2.new.trail.traces.items l.trail.inverse c.do_all-2.new.trail.inverse in
    let same : c.in_ok-of.field-0 ≡ all = c.in_ok-of.ensures ∙ c.in_ok-append-2.ensures.items in
    record {
      document = more.done ∙ ap (after_steps s) c.deref-2.ensures.value
          ∙ next_done c.args.ctx.now start c.args.requested.now l.index c.args.ctx.now s l.steps.items l.next.items l.created.items l.tally l.invariant.0
          ∙ ap (after_steps start) (sym same);
      told = told_then start s l.steps.items l.next.items c.in_ok-of.field-0 c.args.trail.now.traces.items l.trail.traces.items c.do_all-2.new.trail.traces.items c.args.trail.now.inverse l.trail.inverse c.do_all-2.new.trail.inverse
          l.invariant.3 l.invariant.0.done_so_far (subst G c.deref-2.ensures.value more.told) same;
    }
