use Rattle.std.proofs.Common.{◌≡◌, ◌+◌, List, [], ◌++◌, map, ◌≤◌, length, drop, refl, sym, ap, subst, ◌∙◌, arith}
use Rattle.std.proofs.lemmas.List.{append-nil}
use Rattle.doc_model.specs.declared.action.Step.{Step}
use Rattle.doc_model.specs.Document.{Document}
use Rattle.doc_model.specs.WellFormed.{is_well_formed}
use Rattle.user_actions.specs.StepLaws.{action_of}
use Rattle.bundle_judge.specs.CarriedContexts.{asks_rename, carried_context}
use Rattle.bundle_judge.specs.JudgedActions.{IsAt, IsDonePlan}
use Rattle.bundle_judge.specs.JudgedBundles.{after_steps}
use Rattle.bundle_judge.specs.Losses.{AreTold}
use Rattle.bundle_judge.proofs.CarriedLemmas.{none_at}
use Rattle.bundle_judge.proofs.JudgmentLemmas.{at_done, at_next, holds_at, next_done, planned, refused_at, whole_at}
use Rattle.bundle_judge.proofs.RollbackLemmas.{left_at}
use Rattle.bundle_judge.proofs.ToldLemmas.{told_then}
use Rattle.bundle_judge.proofs.judging.judge_checked.Goals as goal

pub judge_and_do-requires-clause-whole : goal.judge_and_do-requires-clause-whole
judge_and_do-requires-clause-whole g c =
    let l = c.loop-index in
    whole_at (carried_context c.args.carried.now) (g.D.DocReader.document c.args.doc.now) c.args.requested.now l.index (carried_context l.carried) (g.D.DocReader.document l.doc) l.steps.items [] l.created.items l.tally l.invariant.0 c.requires.whole

pub judge_and_do-requires-clause-well_formed : goal.judge_and_do-requires-clause-well_formed
judge_and_do-requires-clause-well_formed g c = holds_at is_well_formed c.args.requested.now c.loop-index.index c.index-requested-index.result c.requires.well_formed c.loop-index-test.true c.index-requested-index.is

pub judge_and_do-requires-clause-may_carry : goal.judge_and_do-requires-clause-may_carry
judge_and_do-requires-clause-may_carry g c =
    let l = c.loop-index in
    λ kept. none_at asks_rename c.args.requested.now l.index c.index-requested-index.result (c.requires.may_carry (sym l.invariant.3 ∙ kept)) c.loop-index-test.true c.index-requested-index.is

pub returns-in-Refused-clause-judged : goal.returns-in-Refused-clause-judged
returns-in-Refused-clause-judged g c =
    let l = c.loop-index in
    refused_at (carried_context c.args.carried.now) (g.D.DocReader.document c.args.doc.now) c.args.requested.now l.index (carried_context l.carried) (g.D.DocReader.document l.doc) l.steps.items l.created.items l.tally c.index-requested-index.result (drop (l.index + 1) c.args.requested.now) l.invariant.0
    (left_at l.index c.args.requested.now c.index-requested-index.result c.loop-index-test.true c.index-requested-index.is) c.in-Refused.verdict (rw c.in-Refused.is at c.in_ok-verdict.ensures.judged)

pub loop-index-preserved : goal.loop-index-preserved
loop-index-preserved g c =
    let start = g.D.DocReader.document c.args.doc.now in
    let s = g.D.DocReader.document c.loop-index.doc in
    let t = g.D.DocReader.document c.judge_and_do.new.doc in
    let l = c.loop-index in
    let a = c.index-requested-index.result in
    let n = c.in-Accepted.plan in
    let more = c.in_ok-verdict.ensures in
    let done : IsDonePlan (carried_context l.carried) s l.index a (carried_context c.judge_and_do.new.carried) t n = rw c.in-Accepted.is at more.judged in
    let next : IsAt (carried_context c.args.carried.now) start c.args.requested.now (l.index + 1) (carried_context c.judge_and_do.new.carried) s l.steps.items n.steps c.push.new.self.items n.tally =
    at_next (carried_context c.args.carried.now) start c.args.requested.now l.index (carried_context l.carried) s l.steps.items l.created.items l.tally a (drop (l.index + 1) c.args.requested.now) l.invariant.0
    (left_at l.index c.args.requested.now a c.loop-index-test.true c.index-requested-index.is) n c.push.new.self.items (carried_context c.judge_and_do.new.carried) refl done.plan done.done.undenied done.done.carried c.in_ok-push-in-Accepted.ensures.items in
    let told : AreTold s n.steps l.trail.traces.items c.judge_and_do.new.trail.traces.items l.trail.inverse c.judge_and_do.new.trail.inverse = rw c.in-Accepted.is at more.told in
    let all : c.append.new.self.items ≡ l.steps.items ++ n.steps = c.in_ok-append-in-Accepted.ensures.items ∙ ap (λ xs. l.steps.items ++ xs) c.into_vec.ensures in (
      at_done (carried_context c.args.carried.now) start c.args.requested.now (l.index + 1) (carried_context c.judge_and_do.new.carried) s l.steps.items n.steps c.push.new.self.items n.tally next t c.append.new.self.items done.done.done all,
      more.led,
      more.back ∙ l.invariant.2,
      more.kept ∙ l.invariant.3,
      told_then start s l.steps.items n.steps c.append.new.self.items c.args.trail.now.traces.items l.trail.traces.items c.judge_and_do.new.trail.traces.items c.args.trail.now.inverse l.trail.inverse c.judge_and_do.new.trail.inverse
          l.invariant.4 l.invariant.0.done_so_far told all,
    )

pub returns-clause-judged : goal.returns-clause-judged
returns-clause-judged g c =
    let start = g.D.DocReader.document c.args.doc.now in
    let s = g.D.DocReader.document c.loop-index.doc in
    let l = c.loop-index in
    let le : length c.args.requested.now ≤ l.index = omega (arith, c.loop-index-test.false) in
    planned (carried_context c.args.carried.now) start c.args.requested.now l.index (carried_context l.carried) s l.steps.items [] l.created.items l.tally l.invariant.0 _ le refl (c.in_ok-of.ensures ∙ sym (append-nil l.steps.items)) refl refl

pub returns-clause-told : goal.returns-clause-told
returns-clause-told g c =
    let start = g.D.DocReader.document c.args.doc.now in
    let l = c.loop-index in
    let T : List Step → Type 0 = λ xs. AreTold start xs c.args.trail.now.traces.items l.trail.traces.items c.args.trail.now.inverse l.trail.inverse in
    record {
      document = l.invariant.0.done_so_far ∙ ap (after_steps start) (sym c.in_ok-of.ensures);
      told = subst T (sym c.in_ok-of.ensures) l.invariant.4;
    }
