use Rattle.std.proofs.Common.{◌≡◌, ◌+◌, ◌≤◌, List, ◌∷◌, [], map, take, length, refl, sym, ap, subst, ◌∙◌, arith}
use Rattle.doc_model.specs.declared.action.Step.{Step}
use Rattle.doc_model.specs.Document.{Document}
use Rattle.user_actions.specs.StepLaws.{action_of}
use Rattle.bundle_judge.specs.CarriedContexts.{carried_context, renames}
use Rattle.bundle_judge.specs.JudgedBundles.{after_steps}
use Rattle.bundle_judge.specs.Losses.{AreTold}
use Rattle.bundle_judge.specs.Undo.{stale_at}
use Rattle.bundle_judge.specs.UndoneSteps.{MayGoOn}
use Rattle.bundle_judge.proofs.CarriedLemmas.{none_at}
use Rattle.bundle_judge.proofs.UndoneLemmas.{all_taken, take_next, undo_ends, undo_next, undo_refused}
use Rattle.bundle_judge.proofs.ToldLemmas.{told_then}
use Rattle.bundle_judge.proofs.undoing.judge_each.Goals as goal

pub returns-in-Err-clause-judged : goal.returns-in-Err-clause-judged
returns-in-Err-clause-judged g c =
    let l = c.loop-index in
    let x = c.index-steps-index.result in
    undo_refused (carried_context c.args.carried.now) (g.D.DocReader.document c.args.doc.now) c.args.steps.now l.index (carried_context l.carried) (g.D.DocReader.document l.doc) l.tally l.invariant.0 x c.loop-index-test.true c.index-steps-index.is c.in-Err.verdict
    (ap (λ d. stale_at (g.D.DocReader.document d) l.index x.action) (sym c.tables.ensures.value) ∙ c.in-Err.ensures.err)

pub do_checked-requires-clause-may_carry : goal.do_checked-requires-clause-may_carry
do_checked-requires-clause-may_carry g c =
    let l = c.loop-index in
    λ kept. none_at renames c.args.steps.now l.index c.index-steps-index.result (c.requires.may_carry (sym l.invariant.4 ∙ kept)) c.loop-index-test.true c.index-steps-index.is

pub loop-index-preserved : goal.loop-index-preserved
loop-index-preserved g c =
    let l = c.loop-index in
    let start = g.D.DocReader.document c.args.doc.now in
    let s = g.D.DocReader.document l.doc in
    let t = g.D.DocReader.document c.do_checked.new.doc in
    let xs = c.args.steps.now in
    let x = c.index-steps-index.result in
    let more = c.in_ok-denial.ensures in
    let M : Document → Type 0 = λ u. MayGoOn u l.index x.action c.in-Ok.next in
    let may : MayGoOn s l.index x.action c.in-Ok.next = subst M (ap g.D.DocReader.document c.tables.ensures.value) c.in-Ok.ensures.ok in (
      undo_next (carried_context c.args.carried.now) start xs l.index (carried_context l.carried) s l.tally l.invariant.0 x c.loop-index-test.true c.index-steps-index.is (carried_context c.do_checked.new.carried) t c.in-Ok.next may
          (sym more.denied ∙ c.in-None.is) more.carried more.done,
      more.whole,
      more.led,
      more.back ∙ l.invariant.3,
      more.kept ∙ l.invariant.4,
      told_then start s (take l.index xs) (x ∷ []) (take (l.index + 1) xs) c.args.trail.now.traces.items l.trail.traces.items c.do_checked.new.trail.traces.items c.args.trail.now.inverse l.trail.inverse c.do_checked.new.trail.inverse
          l.invariant.5 l.invariant.0.done_so_far more.told (sym (take_next xs l.index x c.loop-index-test.true c.index-steps-index.is)),
    )

pub returns-clause-judged : goal.returns-clause-judged
returns-clause-judged g c =
    let l = c.loop-index in
    let le : length c.args.steps.now ≤ l.index = omega (arith, c.loop-index-test.false) in
    undo_ends (carried_context c.args.carried.now) (g.D.DocReader.document c.args.doc.now) c.args.steps.now l.index (carried_context l.carried) (g.D.DocReader.document l.doc) l.tally l.invariant.0 _ c.args.number le refl c.in_ok-copy_of.ensures c.new.ensures.items refl

pub returns-clause-told : goal.returns-clause-told
returns-clause-told g c =
    let l = c.loop-index in
    let start = g.D.DocReader.document c.args.doc.now in
    let xs = c.args.steps.now in
    let le : length xs ≤ l.index = omega (arith, c.loop-index-test.false) in
    let same : take l.index xs ≡ c.in_ok-copy_of.field-0 = all_taken xs l.index le ∙ sym c.in_ok-copy_of.ensures in
    let T : List Step → Type 0 = λ ys. AreTold start ys c.args.trail.now.traces.items l.trail.traces.items c.args.trail.now.inverse l.trail.inverse in
    record {
      document = l.invariant.0.done_so_far ∙ ap (after_steps start) same;
      told = subst T same l.invariant.5;
    }
