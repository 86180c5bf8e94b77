use Rattle.std.proofs.Common.{◌≡◌, None, map, true, false, refl, sym, subst, IfOk}
use Rattle.std.proofs.lemmas.Result.{IfOk-weaker}
use Rattle.doc_model.specs.Document.{Document}
use Rattle.doc_model.specs.DocumentLaws.{IsWhole}
use Rattle.doc_model.proofs.InverseLaws.{IsWhole-apply_all}
use Rattle.action_limits.specs.Tallies.{IsTally}
use Rattle.user_actions.specs.StepLaws.{action_of}
use Rattle.bundle_core.specs.declared.dispatch.Turn.{Turn}
use Rattle.bundle_core.specs.Core.{marked}
use Rattle.bundle_judge.specs.JudgedBundles.{IsBundlePlan}
use Rattle.bundle_judge.specs.Rollback.{gone_back}
use Rattle.context_changes.specs.Known.{AreKnown}
use Rattle.bundle_core.specs.LastChange.{TellsChange}
use Rattle.bundle_core.specs.Turns.{IsDone, IsTurn, IsUnkept}
use Rattle.bundle_core.proofs.KeptTurns.{done_turn, is_bundle, quiet_ok, refused_turn, unkept_turn}
use Rattle.bundle_core.proofs.LastChanges.{quiet_change}
use Rattle.bundle_core.proofs.OpenLemmas.{some_session}
use Rattle.bundle_core.proofs.dispatch.answer_judged.Goals as goal

pub returns-in-Refused-clause-ok : goal.returns-in-Refused-clause-ok
returns-in-Refused-clause-ok g c =
    let s = gone_back g.D.DocTables.fits g.D.DocTables.undone c.args.trail.traces.items (g.D.DocReader.document c.args.doc.now) in
    let users = c.args.users.now in
    let xs = c.args.sessions.now.items in
    let ys = c.stay.new.sessions.items in
    let l = c.args.records.now in
    let d = some_session in
    let k = c.requires.judged d in
    let P : Turn → Type 0 = λ t. IsTurn users s s xs ys l l (marked c.args.entry.now t.kept) t.lines.items in
    let same : g.D.DocReader.document c.args.doc.now ≡ s = rw c.in-Refused.is at c.requires.done in
    let T : Document → Type 0 = λ u. IfOk c.quiet.result (λ t. IsTurn users s u xs ys l l (marked c.args.entry.now t.kept) t.lines.items) in
    subst T (sym same) (quiet_ok (λ v. let t : Turn = record { lines = v; kept = true; change = None } in t) P c.stay.result c.quiet.result c.quiet.ensures (IfOk-weaker c.stay.result _ _
    (λ v b. refused_turn users s xs c.args.index (marked c.args.entry.now true) c.requires.finds d k.undone k.judgement c.in-Refused.verdict ys v.items l c.requires.whole k.asks refl (c.requires.quick d)
    (rw c.in-Refused.is at k.judged) b) c.stay.ensures.ok))

pub returns-in-Refused-clause-whole : goal.returns-in-Refused-clause-whole
returns-in-Refused-clause-whole g c =
    let s = gone_back g.D.DocTables.fits g.D.DocTables.undone c.args.trail.traces.items (g.D.DocReader.document c.args.doc.now) in
    let same : g.D.DocReader.document c.args.doc.now ≡ s = rw c.in-Refused.is at c.requires.done in
    let P : Document → Type 0 = λ z. IsWhole z in
    subst P (sym same) c.requires.whole

pub returns-in-Refused-clause-tally : goal.returns-in-Refused-clause-tally
returns-in-Refused-clause-tally g c =
    let s = gone_back g.D.DocTables.fits g.D.DocTables.undone c.args.trail.traces.items (g.D.DocReader.document c.args.doc.now) in
    let same : g.D.DocReader.document c.args.doc.now ≡ s = rw c.in-Refused.is at c.requires.done in
    let P : Document → Type 0 = λ z. IsTally z c.args.tally.now in
    subst P (sym same) c.requires.tally

pub returns-in-Refused-clause-known : goal.returns-in-Refused-clause-known
returns-in-Refused-clause-known g c =
    let s = gone_back g.D.DocTables.fits g.D.DocTables.undone c.args.trail.traces.items (g.D.DocReader.document c.args.doc.now) in
    let same : g.D.DocReader.document c.args.doc.now ≡ s = rw c.in-Refused.is at c.requires.done in
    let P : Document → Type 0 = λ z. AreKnown z c.args.known.now in
    subst P (sym same) c.requires.known

pub accept-requires-clause-done : goal.accept-requires-clause-done
accept-requires-clause-done g c = rw c.in-Accepted.is at c.requires.done

pub accept-requires-clause-valid : goal.accept-requires-clause-valid
accept-requires-clause-valid g c =
    let k = c.requires.judged some_session in
    let plan : IsBundlePlan k.judgement k.undone (gone_back g.D.DocTables.fits g.D.DocTables.undone c.args.trail.traces.items (g.D.DocReader.document c.args.doc.now)) c.in-Accepted.plan = rw c.in-Accepted.is at k.judged in
    plan.may.valid

pub accept-requires-clause-own : goal.accept-requires-clause-own
accept-requires-clause-own g c = λ d. rw c.in-Accepted.is at (c.requires.judged d).own

pub returns-in-Done-clause-ok : goal.returns-in-Done-clause-ok
returns-in-Done-clause-ok g c =
    let s = gone_back g.D.DocTables.fits g.D.DocTables.undone c.args.trail.traces.items (g.D.DocReader.document c.args.doc.now) in
    let t = g.D.DocReader.document c.accept.new.doc in
    let xs = c.args.sessions.now.items in
    let ys = c.accept.new.sessions.items in
    let was = c.args.records.now in
    let now = c.accept.new.records in
    let d = some_session in
    let p = c.in-Accepted.plan in
    let k = c.requires.judged d in
    let plan : IsBundlePlan k.judgement k.undone s p = rw c.in-Accepted.is at k.judged in
    let done : IsDone s t xs ys was now c.args.index p c.in-Done.lines.items = rw c.in-Done.is at c.in_ok-lines-in-Accepted.ensures.ok in
    done_turn c.args.users.now s xs c.args.index (marked c.args.entry.now true) c.requires.finds d t ys was now p c.in-Done.lines.items k.undone k.judgement c.requires.whole k.asks (c.requires.quick d) plan refl k.actions done

pub returns-in-Done-clause-whole : goal.returns-in-Done-clause-whole
returns-in-Done-clause-whole g c =
    let s = gone_back g.D.DocTables.fits g.D.DocTables.undone c.args.trail.traces.items (g.D.DocReader.document c.args.doc.now) in
    let t = g.D.DocReader.document c.accept.new.doc in
    let p = c.in-Accepted.plan in
    let k = c.requires.judged some_session in
    let plan : IsBundlePlan k.judgement k.undone s p = rw c.in-Accepted.is at k.judged in
    let done : IsDone s t c.args.sessions.now.items c.accept.new.sessions.items c.args.records.now c.accept.new.records c.args.index p c.in-Done.lines.items = rw c.in-Done.is at c.in_ok-lines-in-Accepted.ensures.ok in
    let P : Document → Type 0 = λ z. IsWhole z in
    subst P (sym done.document) (IsWhole-apply_all s (map action_of p.steps) c.requires.whole plan.may.valid)

pub returns-in-Done-clause-tally : goal.returns-in-Done-clause-tally
returns-in-Done-clause-tally g c =
    let s = gone_back g.D.DocTables.fits g.D.DocTables.undone c.args.trail.traces.items (g.D.DocReader.document c.args.doc.now) in
    let t = g.D.DocReader.document c.accept.new.doc in
    let p = c.in-Accepted.plan in
    let k = c.requires.judged some_session in
    let plan : IsBundlePlan k.judgement k.undone s p = rw c.in-Accepted.is at k.judged in
    let done : IsDone s t c.args.sessions.now.items c.accept.new.sessions.items c.args.records.now c.accept.new.records c.args.index p c.in-Done.lines.items = rw c.in-Done.is at c.in_ok-lines-in-Accepted.ensures.ok in
    let P : Document → Type 0 = λ z. IsTally z p.tally in
    subst P (sym done.document) plan.may.counts

pub returns-in-Unkept-clause-ok : goal.returns-in-Unkept-clause-ok
returns-in-Unkept-clause-ok g c =
    let s = gone_back g.D.DocTables.fits g.D.DocTables.undone c.args.trail.traces.items (g.D.DocReader.document c.args.doc.now) in
    let t = g.D.DocReader.document c.accept.new.doc in
    let users = c.args.users.now in
    let xs = c.args.sessions.now.items in
    let ys = c.accept.new.sessions.items in
    let was = c.args.records.now in
    let now = c.accept.new.records in
    let d = some_session in
    let p = c.in-Accepted.plan in
    let k = c.requires.judged d in
    let plan : IsBundlePlan k.judgement k.undone s p = rw c.in-Accepted.is at k.judged in
    let unkept : IsUnkept s t xs ys was now c.args.index c.in-Unkept.lines.items = rw c.in-Unkept.is at c.in_ok-lines-in-Accepted.ensures.ok in
    let would = is_bundle users s xs c.args.index (marked c.args.entry.now true) c.requires.finds d t ys was now p c.in-Unkept.lines.items k.undone k.judgement c.requires.whole k.asks (c.requires.quick d) plan refl in
    unkept_turn users s xs c.args.index (marked c.args.entry.now false) c.requires.finds d t ys was now p c.in-Unkept.lines.items k.undone k.judgement c.requires.whole k.asks (c.requires.quick d) plan refl would unkept

pub returns-in-Refused-clause-change : goal.returns-in-Refused-clause-change
returns-in-Refused-clause-change g c =
    let s = gone_back g.D.DocTables.fits g.D.DocTables.undone c.args.trail.traces.items (g.D.DocReader.document c.args.doc.now) in
    let l = c.args.records.now in
    let same : g.D.DocReader.document c.args.doc.now ≡ s = rw c.in-Refused.is at c.requires.done in
    let T : Document → Type 0 = λ u. IfOk c.quiet.result (λ t. TellsChange s u l l t.change) in
    subst T (sym same) (quiet_change (λ v. let t : Turn = record { lines = v; kept = true; change = None } in t) (λ v. refl) s l c.stay.result c.quiet.result c.quiet.ensures)

pub returns-in-Done-clause-change : goal.returns-in-Done-clause-change
returns-in-Done-clause-change g c =
    let s = gone_back g.D.DocTables.fits g.D.DocTables.undone c.args.trail.traces.items (g.D.DocReader.document c.args.doc.now) in
    let t = g.D.DocReader.document c.accept.new.doc in
    let was = c.args.records.now in
    let now = c.accept.new.records in
    let p = c.in-Accepted.plan in
    let k = c.requires.judged some_session in
    let plan : IsBundlePlan k.judgement k.undone s p = rw c.in-Accepted.is at k.judged in
    let done : IsDone s t c.args.sessions.now.items c.accept.new.sessions.items was now c.args.index p c.in-Done.lines.items = rw c.in-Done.is at c.in_ok-lines-in-Accepted.ensures.ok in
    (record { whole = c.requires.whole; valid = plan.may.valid; after = done.document; lost = rw c.in-Done.is at c.in_ok-lines-in-Accepted.ensures.lost }, done.count)

pub returns-in-Unkept-clause-change : goal.returns-in-Unkept-clause-change
returns-in-Unkept-clause-change g c =
    let s = gone_back g.D.DocTables.fits g.D.DocTables.undone c.args.trail.traces.items (g.D.DocReader.document c.args.doc.now) in
    let t = g.D.DocReader.document c.accept.new.doc in
    let unkept : IsUnkept s t c.args.sessions.now.items c.accept.new.sessions.items c.args.records.now c.accept.new.records c.args.index c.in-Unkept.lines.items = rw c.in-Unkept.is at c.in_ok-lines-in-Accepted.ensures.ok in
    (unkept.document, unkept.count)
