use Rattle.std.proofs.Common.{◌≡◌, ℕ, ◌<◌, true, get_or, map, Some, None, refl, arith}
use Rattle.std.proofs.lemmas.Result.{IfOk-weaker}
use Rattle.bundle_judge.specs.declared.bare_verdict.BareVerdict.{BareVerdict}
use Rattle.bundle_judge.specs.declared.bare_verdict.BareVerdict.TheVariants.{Unresolved}
use Rattle.bundle_core.specs.declared.dispatch.Turn.{Turn}
use Rattle.bundle_core.specs.Core.{marked}
use Rattle.bundle_core.specs.SessionState.{SessionState, open_of}
use Rattle.bundle_core.specs.State.{Holder, answered}
use Rattle.bundle_core.specs.Turns.{IsTurn}
use Rattle.bundle_core.proofs.JudgedLemmas.{asks_resolved, asks_unresolved}
use Rattle.bundle_core.proofs.KeptTurns.{found_none, quiet_kept, quiet_ok}
use Rattle.bundle_core.proofs.LastChanges.{quiet_change}
use Rattle.bundle_core.proofs.OpenLemmas.{comes_open, find_stays, some_session}
use Rattle.bundle_core.proofs.dispatch.answer_renaming.Goals as goal

pub returns-then-plan-gt0-clause-ok : goal.returns-then-plan-gt0-clause-ok
returns-then-plan-gt0-clause-ok g c =
    let s = g.D.DocReader.document c.args.doc.now in
    let users = c.args.users.now in
    let xs = c.args.sessions.now.items in
    let ys = c.stay.new.sessions.items in
    let l = c.args.records.now in
    let e = marked c.args.entry.now true in
    let d : SessionState = some_session in
    let h : Holder = (get_or xs c.args.index d).holder in
    let v : BareVerdict = Unresolved c.args.plan.now.unresolved in
    let some : 0 < c.args.plan.now.unresolved = omega (arith, c.if-plan-gt0.true) in
    let comes = comes_open users s xs c.args.index e c.requires.finds d (answered s (Some h) v) (c.requires.quick d)
    (λ z. asks_unresolved h s e.request c.args.plan.now some (c.requires.asks d) (map (open_of s) z) true) in
    let P : Turn → Type 0 = λ t. IsTurn users s s xs ys l l (marked c.args.entry.now t.kept) t.lines.items in
    quiet_ok (λ lines. let t : Turn = record { lines = lines; kept = true; change = None } in t) P c.stay.result c.quiet.result c.quiet.ensures (IfOk-weaker c.stay.result _ _
    (λ lines stays. quiet_kept users s xs ys l e lines.items refl (found_none users s xs c.args.index e c.requires.finds d (answered s (Some h) v) comes refl)
    (find_stays users s xs c.args.index e c.requires.finds d v ys lines.items c.requires.whole comes stays)) c.stay.ensures.ok)

pub answer_bundle-requires-clause-asks : goal.answer_bundle-requires-clause-asks
answer_bundle-requires-clause-asks g c =
    λ d. let s = g.D.DocReader.document c.args.doc.now in
    let h : Holder = (get_or c.args.sessions.now.items c.args.index d).holder in
    let none : c.args.plan.now.unresolved ≡ 0 = omega (arith, c.if-plan-gt0.false) in
    asks_resolved h s c.args.entry.now.request c.args.plan.now none (c.requires.asks d)

pub returns-then-plan-gt0-clause-change : goal.returns-then-plan-gt0-clause-change
returns-then-plan-gt0-clause-change g c =
    quiet_change (λ lines. let t : Turn = record { lines = lines; kept = true; change = None } in t) (λ v. refl) (g.D.DocReader.document c.args.doc.now) c.args.records.now c.stay.result c.quiet.result c.quiet.ensures
