use Rattle.std.proofs.Common.{List, None, true, refl, subst}
use Rattle.std.proofs.lemmas.Result.{IfOk-weaker}
use Rattle.bundle_core.specs.declared.dispatch.Turn.{Turn}
use Rattle.bundle_core.specs.Core.{marked}
use Rattle.bundle_core.specs.Dispatch.{Misses}
use Rattle.bundle_core.specs.SessionState.{SessionState}
use Rattle.bundle_core.specs.Turns.{IsTurn}
use Rattle.bundle_core.proofs.KeptTurns.{marked_turn, missed_none, quiet_kept, quiet_ok}
use Rattle.bundle_core.proofs.LastChanges.{quiet_change}
use Rattle.bundle_core.proofs.dispatch.answer.Goals as goal

pub returns-in-Err-clause-ok : goal.returns-in-Err-clause-ok
returns-in-Err-clause-ok g c =
    let s = g.D.DocReader.document c.args.doc.now in
    let users = c.args.users.now in
    let xs = c.args.sessions.now.items in
    let ys = c.answer_closed.new.sessions.items in
    let l = c.args.records.now in
    let e = c.args.entry.now in
    let M : List SessionState → Type 0 = λ zs. Misses e.session zs c.in-Err.index in
    let misses : M xs = subst M c.deref.ensures.value c.in-Err.ensures in
    let P : Turn → Type 0 = λ t. IsTurn users s s xs ys l l (marked e t.kept) t.lines.items in
    quiet_ok (λ v. let t : Turn = record { lines = v; kept = true; change = None } in t) P c.answer_closed.result c.quiet.result c.quiet.ensures (IfOk-weaker c.answer_closed.result _ _
    (λ v a. marked_turn users s s xs ys l l e v.items c.requires.kept (quiet_kept users s xs ys l e v.items c.requires.kept (missed_none users s xs e c.in-Err.index misses) a)) c.answer_closed.ensures.ok)

pub returns-in-Err-clause-change : goal.returns-in-Err-clause-change
returns-in-Err-clause-change g c = quiet_change (λ v. let t : Turn = record { lines = v; kept = true; change = None } in t) (λ v. refl) (g.D.DocReader.document c.args.doc.now) c.args.records.now c.answer_closed.result c.quiet.result c.quiet.ensures
