use Rattle.std.proofs.Common.{◌≡◌, Bool, true, false, get_or, Some, None, refl, sym, ap, subst, ◌∙◌, arith}
use Rattle.std.proofs.lemmas.Result.{IfOk-weaker}
use Rattle.doc_model.specs.declared.user.User.{User}
use Rattle.bundle_judge.specs.declared.bare_verdict.BareVerdict.TheVariants.{Done}
use Rattle.bundle_core.specs.declared.dispatch.Turn.{Turn}
use Rattle.bundle_core.specs.Core.{marked}
use Rattle.bundle_core.specs.Dispatch.{Answers, state_of}
use Rattle.bundle_core.specs.Renaming.{planned}
use Rattle.bundle_core.specs.SessionState.{SessionState}
use Rattle.bundle_core.specs.State.{Holder, answered, fetched, from_open}
use Rattle.bundle_core.specs.Turns.{IsTurn}
use Rattle.bundle_core.proofs.JudgedLemmas.{asks_renaming}
use Rattle.bundle_core.proofs.KeptTurns.{found_none, quiet_err, quiet_kept, quiet_ok}
use Rattle.bundle_core.proofs.LastChanges.{quiet_change}
use Rattle.bundle_core.proofs.OpenLemmas.{code_lagging, code_open, code_sync, find_leaves, find_stays, comes_lagging, comes_open}
use Rattle.bundle_core.proofs.Prepared.{at_any, on_err_always}
use Rattle.bundle_core.proofs.dispatch.answer_open.Goals as goal

pub returns-then-is_lagging : goal.returns-then-is_lagging
returns-then-is_lagging g c =
    let s = g.D.DocReader.document c.args.doc.now in
    let users = c.args.users.now in
    let xs = c.args.sessions.now.items in
    let ys = c.leave.new.sessions.items in
    let l = c.args.records.now in
    let e = marked c.args.entry.now true in
    let d = c.index.result.now in
    let lag : (get_or xs c.args.index d).lagging ≡ true = ap (λ (z : SessionState). z.lagging) (sym c.index.ensures) ∙ sym c.is_lagging.ensures ∙ c.if-is_lagging.true in
    let comes = comes_lagging users s xs c.args.index e c.requires.finds d _ lag
    (λ z. code_lagging (state_of s z) e.request c.requires.stays ∙ ap (answered s None) (sym c.refused.ensures)) in
    let P : Turn → Type 0 = λ t. IsTurn users s s xs ys l l (marked c.args.entry.now t.kept) t.lines.items in
    record {
      ok = quiet_ok (λ v. let t : Turn = record { lines = v; kept = true; change = None } in t) P c.leave.result c.quiet.result c.quiet.ensures (IfOk-weaker c.leave.result _ _
          (λ v left. quiet_kept users s xs ys l e v.items refl (found_none users s xs c.args.index e c.requires.finds d (answered s None c.refused.result) comes refl)
          (find_leaves users s xs c.args.index e c.requires.finds d c.refused.result ys v.items comes left)) c.leave.ensures.ok);
      change = quiet_change (λ v. let t : Turn = record { lines = v; kept = true; change = None } in t) (λ v. refl) s l c.leave.result c.quiet.result c.quiet.ensures;
      whole = c.requires.whole;
      tally = c.requires.tally;
      err_document = on_err_always c.quiet.result refl;
      err = quiet_err (λ v. let t : Turn = record { lines = v; kept = true; change = None } in t) _ c.leave.result c.quiet.result c.quiet.ensures c.leave.ensures.err;
      err_told = on_err_always c.quiet.result refl;
      err_count = on_err_always c.quiet.result refl;
      err_faults = on_err_always c.quiet.result refl;
      later = omega arith;
    }

pub returns-in-Some : goal.returns-in-Some
returns-in-Some g c =
    let s = g.D.DocReader.document c.args.doc.now in
    let users = c.args.users.now in
    let xs = c.args.sessions.now.items in
    let ys = c.stay.new.sessions.items in
    let l = c.args.records.now in
    let e = marked c.args.entry.now true in
    let d = c.index.result.now in
    let h = (get_or xs c.args.index d).holder in
    let quick : (get_or xs c.args.index d).lagging ≡ false = ap (λ (z : SessionState). z.lagging) (sym c.index.ensures) ∙ sym c.is_lagging.ensures ∙ c.if-is_lagging.false in
    let comes = comes_open users s xs c.args.index e c.requires.finds d _ quick
    (λ z. code_open (state_of s z) h true e.request c.in-Some.refusal (sym c.refusal_open.ensures ∙ c.in-Some.is) ∙ ap (answered s (Some h)) (sym c.refused-in-Some.ensures)) in
    let P : Turn → Type 0 = λ t. IsTurn users s s xs ys l l (marked c.args.entry.now t.kept) t.lines.items in
    record {
      ok = quiet_ok (λ v. let t : Turn = record { lines = v; kept = true; change = None } in t) P c.stay.result c.quiet-in-Some.result c.quiet-in-Some.ensures (IfOk-weaker c.stay.result _ _
          (λ v stays. quiet_kept users s xs ys l e v.items refl (found_none users s xs c.args.index e c.requires.finds d (answered s (Some h) c.refused-in-Some.result) comes refl)
          (find_stays users s xs c.args.index e c.requires.finds d c.refused-in-Some.result ys v.items c.requires.whole comes stays)) c.stay.ensures.ok);
      change = quiet_change (λ v. let t : Turn = record { lines = v; kept = true; change = None } in t) (λ v. refl) s l c.stay.result c.quiet-in-Some.result c.quiet-in-Some.ensures;
      whole = c.requires.whole;
      tally = c.requires.tally;
      err_document = on_err_always c.quiet-in-Some.result refl;
      err = quiet_err (λ v. let t : Turn = record { lines = v; kept = true; change = None } in t) _ c.stay.result c.quiet-in-Some.result c.quiet-in-Some.ensures c.stay.ensures.err;
      err_told = on_err_always c.quiet-in-Some.result refl;
      err_count = on_err_always c.quiet-in-Some.result refl;
      err_faults = on_err_always c.quiet-in-Some.result refl;
      later = omega arith;
    }

pub returns-in_default-request : goal.returns-in_default-request
returns-in_default-request g c =
    let s = g.D.DocReader.document c.args.doc.now in
    let users = c.args.users.now in
    let xs = c.args.sessions.now.items in
    let ys = c.stay-in_default-request.new.sessions.items in
    let l = c.args.records.now in
    let e = marked c.args.entry.now true in
    let d = c.index.result.now in
    let h = (get_or xs c.args.index d).holder in
    let quick : (get_or xs c.args.index d).lagging ≡ false = ap (λ (z : SessionState). z.lagging) (sym c.index.ensures) ∙ sym c.is_lagging.ensures ∙ c.if-is_lagging.false in
    let comes = comes_open users s xs c.args.index e c.requires.finds d _ quick
    (λ z. code_sync (state_of s z) h true e.request (sym c.refusal_open.ensures ∙ c.in_default.is) c.requires.stays (λ actions is. c.in_default-request.not-Apply actions is) (λ number is. c.in_default-request.not-Undo number is) (λ table is. c.in_default-request.not-Fetch table is) (λ table column new is. c.in_default-request.not-Rename table column new is) c.in_default-request.not-Close) in
    let P : Turn → Type 0 = λ t. IsTurn users s s xs ys l l (marked c.args.entry.now t.kept) t.lines.items in
    record {
      ok = quiet_ok (λ v. let t : Turn = record { lines = v; kept = true; change = None } in t) P c.stay-in_default-request.result c.quiet-in_default-request.result c.quiet-in_default-request.ensures (IfOk-weaker c.stay-in_default-request.result _ _
          (λ v stays. quiet_kept users s xs ys l e v.items refl (found_none users s xs c.args.index e c.requires.finds d (answered s (Some h) Done) comes refl)
          (find_stays users s xs c.args.index e c.requires.finds d Done ys v.items c.requires.whole comes stays)) c.stay-in_default-request.ensures.ok);
      change = quiet_change (λ v. let t : Turn = record { lines = v; kept = true; change = None } in t) (λ v. refl) s l c.stay-in_default-request.result c.quiet-in_default-request.result c.quiet-in_default-request.ensures;
      whole = c.requires.whole;
      tally = c.requires.tally;
      err_document = on_err_always c.quiet-in_default-request.result refl;
      err = quiet_err (λ v. let t : Turn = record { lines = v; kept = true; change = None } in t) _ c.stay-in_default-request.result c.quiet-in_default-request.result c.quiet-in_default-request.ensures c.stay-in_default-request.ensures.err;
      err_told = on_err_always c.quiet-in_default-request.result refl;
      err_count = on_err_always c.quiet-in_default-request.result refl;
      err_faults = on_err_always c.quiet-in_default-request.result refl;
      later = omega arith;
    }

pub returns-in-Fetch : goal.returns-in-Fetch
returns-in-Fetch g c =
    let s = g.D.DocReader.document c.args.doc.now in
    let users = c.args.users.now in
    let xs = c.args.sessions.now.items in
    let ys = c.answer_fetch.new.sessions.items in
    let l = c.args.records.now in
    let e = marked c.args.entry.now true in
    let d = c.index.result.now in
    let h = (get_or xs c.args.index d).holder in
    let table = c.in-Fetch.table in
    let quick : (get_or xs c.args.index d).lagging ≡ false = ap (λ (z : SessionState). z.lagging) (sym c.index.ensures) ∙ sym c.is_lagging.ensures ∙ c.if-is_lagging.false in
    let comes = comes_open users s xs c.args.index e c.requires.finds d (fetched s h table) quick
    (λ z. ap (from_open (state_of s z) h true) c.in-Fetch.is) in
    let P : Turn → Type 0 = λ t. IsTurn users s s xs ys l l (marked c.args.entry.now t.kept) t.lines.items in
    record {
      ok = quiet_ok (λ v. let t : Turn = record { lines = v; kept = true; change = None } in t) P c.answer_fetch.result c.quiet-in-Fetch.result c.quiet-in-Fetch.ensures (IfOk-weaker c.answer_fetch.result _ _
          (λ v answers. quiet_kept users s xs ys l e v.items refl (found_none users s xs c.args.index e c.requires.finds d (fetched s h table) comes refl)
          (let Q : Bool → Type 0 = λ b. Answers users s s xs ys (marked c.args.entry.now b) v.items in subst Q c.requires.kept answers)) c.answer_fetch.ensures.ok);
      change = quiet_change (λ v. let t : Turn = record { lines = v; kept = true; change = None } in t) (λ v. refl) s l c.answer_fetch.result c.quiet-in-Fetch.result c.quiet-in-Fetch.ensures;
      whole = c.requires.whole;
      tally = c.requires.tally;
      err_document = on_err_always c.quiet-in-Fetch.result refl;
      err = quiet_err (λ v. let t : Turn = record { lines = v; kept = true; change = None } in t) _ c.answer_fetch.result c.quiet-in-Fetch.result c.quiet-in-Fetch.ensures c.answer_fetch.ensures.err;
      err_told = on_err_always c.quiet-in-Fetch.result refl;
      err_count = on_err_always c.quiet-in-Fetch.result refl;
      err_faults = on_err_always c.quiet-in-Fetch.result refl;
      later = omega arith;
    }

pub returns-in-Close : goal.returns-in-Close
returns-in-Close g c =
    let s = g.D.DocReader.document c.args.doc.now in
    let users = c.args.users.now in
    let xs = c.args.sessions.now.items in
    let ys = c.leave-in-Close.new.sessions.items in
    let l = c.args.records.now in
    let e = marked c.args.entry.now true in
    let d = c.index.result.now in
    let h = (get_or xs c.args.index d).holder in
    let quick : (get_or xs c.args.index d).lagging ≡ false = ap (λ (z : SessionState). z.lagging) (sym c.index.ensures) ∙ sym c.is_lagging.ensures ∙ c.if-is_lagging.false in
    let comes = comes_open users s xs c.args.index e c.requires.finds d _ quick
    (λ z. ap (from_open (state_of s z) h true) c.in-Close.is) in
    let P : Turn → Type 0 = λ t. IsTurn users s s xs ys l l (marked c.args.entry.now t.kept) t.lines.items in
    record {
      ok = quiet_ok (λ v. let t : Turn = record { lines = v; kept = true; change = None } in t) P c.leave-in-Close.result c.quiet-in-Close.result c.quiet-in-Close.ensures (IfOk-weaker c.leave-in-Close.result _ _
          (λ v left. quiet_kept users s xs ys l e v.items refl (found_none users s xs c.args.index e c.requires.finds d (answered s None Done) comes refl)
          (find_leaves users s xs c.args.index e c.requires.finds d Done ys v.items comes left)) c.leave-in-Close.ensures.ok);
      change = quiet_change (λ v. let t : Turn = record { lines = v; kept = true; change = None } in t) (λ v. refl) s l c.leave-in-Close.result c.quiet-in-Close.result c.quiet-in-Close.ensures;
      whole = c.requires.whole;
      tally = c.requires.tally;
      err_document = on_err_always c.quiet-in-Close.result refl;
      err = quiet_err (λ v. let t : Turn = record { lines = v; kept = true; change = None } in t) _ c.leave-in-Close.result c.quiet-in-Close.result c.quiet-in-Close.ensures c.leave-in-Close.ensures.err;
      err_told = on_err_always c.quiet-in-Close.result refl;
      err_count = on_err_always c.quiet-in-Close.result refl;
      err_faults = on_err_always c.quiet-in-Close.result refl;
      later = omega arith;
    }

pub answer_renaming-requires-clause-asks : goal.answer_renaming-requires-clause-asks
answer_renaming-requires-clause-asks g c =
    λ d. let s = g.D.DocReader.document c.args.doc.now in
    let xs = c.args.sessions.now.items in
    let h : Holder = (get_or xs c.args.index d).holder in
    let at = at_any xs c.args.index c.index-in-Rename.result.now d c.requires.finds.within c.index-in-Rename.ensures in
    let own : c.user-user.result.now ≡ h.user = c.user-user.ensures ∙ ap (λ (x : SessionState). x.holder.user) (sym at) in
    let P : User → Type 0 = λ u. c.in_ok-plan-in-Rename.plan ≡ planned u s c.in-Rename.table c.in-Rename.column c.in-Rename.new in
    asks_renaming h s c.args.entry.now.request c.in-Rename.table c.in-Rename.column c.in-Rename.new c.in_ok-plan-in-Rename.plan c.in-Rename.is
    (subst P own c.in_ok-plan-in-Rename.ensures.plan)
