-- What an entry makes of the document and of logs.
use Rattle.std.proofs.Common.{ℕ, ◌+◌, ◌≡◌, Bool, true, false, cond, List, length, nat_le, Option, Some, None, inl, inr, refl, sym, ap, subst, ◌∙◌, option_map, if◌then◌else◌}
use Rattle.std.proofs.lemmas.Bool.{false≢true, true≢false}
use Rattle.std.proofs.lemmas.Slice.Eq.{bytes_eq-Decides}
use Rattle.std.specs.Str.{bytes_eq}
use Rattle.doc_model.specs.declared.action.Step.{Step}
use Rattle.doc_model.specs.declared.entry.Entry.{Entry}
use Rattle.doc_model.specs.declared.limit.LimitKind.TheVariants as limit
use Rattle.doc_model.specs.declared.refusal.Refusal.TheVariants.{StoreFault, UnknownToken}
use Rattle.doc_model.specs.declared.request.Request.{Request}
use Rattle.doc_model.specs.declared.request.Request.TheVariants as request
use Rattle.doc_model.specs.declared.user.User.{User}
use Rattle.doc_model.specs.declared.view.ViewTable.{ViewTable}
use Rattle.doc_model.specs.ByIds.{find_id}
use Rattle.doc_model.specs.Document.{Document}
use Rattle.doc_model.proofs.ByIdsLaws.{bytes_itself, find-put_by_id, find-without_id}
use Rattle.undo_bundles.specs.BundleLog.{Log, count, empty_log, marked, noted, undo_of}
use Rattle.undo_bundles.specs.InverseSteps.{inverse_steps}
use Rattle.undo_bundles.proofs.LogLaws.{marked_count}
use Rattle.bundle_judge.specs.declared.bare_verdict.BareVerdict.TheVariants as verdict
use Rattle.bundle_judge.specs.Judgement.{Judgement, accepted, refused, judge}
use Rattle.bundle_core.specs.Mailbox.{Mailbox, Outcome, shows_view, says, own}
use Rattle.bundle_core.specs.State.{Holder, Open, State, Verdicts, answered, bundle_of, from_closed, from_lagging, from_open, mailbox_of, opened, posted_all, posted_to, refusal, session_bound, session_name, session_of, step, turn_of, user_of, verdicts, with_session}
use Rattle.bundle_judge.specs.Undo.{judge_own_undo}
use Rattle.bundle_core.specs.Renaming.{judge_renaming, planned}
use Rattle.bundle_core.specs.UndoLaw.{asks_so, number_told}
use Rattle.bundle_core.proofs.RenamingLemmas.{planned_formed, renaming_done}
use Rattle.rule_contexts.specs.Context.{view}
use Rattle.bundle_core.proofs.SessionLaws.{find-posted_all, find-with_session, posted_in}
use Rattle.bundle_core.proofs.DoneBundles.{AreDone, BundlesAreDone, IsDone, IsFine, IsKept, done_own}

-- ---- what an entry comes to: all stays, or a bundle is done and noted

abbrev pub log_held : Option Holder → Log
log_held None = empty_log
log_held (Some h) = h.log

abbrev pub log_in : Option Open → Log
log_in None = empty_log
log_in (Some o) = o.holder.log

abbrev pub log_of : List ℕ → State → Log
log_of name st = log_in (session_of name st)

pub record IsBundle (s : Document) (v : Verdicts) : Type 0 where
  pub steps : List Step
  pub before : Log
  pub done : AreDone s steps v.document
  pub told : number_told v.outcome ≡ Some (count before + 1)
  pub noted_then : log_held v.holder ≡ noted (inverse_steps s steps) before

pub record IsTurn (s : Document) (log : Log) (r : Request) (v : Verdicts) : Type 0 where
  pub same : v.is_bundle ≡ false → (v.document ≡ s) × IsKept log (log_held v.holder)
  pub bundle : v.is_bundle ≡ true → IsFine s → asks_so r ≡ true → IsBundle s v

stays : (s : Document) (log : Log) (r : Request) (o : Outcome) (h : Option Holder) → IsKept log (log_held h) → IsTurn s log r (record { outcome = o; document = s; is_bundle = false; holder = h })
stays s log r o h kept = record { same = λ _. (refl, kept); bundle = λ is. absurd (false≢true is) }

bundle_turn : (h : Holder) (undone : Option ℕ) (s : Document) (r : Request) (kept : Bool) (j : Judgement) → (IsFine s → asks_so r ≡ true → IsDone s j) → IsTurn s h.log r (bundle_of h undone s kept j)
bundle_turn h undone s r kept (refused v) d = stays s h.log r (says v) (Some h) (inl refl)
bundle_turn h undone s r false (accepted t steps ms) d = stays s h.log r (says (refusal StoreFault)) (Some h) (inl refl)
bundle_turn h None s r true (accepted t steps ms) d = record {
  same = λ isnt. absurd (true≢false isnt);
  bundle = λ _ fine asked. record { steps = steps; before = h.log; done = d fine asked; told = refl; noted_then = refl };
}
bundle_turn h (Some n) s r true (accepted t steps ms) d = record {
  same = λ isnt. absurd (true≢false isnt);
  bundle = λ _ fine asked. record {
    steps = steps;
    before = marked n h.log;
    done = d fine asked;
    told = ap (λ c. Some (c + 1)) (sym (marked_count n h.log));
    noted_then = refl;
  };
}

open_turn : BundlesAreDone → (st : State) (h : Holder) (kept : Bool) (r : Request) → IsTurn st.document h.log r (from_open st h kept r)
open_turn done st h kept (request.Apply actions) =
    bundle_turn h None st.document (request.Apply actions) kept (judge h.user st.document actions) (done h.user st.document actions)
open_turn done st h kept (request.Undo n) =
    bundle_turn h (Some n) st.document (request.Undo n) kept (judge_own_undo h.user (undo_of h.log n) st.document) (λ fine _. done_own h.user (undo_of h.log n) st.document fine)
open_turn done st h kept request.Bad = stays st.document h.log _ _ (Some h) (inl refl)
open_turn done st h kept request.TooLong = stays st.document h.log _ _ (Some h) (inl refl)
open_turn done st h kept (request.Open token) = stays st.document h.log _ _ (Some h) (inl refl)
open_turn done st h kept request.Sync = stays st.document h.log _ _ (Some h) (inl refl)
open_turn done st h kept (request.Rename table column new) =
    bundle_turn h None st.document (request.Rename table column new) kept (judge_renaming h.user st.document table column new) (λ fine _. renaming_done done h.user st.document (planned h.user st.document table column new) fine (planned_formed h.user st.document table column new))
open_turn done st h kept (request.Fetch table) = stays st.document h.log _ _ (Some h) (inl refl)
open_turn done st h kept request.Close = stays st.document h.log _ _ None (inr refl)
open_turn done st h kept request.Gone = stays st.document h.log _ _ None (inr refl)

lagging_turn : (st : State) (log : Log) (r : Request) → IsTurn st.document log r (from_lagging st r)
lagging_turn st log request.Gone = stays st.document log _ _ None (inr refl)
lagging_turn st log request.Bad = stays st.document log _ _ None (inr refl)
lagging_turn st log request.TooLong = stays st.document log _ _ None (inr refl)
lagging_turn st log (request.Open token) = stays st.document log _ _ None (inr refl)
lagging_turn st log (request.Apply actions) = stays st.document log _ _ None (inr refl)
lagging_turn st log (request.Undo n) = stays st.document log _ _ None (inr refl)
lagging_turn st log request.Sync = stays st.document log _ _ None (inr refl)
lagging_turn st log (request.Rename table column new) = stays st.document log _ _ None (inr refl)
lagging_turn st log (request.Fetch table) = stays st.document log _ _ None (inr refl)
lagging_turn st log request.Close = stays st.document log _ _ None (inr refl)

opened_turn : (users : List User) (st : State) (token : List ℕ) (r : Request) → IsTurn st.document empty_log r (opened users st token)
opened_turn users st token r =
    elim (user_of users token) as (λ o. IsTurn st.document empty_log r (elim o as (λ _. Verdicts) [
      | None ↦ answered st.document None (refusal UnknownToken)
      | Some user ↦ if nat_le session_bound (length st.open_sessions)
          then answered st.document None (verdict.Limited limit.Sessions session_bound None)
          else record { outcome = shows_view; document = st.document; is_bundle = false; holder = Some (record { user = user; log = empty_log }) }
    ])) [
      | None ↦ stays st.document empty_log r _ None (inr refl)
      | Some user ↦ elim (nat_le session_bound (length st.open_sessions)) as (λ b. IsTurn st.document empty_log r (if b
          then answered st.document None (verdict.Limited limit.Sessions session_bound None)
          else record { outcome = shows_view; document = st.document; is_bundle = false; holder = Some (record { user = user; log = empty_log }) })) [
            | true ↦ stays st.document empty_log r _ None (inr refl)
            | false ↦ stays st.document empty_log r shows_view (Some (record { user = user; log = empty_log })) (inr refl)
          ]
    ]

closed_turn : (users : List User) (st : State) (r : Request) → IsTurn st.document empty_log r (from_closed users st r)
closed_turn users st (request.Open token) = opened_turn users st token (request.Open token)
closed_turn users st request.Bad = stays st.document empty_log _ _ None (inr refl)
closed_turn users st request.TooLong = stays st.document empty_log _ _ None (inr refl)
closed_turn users st request.Gone = stays st.document empty_log _ _ None (inr refl)
closed_turn users st (request.Apply actions) = stays st.document empty_log _ _ None (inr refl)
closed_turn users st (request.Undo n) = stays st.document empty_log _ _ None (inr refl)
closed_turn users st request.Sync = stays st.document empty_log _ _ None (inr refl)
closed_turn users st (request.Rename table column new) = stays st.document empty_log _ _ None (inr refl)
closed_turn users st (request.Fetch table) = stays st.document empty_log _ _ None (inr refl)
closed_turn users st request.Close = stays st.document empty_log _ _ None (inr refl)

pub turn : BundlesAreDone → (users : List User) (st : State) (e : Entry) → IsTurn st.document (log_of e.session st) e.request (verdicts users st e)
turn done users st e =
    elim (session_of e.session st) as (λ o. IsTurn st.document (log_in o) e.request (elim o as (λ _. Verdicts) [
      | None ↦ from_closed users st e.request
      | Some x ↦ if x.mailbox.lagging then from_lagging st e.request else from_open st x.holder e.kept e.request
    ])) [
      | None ↦ closed_turn users st e.request
      | Some x ↦ elim x.mailbox.lagging as (λ l. IsTurn st.document x.holder.log e.request (if l then from_lagging st e.request else from_open st x.holder e.kept e.request)) [
        | true ↦ lagging_turn st x.holder.log e.request
        | false ↦ open_turn done st x.holder e.kept e.request
      ]
    ]

-- ---- the log of a session after an entry

own_log : (name : List ℕ) (h : Option Holder) (f : Holder → List ViewTable) (m : Option Mailbox) (r : Request) (o : Outcome) (os : List Open)
    → log_in (find_id session_name name (with_session name h (own m r o (option_map f h)).mailbox os)) ≡ log_held h
own_log name None f m r o os =
    ap log_in (find-without_id session_name name os name ∙ ap (λ b. cond b None (find_id session_name name os)) (bytes_itself name))
own_log name (Some h) f None r o os =
    let x : Open = record { session = name; holder = h; mailbox = _ } in
    ap log_in (find-put_by_id session_name x os name ∙ ap (λ b. cond b (Some x) (find_id session_name name os)) (bytes_itself name))
own_log name (Some h) f (Some m) r o os =
    let x : Open = record { session = name; holder = h; mailbox = _ } in
    ap log_in (find-put_by_id session_name x os name ∙ ap (λ b. cond b (Some x) (find_id session_name name os)) (bytes_itself name))

pub log_after : (users : List User) (st : State) (e : Entry) → log_of e.session (step users st e) ≡ log_held (verdicts users st e).holder
log_after users st e =
    let v = verdicts users st e in
    own_log e.session v.holder (λ h. view h.user v.document) (mailbox_of e.session st) e.request v.outcome (posted_all v st.open_sessions)

posted_log : (v : Verdicts) (o : Option Open) → log_in (posted_in v o) ≡ log_in o
posted_log v None = elim v.is_bundle as (λ b. log_in (if b then option_map (posted_to v.document) None else None) ≡ empty_log) [ true ↦ refl | false ↦ refl ]
posted_log v (Some o) = elim v.is_bundle as (λ b. log_in (if b then option_map (posted_to v.document) (Some o) else Some o) ≡ o.holder.log) [ true ↦ refl | false ↦ refl ]

-- an entry that is no accepted bundle leaves each session's log, or closes or opens it
pub log_kept : BundlesAreDone → (users : List User) (st : State) (e : Entry) (name : List ℕ) → (verdicts users st e).is_bundle ≡ false → IsKept (log_of name st) (log_of name (step users st e))
log_kept done users st e name isnt =
    let v = verdicts users st e in
    elim (bytes_eq e.session name) as (λ b. bytes_eq e.session name ≡ b → IsKept (log_of name st) (log_of name (step users st e))) [
      | true ↦ λ same.
          let P : List ℕ → Type 0 = λ n. IsKept (log_of n st) (log_of n (step users st e)) in
          subst P ((bytes_eq-Decides e.session name).0 same) (subst (IsKept (log_of e.session st)) (sym (log_after users st e)) ((turn done users st e).same isnt).1)
      | false ↦ λ apart.
          inl (ap log_in (find-with_session name e.session v.holder (turn_of st e v).mailbox (posted_all v st.open_sessions) apart ∙ find-posted_all v name st.open_sessions)
          ∙ posted_log v (session_of name st))
    ] refl
