-- What the turns of entries do to what is told of the keeper.
use Rattle.std.proofs.Common.{◌≡◌, ℕ, Bool, true, false, List, [], ◌∷◌, ◌++◌, map, take, drop, suc, length, get_or, nat_le, Option, Some, None, Result, Ok, Err, IfOk, OnErr, MatchResult, refl, sym, ap, subst, ◌∙◌, if◌then◌else◌}
use Rattle.std.proofs.lemmas.Bool.{false≢true}
use Rattle.std.proofs.lemmas.List.{take-append-drop}
use Rattle.doc_model.specs.declared.action.DocAction.{DocAction}
use Rattle.doc_model.specs.declared.entry.Entry.{Entry}
use Rattle.doc_model.specs.declared.limit.LimitKind.TheVariants as limit
use Rattle.doc_model.specs.declared.refusal.Refusal.TheVariants.{UnknownToken}
use Rattle.doc_model.specs.declared.request.Request.{Request}
use Rattle.doc_model.specs.declared.request.Request.TheVariants as request
use Rattle.doc_model.specs.declared.user.User.{User}
use Rattle.doc_model.specs.ByIds.{find_id}
use Rattle.doc_model.specs.Document.{Document}
use Rattle.doc_model.specs.DocumentLaws.{IsWhole}
use Rattle.doc_model.proofs.InverseLaws.{IsWhole-apply_all}
use Rattle.record_lines.specs.Printed.{record_text}
use Rattle.bundle_records.specs.Ledger.{AddsNext, IsNextRecord, Ledger, OpensTo}
use Rattle.bundle_records.proofs.Reopening.{opens_more}
use Rattle.undo_bundles.specs.BundleLog.{empty_log}
use Rattle.undo_bundles.specs.InverseSteps.{inverse_steps}
use Rattle.user_actions.specs.StepLaws.{action_of}
use Rattle.bundle_core.specs.Replies.{reply_of}
use Rattle.bundle_judge.specs.declared.bare_verdict.BareVerdict.{BareVerdict}
use Rattle.bundle_judge.specs.declared.bare_verdict.BareVerdict.TheVariants as verdict
use Rattle.bundle_judge.specs.declared.judging.BundlePlan.{BundlePlan}
use Rattle.bundle_core.specs.Core.{marked}
use Rattle.bundle_core.specs.Dispatch.{Answers, Bundles, Finds, Misses, Stays, bundle_reply, state_of}
use Rattle.bundle_core.specs.Judged.{AsksFor}
use Rattle.bundle_judge.specs.JudgedBundles.{IsBundlePlan, after_steps, told_changes}
use Rattle.bundle_judge.specs.Judgement.{Judgement, accepted, refused}
use Rattle.bundle_core.specs.KeptBundles.{actions_asked, actions_of, bundle_actions, record_at, with_record}
use Rattle.bundle_core.specs.Mailbox.{shows_view}
use Rattle.bundle_core.specs.SessionState.{SessionState, open_of}
use Rattle.bundle_core.specs.State.{Open, State, Verdicts, answered, bundle_of, from_closed, from_lagging, from_open, refusal, session_bound, session_name, session_of, user_of, verdicts}
use Rattle.bundle_core.specs.Turns.{IsDone, IsTurn, IsUnkept}
use Rattle.bundle_core.proofs.Answering.{opens, opens-append, opens_above, opens_below}
use Rattle.bundle_core.proofs.KeptLaws.{no_count, no_more, one_count}
use Rattle.bundle_core.proofs.OpenLemmas.{around, comes_open, find_bundle, find_refused, find_unkept}
use Rattle.bundle_core.proofs.Spots.{find_absent_at, find_at}

-- ---- answers that are handed on

module _ {X T E : Type 0} (make : X → T) where
  pub quiet_ok : (P : T → Type 0) (r : Result X E) (t : Result T E) → MatchResult r (λ v. t ≡ Ok (make v)) (λ fault. t ≡ Err fault) → IfOk r (λ v. P (make v)) → IfOk t P
  quiet_ok P (Ok v) t m h = let Q : Result T E → Type 0 = λ x. IfOk x P in subst Q (sym m) h
  quiet_ok P (Err fault) t m h = let Q : Result T E → Type 0 = λ x. IfOk x P in subst Q (sym m) tt

  pub quiet_err : (P : Type 0) (r : Result X E) (t : Result T E) → MatchResult r (λ v. t ≡ Ok (make v)) (λ fault. t ≡ Err fault) → OnErr r P → OnErr t P
  quiet_err P (Ok v) t m h = let Q : Result T E → Type 0 = λ x. OnErr x P in subst Q (sym m) tt
  quiet_err P (Err fault) t m h = let Q : Result T E → Type 0 = λ x. OnErr x P in subst Q (sym m) h

-- ---- told records

one_more : (users : List User) (st : State) (e : Entry) (told new : Option (List (List ℕ))) (actions : List DocAction) (line : List ℕ) → IsNextRecord told actions line → AddsNext told new line
    → (verdicts users st e).is_bundle ≡ true → bundle_actions st e ≡ actions → new ≡ with_record users st e told
one_more users st e None new actions line next adds is same = adds.added
one_more users st e (Some rs) new actions line next adds is same =
    let one : record_at users st (length rs) e ≡ line ∷ [] =
    ap (λ b. if b then record_text (length rs) (bundle_actions st e) ∷ [] else []) is
    ∙ ap (λ as'. record_text (length rs) as' ∷ []) same
    ∙ ap (λ l. l ∷ []) (sym next.text) in
    adds.added ∙ ap (λ r. Some (rs ++ r)) (sym one)

-- an entry that comes to no bundle, and is kept
pub quiet_kept : (users : List User) (s : Document) (xs ys : List SessionState) (l : Ledger) (e : Entry) (lines : List (List ℕ)) → e.kept ≡ true → (verdicts users (state_of s xs) e).is_bundle ≡ false
    → Answers users s s xs ys e lines → IsTurn users s s xs ys l l e lines
quiet_kept users s xs ys l e lines kept none a = record {
  answers = a;
  keeps = record {
    told = no_more users (state_of s xs) e l.told none;
    count = no_count l.count (verdicts users (state_of s xs) e) none;
    failed = λ f. absurd (false≢true (sym f ∙ kept));
    would = λ f. absurd (false≢true (sym f ∙ kept));
  };
  reopens = λ o. o;
}

-- an entry is itself, marked as it is
pub marked_turn : (users : List User) (s s' : Document) (xs ys : List SessionState) (old new : Ledger) (e : Entry) (lines : List (List ℕ)) → e.kept ≡ true → IsTurn users s s' xs ys old new e lines
    → IsTurn users s s' xs ys old new (marked e true) lines
marked_turn users s s' xs ys old new e lines kept h = let P : Bool → Type 0 = λ b. IsTurn users s s' xs ys old new (marked e b) lines in subst P kept h

-- ---- entries of sessions that are not open

session_missed : (s : Document) (xs : List SessionState) (name : List ℕ) (p : ℕ) → Misses name xs p → session_of name (state_of s xs) ≡ None
session_missed s xs name p m =
    let P : List SessionState → Type 0 = λ l. find_id session_name name (opens s l) ≡ None in
    subst P (take-append-drop p xs)
    (ap (find_id session_name name) (opens-append s (take p xs) (drop p xs))
    ∙ find_absent_at session_name name (opens s (take p xs)) (opens s (drop p xs)) (opens_below s name (take p xs) m.spot.below) (opens_above s name (drop p xs) m.spot.above))

by_token : (users : List User) (st : State) (token : List ℕ) → (from_closed users st (request.Open token)).is_bundle ≡ false
by_token users st token =
    let shown : User → Verdicts = λ user. record { outcome = shows_view; document = st.document; is_bundle = false; holder = Some (record { user = user; log = empty_log }) } in
    let full : Verdicts = answered st.document None (verdict.Limited limit.Sessions session_bound None) in
    elim (user_of users token) as (λ o. (elim o as (λ _. Verdicts) [
      | None ↦ answered st.document None (refusal UnknownToken)
      | Some user ↦ if nat_le session_bound (length st.open_sessions) then full else shown user
    ]).is_bundle ≡ false) [
      | None ↦ refl
      | Some user ↦ elim (nat_le session_bound (length st.open_sessions)) as (λ b. (if b then full else shown user).is_bundle ≡ false) [
        | true ↦ refl
        | false ↦ refl
      ]
    ]

closed_none : (users : List User) (st : State) (r : Request) → (from_closed users st r).is_bundle ≡ false
closed_none users st request.Bad = refl
closed_none users st request.TooLong = refl
closed_none users st (request.Open token) = by_token users st token
closed_none users st (request.Apply actions) = refl
closed_none users st (request.Undo number) = refl
closed_none users st request.Sync = refl
closed_none users st (request.Rename table column new) = refl
closed_none users st (request.Fetch table) = refl
closed_none users st request.Close = refl
closed_none users st request.Gone = refl

-- what an entry comes to, by whether its session is open
abbrev by_session : List User → State → Entry → Option Open → Verdicts
by_session users st e o = elim o as (λ _. Verdicts) [
  | None ↦ from_closed users st e.request
  | Some x ↦ if x.mailbox.lagging then from_lagging st e.request else from_open st x.holder e.kept e.request
]

pub missed_none : (users : List User) (s : Document) (xs : List SessionState) (e : Entry) (p : ℕ) → Misses e.session xs p → (verdicts users (state_of s xs) e).is_bundle ≡ false
missed_none users s xs e p m =
    ap (λ o. (by_session users (state_of s xs) e o).is_bundle) (session_missed s xs e.session p m) ∙ closed_none users (state_of s xs) e.request

-- ---- entries of open sessions

module _ (users : List User) (s : Document) (xs : List SessionState) (p : ℕ) (e : Entry) (f : Finds e.session xs p) (d : SessionState) where
  abbrev x : SessionState
  x = get_or xs p d

  session_found : session_of e.session (state_of s xs) ≡ Some (open_of s x)
  session_found =
      let P : List SessionState → Type 0 = λ l. find_id session_name e.session (opens s l) ≡ Some (open_of s x) in
      subst P (around xs p d f.within)
      (ap (find_id session_name e.session) (opens-append s (take p xs) (x ∷ drop (suc p) xs))
      ∙ find_at session_name e.session (opens s (take p xs)) (opens s (drop (suc p) xs)) (open_of s x) (opens_below s e.session (take p xs) f.spot.below) (f.named d))

  found_as : (w : Verdicts) → ((l : List SessionState) → (if x.lagging then from_lagging (state_of s l) e.request else from_open (state_of s l) x.holder e.kept e.request) ≡ w)
      → verdicts users (state_of s xs) e ≡ w
  found_as w comes = ap (by_session users (state_of s xs) e) session_found ∙ comes xs

  pub found_none : (w : Verdicts) → ((l : List SessionState) → (if x.lagging then from_lagging (state_of s l) e.request else from_open (state_of s l) x.holder e.kept e.request) ≡ w)
      → w.is_bundle ≡ false → (verdicts users (state_of s xs) e).is_bundle ≡ false
  found_none w comes none = ap (λ (v : Verdicts). v.is_bundle) (found_as w comes) ∙ none

  abbrev actions_by : Option Open → List DocAction
  actions_by o = elim o as (λ _. List DocAction) [
    | None ↦ []
    | Some y ↦ actions_asked y.holder s e.request
  ]

  found_actions : (j : Judgement) → actions_asked x.holder s e.request ≡ actions_of j → bundle_actions (state_of s xs) e ≡ actions_of j
  found_actions j asked = ap actions_by session_found ∙ asked

  -- a bundle, or an undo, that is refused
  pub refused_turn : (undone : Option ℕ) (j : Judgement) (v : BareVerdict) (new : List SessionState) (lines : List (List ℕ)) (l : Ledger) → IsWhole s → AsksFor x.holder s e.request undone j → e.kept ≡ true → x.lagging ≡ false
      → j ≡ refused v → Stays xs new p (reply_of v) lines → IsTurn users s s xs new l l e lines
  refused_turn undone j v new lines l w asks kept quick judged b =
      quiet_kept users s xs new l e lines kept
      (found_none (answered s (Some x.holder) v) (comes_open users s xs p e f d (answered s (Some x.holder) v) quick
      (λ z. ap (λ k. from_open (state_of s z) x.holder k e.request) kept ∙ asks (map (open_of s) z) true ∙ ap (bundle_of x.holder undone s true) judged)) refl)
      (find_refused users s xs p e f d undone j v new lines w asks kept quick judged b)

  module _ (t : Document) (ys : List SessionState) (was now : Ledger) (q : BundlePlan) (lines : List (List ℕ)) (undone : Option ℕ) (j : Judgement) (w : IsWhole s) (asks : AsksFor x.holder s e.request undone j)
      (quick : x.lagging ≡ false) (plan : IsBundlePlan j undone s q) where
    abbrev actions : List DocAction
    actions = map action_of q.steps

    abbrev after : Document
    after = after_steps s q.steps

    comes_kept : (k : Bool) → e.kept ≡ k → (l : List SessionState) → (if x.lagging then from_lagging (state_of s l) e.request else from_open (state_of s l) x.holder e.kept e.request)
        ≡ bundle_of x.holder undone s k (accepted after q.steps q.created.items)
    comes_kept k kept = comes_open users s xs p e f d (bundle_of x.holder undone s k (accepted after q.steps q.created.items)) quick
        (λ l. ap (λ b. from_open (state_of s l) x.holder b e.request) kept ∙ asks (map (open_of s) l) k ∙ ap (bundle_of x.holder undone s k) plan.judged)

    pub is_bundle : e.kept ≡ true → (verdicts users (state_of s xs) e).is_bundle ≡ true
    is_bundle kept = ap (λ (v : Verdicts). v.is_bundle) (found_as _ (comes_kept true kept))

    -- an accepted bundle that is kept
    pub done_turn : e.kept ≡ true → actions_asked x.holder s e.request ≡ actions_of j → IsDone s t xs ys was now p q lines → IsTurn users s t xs ys was now e lines
    done_turn kept asked done =
        let told = told_changes s actions in
        let B : Option ℕ → Type 0 = λ u. Bundles xs ys p told (record { inverse = inverse_steps s q.steps; undone = u }) (bundle_reply xs p u after q.created.items) lines in
        let whole : IsWhole after = IsWhole-apply_all s actions w plan.may.valid in
        let same : bundle_actions (state_of s xs) e ≡ actions = found_actions j asked ∙ ap actions_of plan.judged in
        let P : Document → Type 0 = λ z. IsTurn users s z xs ys was now e lines in
        subst P (sym done.document) (record {
          answers = find_bundle users s after xs p e f d w whole undone j q.steps q.created.items told ys lines asks kept quick plan.judged (λ user. refl) (subst B plan.undoes done.sessions);
          keeps = record {
            told = one_more users (state_of s xs) e was.told now.told actions done.line done.next done.adds (is_bundle kept) same;
            count = done.count ∙ one_count was.count (verdicts users (state_of s xs) e) (is_bundle kept);
            failed = λ h. absurd (false≢true (sym h ∙ kept));
            would = λ h. absurd (false≢true (sym h ∙ kept));
          };
          reopens = λ o. opens_more was.told now.told s actions done.line o done.next done.adds plan.may.valid;
        })

    -- an accepted bundle that the keeper failed to keep
    pub unkept_turn : e.kept ≡ false → (verdicts users (state_of s xs) (marked e true)).is_bundle ≡ true → IsUnkept s t xs ys was now p lines → IsTurn users s t xs ys was now e lines
    unkept_turn kept would u =
        let P : Document → Type 0 = λ z. IsTurn users s z xs ys was now e lines in
        let none : (verdicts users (state_of s xs) e).is_bundle ≡ false = ap (λ (v : Verdicts). v.is_bundle) (found_as _ (comes_kept false kept)) in
        let R : Option (List (List ℕ)) → Type 0 = λ r. OpensTo r s in
        subst P (sym u.document) (record {
          answers = find_unkept users s after xs p e f d undone j q.steps q.created.items ys lines w asks kept quick plan.judged u.sessions;
          keeps = record {
            told = u.told ∙ no_more users (state_of s xs) e was.told none;
            count = u.count ∙ no_count was.count (verdicts users (state_of s xs) e) none;
            failed = λ _. u.failed;
            would = λ _. would;
          };
          reopens = λ o. subst R (sym u.told) o;
        })
