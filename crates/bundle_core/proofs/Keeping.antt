-- What stays true of every state that a history leads to.
use Rattle.std.proofs.Common.{◌≡◌, ℕ, ◌+◌, ◌≤◌, Bool, true, false, not, cond, ◌||◌, List, [], ◌∷◌, ◌++◌, map, length, nat_le, Option, Some, None, refl, ap, subst, ◌∙◌, arith, option_map, if◌then◌else◌}
use Rattle.std.proofs.lemmas.List.Filters.{length-filter_both}
use Rattle.std.specs.List.{AllByRecursion}
use Rattle.std.specs.Str.{bytes_eq}
use Rattle.doc_model.specs.declared.entry.Entry.{Entry}
use Rattle.doc_model.specs.declared.refusal.Refusal.TheVariants.{UnknownToken}
use Rattle.doc_model.specs.declared.request.Request.{Request}
use Rattle.doc_model.specs.declared.request.Request.TheVariants as request
use Rattle.doc_model.specs.declared.user.User.{User}
use Rattle.doc_model.specs.declared.view.ViewAction.{ViewAction}
use Rattle.doc_model.specs.declared.view.ViewTable.{ViewTable}
use Rattle.doc_model.specs.ByIds.{precedes, find_id, IsByIds, put_by_id, without_id}
use Rattle.doc_model.specs.Changes.{changes}
use Rattle.doc_model.specs.Document.{Document}
use Rattle.doc_model.proofs.ByIdsLaws.{IsByIds-put_by_id, IsByIds-filter, found_all}
use Rattle.doc_model.proofs.Choices.{each_weaker, each_filter, each_mapped, length_map}
use Rattle.doc_model.specs.declared.limit.LimitKind.TheVariants as limit
use Rattle.grist_json.specs.Lines.{stream_text}
use Rattle.bundle_judge.specs.declared.bare_verdict.BareVerdict.TheVariants as verdict
use Rattle.undo_bundles.specs.BundleLog.{count, empty_log, marked, undo_of}
use Rattle.undo_bundles.specs.InverseSteps.{inverse_steps}
use Rattle.undo_bundles.proofs.LogLaws.{marked_count, noted_count}
use Rattle.bundle_judge.specs.Judgement.{Judgement, accepted, refused, judge}
use Rattle.bundle_judge.specs.Undo.{judge_own_undo}
use Rattle.bundle_core.specs.Mailbox.{Mailbox, Outcome, quiet, shows_view, says, own, due, posted, posted_if_any, emptied, is_full}
use Rattle.bundle_core.specs.Renaming.{judge_renaming}
use Rattle.bundle_core.specs.State.{State, Open, Holder, Verdicts, session_name, session_of, mailbox_of, posted_to, posted_all, with_session, turn_of, step, verdicts, from_closed, from_open, from_lagging, opened, bundle_of, user_of, answered, refusal, session_bound}
use Rattle.rule_contexts.specs.Context.{view}

-- nothing of a session is counted past n
pub record IsBelow (n : ℕ) (o : Open) : Type 0 where
  pub made : o.mailbox.made ≤ n
  pub bundles : count o.holder.log ≤ n

pub record IsGood (n : ℕ) (os : List Open) : Type 0 where
  pub by_name : IsByIds session_name os
  pub below : AllByRecursion (IsBelow n) os

below_more : (n : ℕ) (os : List Open) → AllByRecursion (IsBelow n) os → AllByRecursion (IsBelow (n + 1)) os
below_more n os h = each_weaker (IsBelow n) (IsBelow (n + 1)) (λ o b. record { made = omega (arith, b.made); bundles = omega (arith, b.bundles) }) os h

-- one line more at most
posted-made : (v : List ViewTable) (as' : List ViewAction) (m : Mailbox) → (posted v as' m).made ≤ m.made + 1
posted-made v as' m = elim (m.lagging || is_full m.waiting) as (λ b. (if b then (let n : Mailbox = record { view = v; made = m.made; waiting = m.waiting; lagging = true } in n)
    else record { view = v; made = m.made + 1; waiting = m.waiting ++ stream_text (m.made + 1) as' ∷ []; lagging = false }).made ≤ m.made + 1) [ true ↦ omega arith | false ↦ omega arith ]

due-made : (v : List ViewTable) (m : Mailbox) → (due v m).made ≤ m.made + 1
due-made v m = elim (changes m.view v) as (λ as'. (posted_if_any v as' m).made ≤ m.made + 1) [ [] ↦ omega arith | ◌∷◌ a as' ↦ posted-made v (a ∷ as') m ]

map_by_name : (f : Open → Open) (os : List Open) → ((o : Open) → (f o).session ≡ o.session) → IsByIds session_name os → IsByIds session_name (map f os)
map_by_name f [] same h = tt
map_by_name f (o ∷ os) same h = (
  each_mapped (λ (x : Open). precedes (f o).session x.session ≡ true) f os
      (each_weaker (λ (x : Open). precedes o.session x.session ≡ true) (λ (x : Open). precedes (f o).session (f x).session ≡ true) (λ x p. ap (λ n. precedes n (f x).session) (same o) ∙ ap (precedes o.session) (same x) ∙ p) os h.0),
  map_by_name f os same h.1,
)

posted_good : (n : ℕ) (v : Verdicts) (os : List Open) → IsGood n os → IsGood (n + 1) (posted_all v os)
posted_good n v os g =
    elim v.is_bundle as (λ b. IsGood (n + 1) (if b then map (posted_to v.document) os else os)) [
      | true ↦ record {
        by_name = map_by_name (posted_to v.document) os (λ o. refl) g.by_name;
        below = each_mapped (IsBelow (n + 1)) (posted_to v.document) os (each_weaker (IsBelow n) (λ o. IsBelow (n + 1) (posted_to v.document o))
            (λ o b. record { made = omega (arith, due-made (view o.holder.user v.document) o.mailbox, b.made); bundles = omega (arith, b.bundles) }) os g.below);
      }
      | false ↦ record { by_name = g.by_name; below = below_more n os g.below }
    ]

-- the holder of a session, where there is one, has at most n bundles
abbrev pub HoldsFew : ℕ → Option Holder → Type 0
HoldsFew n None = Unit {0}
HoldsFew n (Some h) = count h.log ≤ n

bundle_few : (n : ℕ) (h : Holder) (undone : Option ℕ) (s : Document) (kept : Bool) (j : Judgement) → count h.log ≤ n → HoldsFew (n + 1) (bundle_of h undone s kept j).holder
bundle_few n h undone s kept (refused v) le = omega (arith, le)
bundle_few n h None s true (accepted after steps values) le = omega (arith, le, noted_count (inverse_steps s steps) h.log)
bundle_few n h (Some number) s true (accepted after steps values) le = omega (arith, le, noted_count (inverse_steps s steps) (marked number h.log), marked_count number h.log)
bundle_few n h undone s false (accepted after steps values) le = omega (arith, le)

open_few : (n : ℕ) (st : State) (h : Holder) (kept : Bool) (r : Request) → count h.log ≤ n → HoldsFew (n + 1) (from_open st h kept r).holder
open_few n st h kept request.Bad le = omega (arith, le)
open_few n st h kept request.TooLong le = omega (arith, le)
open_few n st h kept (request.Open token) le = omega (arith, le)
open_few n st h kept (request.Apply actions) le = bundle_few n h None st.document kept (judge h.user st.document actions) le
open_few n st h kept (request.Undo number) le = bundle_few n h (Some number) st.document kept (judge_own_undo h.user (undo_of h.log number) st.document) le
open_few n st h kept request.Sync le = omega (arith, le)
open_few n st h kept (request.Rename table column new) le = bundle_few n h None st.document kept (judge_renaming h.user st.document table column new) le
open_few n st h kept (request.Fetch table) le = omega (arith, le)
open_few n st h kept request.Close le = tt
open_few n st h kept request.Gone le = tt

lagging_few : (n : ℕ) (st : State) (r : Request) → HoldsFew (n + 1) (from_lagging st r).holder
lagging_few n st request.Gone = tt
lagging_few n st request.Bad = tt
lagging_few n st request.TooLong = tt
lagging_few n st (request.Open token) = tt
lagging_few n st (request.Apply actions) = tt
lagging_few n st (request.Undo bundle) = tt
lagging_few n st request.Sync = tt
lagging_few n st (request.Rename table column new) = tt
lagging_few n st (request.Fetch table) = tt
lagging_few n st request.Close = tt

opened_few : (n : ℕ) (users : List User) (st : State) (token : List ℕ) → HoldsFew (n + 1) (opened users st token).holder
opened_few n users st token =
    elim (user_of users token) as (λ o. HoldsFew (n + 1) (elim o as (λ _. Verdicts) [
      | None ↦ answered st.document None (refusal UnknownToken)
      | Some user ↦ if nat_le session_bound (length st.open_sessions)
          then answered st.document None (verdict.Limited limit.Sessions session_bound None)
          else record { outcome = shows_view; document = st.document; is_bundle = false; holder = Some (record { user = user; log = empty_log }) }
    ]).holder) [
      | None ↦ tt
      | Some user ↦ elim (nat_le session_bound (length st.open_sessions)) as (λ b. HoldsFew (n + 1) (if b
          then answered st.document None (verdict.Limited limit.Sessions session_bound None)
          else record { outcome = shows_view; document = st.document; is_bundle = false; holder = Some (record { user = user; log = empty_log }) }).holder) [ true ↦ tt | false ↦ omega arith ]
    ]

closed_few : (n : ℕ) (users : List User) (st : State) (r : Request) → HoldsFew (n + 1) (from_closed users st r).holder
closed_few n users st request.Bad = tt
closed_few n users st request.TooLong = tt
closed_few n users st (request.Open token) = opened_few n users st token
closed_few n users st request.Gone = tt
closed_few n users st (request.Apply actions) = tt
closed_few n users st (request.Undo bundle) = tt
closed_few n users st request.Sync = tt
closed_few n users st (request.Rename table column new) = tt
closed_few n users st (request.Fetch table) = tt
closed_few n users st request.Close = tt

-- what holds of each open session holds of the one that is found
abbrev pub FoundBelow : ℕ → Option Open → Type 0
FoundBelow n None = Unit {0}
FoundBelow n (Some o) = IsBelow n o

found_below : (n : ℕ) (name : List ℕ) (os : List Open) → AllByRecursion (IsBelow n) os → FoundBelow n (find_id session_name name os)
found_below n name os h =
    elim (find_id session_name name os) as (λ o. find_id session_name name os ≡ o → FoundBelow n o) [
      | None ↦ λ _. tt
      | Some o ↦ λ f. found_all session_name (IsBelow n) name os o h f
    ] refl

verdicts_few : (n : ℕ) (users : List User) (st : State) (e : Entry) → FoundBelow n (session_of e.session st) → HoldsFew (n + 1) (verdicts users st e).holder
verdicts_few n users st e f =
    elim (session_of e.session st) as (λ o. FoundBelow n o → HoldsFew (n + 1) (elim o as (λ _. Verdicts) [
      | None ↦ from_closed users st e.request
      | Some x ↦ if x.mailbox.lagging then from_lagging st e.request else from_open st x.holder e.kept e.request
    ]).holder) [
      | None ↦ λ _. closed_few n users st e.request
      | Some x ↦ λ b. elim x.mailbox.lagging as (λ l. HoldsFew (n + 1) (if l then from_lagging st e.request else from_open st x.holder e.kept e.request).holder) [
        | true ↦ lagging_few n st e.request
        | false ↦ open_few n st x.holder e.kept e.request b.bundles
      ]
    ] f

-- a mailbox, where there is one, has had at most n lines made
abbrev pub MadeFew : ℕ → Option Mailbox → Type 0
MadeFew n None = Unit {0}
MadeFew n (Some m) = m.made ≤ n

own-made : (n : ℕ) (m : Option Mailbox) (r : Request) (o : Outcome) (v : Option (List ViewTable)) → MadeFew n m → MadeFew (n + 1) (own m r o v).mailbox
own-made n None r o None h = tt
own-made n None r o (Some v) h = omega arith
own-made n (Some m) r quiet None h = tt
own-made n (Some m) r shows_view None h = tt
own-made n (Some m) r (says x) None h = tt
own-made n (Some m) r o (Some v) h = omega (arith, due-made v (emptied m), h)

found_made : (n : ℕ) (o : Option Open) → FoundBelow n o → MadeFew n (option_map (λ (x : Open). x.mailbox) o)
found_made n None h = tt
found_made n (Some o) h = h.made

pub without_good : (n : ℕ) (name : List ℕ) (os : List Open) → IsGood n os → IsGood n (without_id session_name name os)
without_good n name os g = record {
  by_name = IsByIds-filter session_name _ os g.by_name;
  below = each_filter (IsBelow n) _ os g.below;
}

index_each : (P : Open → Type 0) (o : Open) (os : List Open) → P o → AllByRecursion P os → AllByRecursion P (put_by_id session_name o os)
index_each P o [] h k = (h, tt)
index_each P o (x ∷ os) h k =
    elim (precedes o.session x.session) as (λ b. AllByRecursion P (cond b (o ∷ x ∷ os) (cond (bytes_eq o.session x.session) (o ∷ os) (x ∷ put_by_id session_name o os)))) [
      | true ↦ (h, k)
      | false ↦ elim (bytes_eq o.session x.session) as (λ b. AllByRecursion P (cond b (o ∷ os) (x ∷ put_by_id session_name o os))) [
        | true ↦ (h, k.1)
        | false ↦ (k.0, index_each P o os h k.1)
      ]
    ]

session_good : (n : ℕ) (name : List ℕ) (h : Option Holder) (m : Option Mailbox) (os : List Open) → HoldsFew n h → MadeFew n m → IsGood n os → IsGood n (with_session name h m os)
session_good n name (Some h) (Some m) os few made g = record {
  by_name = IsByIds-put_by_id session_name _ os g.by_name;
  below = index_each (IsBelow n) _ os (record { made = made; bundles = few }) g.below;
}
session_good n name (Some h) None os few made g = without_good n name os g
session_good n name None m os few made g = without_good n name os g

pub step_good : (n : ℕ) (users : List User) (st : State) (e : Entry) → IsGood n st.open_sessions → IsGood (n + 1) (step users st e).open_sessions
step_good n users st e g =
    let found = found_below n e.session st.open_sessions g.below in
    session_good (n + 1) e.session (verdicts users st e).holder (turn_of st e (verdicts users st e)).mailbox (posted_all (verdicts users st e) st.open_sessions)
    (verdicts_few n users st e found)
    (own-made n (mailbox_of e.session st) e.request (verdicts users st e).outcome _ (found_made n (session_of e.session st) found))
    (posted_good n (verdicts users st e) st.open_sessions g)

-- ---- how many sessions are open

without_length : (name : List ℕ) (os : List Open) → length (without_id session_name name os) ≤ length os
without_length name os =
    let p : Open → Bool = λ o. not (bytes_eq o.session name) in
    omega (arith, length-filter_both p (λ o. not (p o)) (λ o. refl) os)

put_length : (o : Open) (os : List Open) → length (put_by_id session_name o os) ≤ length os + 1
put_length o [] = omega arith
put_length o (x ∷ os) =
    elim (precedes o.session x.session) as (λ b. length (cond b (o ∷ x ∷ os) (cond (bytes_eq o.session x.session) (o ∷ os) (x ∷ put_by_id session_name o os))) ≤ length (x ∷ os) + 1) [
      | true ↦ omega arith
      | false ↦ elim (bytes_eq o.session x.session) as (λ b. length (cond b (o ∷ os) (x ∷ put_by_id session_name o os)) ≤ length (x ∷ os) + 1) [
        | true ↦ omega arith
        | false ↦ omega (arith, put_length o os)
      ]
    ]

session_length : (name : List ℕ) (h : Option Holder) (m : Option Mailbox) (os : List Open) → length (with_session name h m os) ≤ length os + 1
session_length name (Some h) (Some m) os = put_length _ os
session_length name (Some h) None os = omega (arith, without_length name os)
session_length name None m os = omega (arith, without_length name os)

posted_length : (v : Verdicts) (os : List Open) → length (posted_all v os) ≡ length os
posted_length v os =
    elim v.is_bundle as (λ b. length (if b then map (posted_to v.document) os else os) ≡ length os) [ true ↦ length_map (posted_to v.document) os | false ↦ refl ]

-- an entry opens one session at most
pub step_length : (users : List User) (st : State) (e : Entry) → length (step users st e).open_sessions ≤ length st.open_sessions + 1
step_length users st e =
    let v = verdicts users st e in
    let P : ℕ → Type 0 = λ n. length (step users st e).open_sessions ≤ n + 1 in
    subst P (posted_length v st.open_sessions) (session_length e.session v.holder (turn_of st e v).mailbox (posted_all v st.open_sessions))
