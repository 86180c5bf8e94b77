-- A bundle is refused for its first action by what the session's user sees.
use Rattle.std.proofs.Common.{◌≡◌, ℕ, ◌+◌, ◌≤◌, Bool, true, false, cond, length, nat_lt, List, [], ◌∷◌, Option, Some, None, refl, sym, ap, ◌∙◌, arith, if◌then◌else◌}
use Rattle.doc_model.specs.declared.action.Step.{Step}
use Rattle.doc_model.specs.declared.entry.Entry.{Entry}
use Rattle.doc_model.specs.declared.limit.LimitKind.{LimitKind}
use Rattle.doc_model.specs.declared.limit.LimitKind.TheVariants.{Actions}
use Rattle.doc_model.specs.declared.refusal.Refusal.{Refusal}
use Rattle.doc_model.specs.declared.user.User.{User}
use Rattle.doc_model.specs.declared.user_action.UserAction.{UserAction}
use Rattle.doc_model.specs.declared.view.ViewTable.{ViewTable}
use Rattle.doc_model.specs.Apply.{apply}
use Rattle.doc_model.specs.Counts.{bound_of, over}
use Rattle.doc_model.specs.Document.{Document}
use Rattle.acl_rules.specs.declared.decision.Ctx.{Ctx}
use Rattle.user_objections.specs.Objections.{objection_to}
use Rattle.user_actions.specs.Steps.{steps_of}
use Rattle.action_limits.specs.Tallies.{after}
use Rattle.rule_contexts.specs.Context.{carry, carry_all, context, view, view_in}
use Rattle.bundle_judge.specs.declared.bare_verdict.BareVerdict.{BareVerdict}
use Rattle.bundle_judge.specs.declared.bare_verdict.BareVerdict.TheVariants.{Limited, Refused}
use Rattle.bundle_judge.specs.declared.created.Created.{Created}
use Rattle.bundle_judge.specs.Denials.{denial_of, denied_by, denying_row, or_else}
use Rattle.bundle_judge.specs.Judgement.{Judgement, accepted, refused, created_at, judge, judge_from, limited, opposed, refusal_at, with_before}
use Rattle.bundle_core.specs.Mailbox.{says}
use Rattle.bundle_core.specs.RefusalLaw.{AsksSeeing, first_objection, IsRefusedFirst}
use Rattle.bundle_core.specs.State.{Holder, Open, State, Verdicts, bundle_of, from_closed, from_lagging, from_open, verdicts}

-- ---- one action

-- a rule's denial is no refusal
denied : (x : Ctx) (s : Document) (i : ℕ) (steps : List Step) (w : Refusal) (at : Option ℕ) → denial_of x s i steps ≡ Some (Refused w at) → ⊥
denied x s i [] w at h = cc
denied x s i (e ∷ steps) w at h =
    elim (denying_row x s e) as (λ d. or_else (denied_by x i d) (denial_of (carry e.action x) (apply s e.action) i steps) ≡ Some (Refused w at) → ⊥) [
      | None ↦ λ k. denied (carry e.action x) (apply s e.action) i steps w at k
      | Some row ↦ λ k. cc
    ] h

-- nor is a limit
limited_only : (i : ℕ) (kind : Option LimitKind) (o : Option BareVerdict) (w : Refusal) (at : Option ℕ) → (o ≡ Some (Refused w at) → ⊥) → or_else (limited i kind) o ≡ Some (Refused w at) → ⊥
limited_only i None o w at h k = h k
limited_only i (Some kind) o w at h k = cc

-- so a refusal is an objection, and names its action
objected : (i : ℕ) (objection : Option Refusal) (kind : Option LimitKind) (o : Option BareVerdict) (w : Refusal) (at : Option ℕ) → (o ≡ Some (Refused w at) → ⊥) → or_else (opposed i objection kind) o ≡ Some (Refused w at)
    → (objection ≡ Some w) × (at ≡ Some i)
objected i None kind o w at h k = absurd (limited_only i kind o w at h k)
objected i (Some this) kind o w at h k = (cc, cc)

refused_for : (x : Ctx) (s : Document) (i : ℕ) (a : UserAction) (w : Refusal) (at : Option ℕ) → refusal_at x s i a ≡ Some (Refused w at) → (objection_to (view_in x s) a ≡ Some w) × (at ≡ Some i)
refused_for x s i a w at h = objected i (objection_to (view_in x s) a) (over (after s a)) (denial_of x s i (steps_of s a)) w at (denied x s i (steps_of s a) w at) h

-- ---- the actions behind it

pub same_refusal : (v w : BareVerdict) → refused v ≡ refused w → v ≡ w
same_refusal v w h = cc

pub before_refused : (xs : List Step) (ms : List Created) (j : Judgement) (v : BareVerdict) → with_before xs ms j ≡ refused v → j ≡ refused v
before_refused xs ms (accepted s steps later) v h = cc
before_refused xs ms (refused w) v h = h

-- the judgement of actions, by what refuses the first
abbrev pub judged : Ctx → Document → ℕ → UserAction → List UserAction → Option BareVerdict → Judgement
judged x s i a as' o =
    elim o [
      | Some v ↦ refused v
      | None ↦ with_before (steps_of s a) (created_at s a ∷ []) (judge_from (carry_all (steps_of s a) x) (after s a) (i + 1) as')
    ]

-- a refusal names an action at or behind the first
names_later : (x : Ctx) (s : Document) (i : ℕ) (as' : List UserAction) (w : Refusal) (n : ℕ) → judge_from x s i as' ≡ refused (Refused w (Some n)) → i ≤ n
names_later x s i [] w n h = absurd (cc)
names_later x s i (a ∷ as') w n h =
    elim (refusal_at x s i a) as (λ o. refusal_at x s i a ≡ o → judged x s i a as' o ≡ refused (Refused w (Some n)) → i ≤ n) [
      | Some v ↦ λ is k.
          let same = same_refusal v (Refused w (Some n)) k in
          let at : ◌≡◌ {A = Option ℕ} (Some n) (Some i) = (refused_for x s i a w (Some n) (is ∙ ap Some same)).1 in
          let this : n ≡ i = cc in
          omega (arith, this)
      | None ↦ λ _ k.
          let later = names_later (carry_all (steps_of s a) x) (after s a) (i + 1) as' w n
          (before_refused (steps_of s a) (created_at s a ∷ []) (judge_from (carry_all (steps_of s a) x) (after s a) (i + 1) as') (Refused w (Some n)) k) in
          omega (arith, later)
    ] refl h

-- so the refusal of the first is what stands against it
first_refused : (x : Ctx) (s : Document) (a : UserAction) (as' : List UserAction) (w : Refusal) → judge_from x s 0 (a ∷ as') ≡ refused (Refused w (Some 0)) → objection_to (view_in x s) a ≡ Some w
first_refused x s a as' w h =
    elim (refusal_at x s 0 a) as (λ o. refusal_at x s 0 a ≡ o → judged x s 0 a as' o ≡ refused (Refused w (Some 0)) → objection_to (view_in x s) a ≡ Some w) [
      | Some v ↦ λ is k.
          let same = same_refusal v (Refused w (Some 0)) k in
          (refused_for x s 0 a w (Some 0) (is ∙ ap Some same)).0
      | None ↦ λ _ k.
          let later = names_later (carry_all (steps_of s a) x) (after s a) 1 as' w 0
          (before_refused (steps_of s a) (created_at s a ∷ []) (judge_from (carry_all (steps_of s a) x) (after s a) 1 as') (Refused w (Some 0)) k) in
          absurd (omega (arith, later))
    ] refl h

-- what stands against the first is its refusal
first_objected : (x : Ctx) (s : Document) (a : UserAction) (as' : List UserAction) (w : Refusal) → objection_to (view_in x s) a ≡ Some w → judge_from x s 0 (a ∷ as') ≡ refused (Refused w (Some 0))
first_objected x s a as' w is = ap (λ o. judged x s 0 a as' (or_else (opposed 0 o (over (after s a))) (denial_of x s 0 (steps_of s a)))) is

-- ---- a bundle

abbrev pub too_many : Judgement
too_many = refused (Limited Actions (bound_of Actions) (Some (bound_of Actions)))

abbrev pub has_many : List UserAction → Bool
has_many as' = nat_lt (bound_of Actions) (length as')

judge_refused : (user : User) (s : Document) (as' : List UserAction) (w : Refusal) → judge user s as' ≡ refused (Refused w (Some 0)) → first_objection (view user s) as' ≡ Some w
judge_refused user s [] w h =
    elim (has_many []) as (λ b. cond b too_many (accepted s [] []) ≡ refused (Refused w (Some 0)) → first_objection (view user s) [] ≡ Some w) [
      | true ↦ λ k. absurd (cc)
      | false ↦ λ k. absurd (cc)
    ] h
judge_refused user s (a ∷ as') w h =
    elim (has_many (a ∷ as')) as (λ b. cond b too_many (judge_from (context user s) s 0 (a ∷ as')) ≡ refused (Refused w (Some 0)) → (if b then None else objection_to (view user s) a) ≡ Some w) [
      | true ↦ λ k. absurd (cc)
      | false ↦ λ k. first_refused (context user s) s a as' w k
    ] h

judge_objected : (user : User) (s : Document) (as' : List UserAction) (w : Refusal) → first_objection (view user s) as' ≡ Some w → judge user s as' ≡ refused (Refused w (Some 0))
judge_objected user s [] w h = absurd (cc)
judge_objected user s (a ∷ as') w h =
    elim (has_many (a ∷ as')) as (λ b. (if b then None else objection_to (view user s) a) ≡ Some w → cond b too_many (judge_from (context user s) s 0 (a ∷ as')) ≡ refused (Refused w (Some 0))) [
      | true ↦ λ k. absurd (cc)
      | false ↦ λ k. first_objected (context user s) s a as' w k
    ] h

-- ---- an entry

says_refused : (h : Holder) (s : Document) (kept : Bool) (j : Judgement) (w : Refusal) → (bundle_of h None s kept j).outcome ≡ says (Refused w (Some 0)) → j ≡ refused (Refused w (Some 0))
says_refused h s kept (refused v) w k = let same : v ≡ Refused w (Some 0) = cc in ap refused same
says_refused h s false (accepted t steps ms) w k = absurd (cc)
says_refused h s true (accepted t steps ms) w k = absurd (cc)

module _ (users : List User) (st : State) (e : Entry) (actions : List UserAction) (shown : List ViewTable) (why : Refusal) (a : AsksSeeing st e actions shown) where
  abbrev holder : Holder
  holder = a.sees.holds.holder

  comes_to : verdicts users st e ≡ bundle_of holder None st.document e.kept (judge holder.user st.document actions)
  comes_to =
      ap (λ (o : Option Open). elim o as (λ _. Verdicts) [
        | None ↦ from_closed users st e.request
        | Some x ↦ if x.mailbox.lagging then from_lagging st e.request else from_open st x.holder e.kept e.request
      ]) a.sees.found
      ∙ ap (λ b. if b then from_lagging st e.request else from_open st holder e.kept e.request) a.sees.keeps_up
      ∙ ap (from_open st holder e.kept) a.asks

  refused_by : IsRefusedFirst users st e why → first_objection shown actions ≡ Some why
  refused_by h =
      let j = says_refused holder st.document e.kept (judge holder.user st.document actions) why (ap (λ (v : Verdicts). v.outcome) (sym comes_to) ∙ h) in
      ap (λ v. first_objection v actions) (sym a.sees.sees) ∙ judge_refused holder.user st.document actions why j

  objection_refuses : first_objection shown actions ≡ Some why → IsRefusedFirst users st e why
  objection_refuses h =
      ap (λ (v : Verdicts). v.outcome) comes_to
      ∙ ap (λ j. (bundle_of holder None st.document e.kept j).outcome) (judge_objected holder.user st.document actions why (ap (λ v. first_objection v actions) a.sees.sees ∙ h))

pub objection_law : (users : List User) (st : State) (e : Entry) (actions : List UserAction) (shown : List ViewTable) (why : Refusal) → AsksSeeing st e actions shown
    → (IsRefusedFirst users st e why → first_objection shown actions ≡ Some why) × (first_objection shown actions ≡ Some why → IsRefusedFirst users st e why)
objection_law users st e actions shown why a = (refused_by users st e actions shown why a, objection_refuses users st e actions shown why a)
