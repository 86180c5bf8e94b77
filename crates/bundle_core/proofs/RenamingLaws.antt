-- A renaming is refused for what is unresolved in its plan, and else answered as the plan's bundle.
use Rattle.std.proofs.Common.{◌≡◌, ℕ, zero, suc, ◌+◌, Bool, true, false, cond, List, [], ◌∷◌, Option, Some, None, refl, sym, ap, subst, ◌∙◌, if◌then◌else◌}
use Rattle.doc_model.specs.declared.action.Step.{Step}
use Rattle.doc_model.specs.declared.entry.Entry.{Entry}
use Rattle.doc_model.specs.declared.limit.LimitKind.{LimitKind}
use Rattle.doc_model.specs.declared.refusal.Refusal.{Refusal}
use Rattle.doc_model.specs.declared.request.Request.{Request}
use Rattle.doc_model.specs.declared.request.Request.TheVariants as request
use Rattle.doc_model.specs.declared.user.User.{User}
use Rattle.doc_model.specs.declared.user_action.UserAction.{UserAction}
use Rattle.doc_model.specs.declared.view.ViewTable.{ViewTable}
use Rattle.doc_model.specs.Apply.{apply}
use Rattle.doc_model.specs.Counts.{over}
use Rattle.doc_model.specs.Document.{Document}
use Rattle.acl_rules.specs.declared.decision.Ctx.{Ctx}
use Rattle.rename_flow.specs.declared.rename_plan.RenamePlan.{RenamePlan}
use Rattle.rename_flow.specs.Plan.{plan_of}
use Rattle.rename_marks.specs.declared.column_rename.ColumnRename.{ColumnRename}
use Rattle.user_objections.specs.Objections.{objection_to}
use Rattle.user_actions.specs.Steps.{steps_of}
use Rattle.action_limits.specs.Tallies.{after}
use Rattle.rule_contexts.specs.Context.{carry, carry_all, context, view, view_in}
use Rattle.bundle_judge.specs.declared.bare_verdict.BareVerdict.{BareVerdict}
use Rattle.bundle_judge.specs.declared.bare_verdict.BareVerdict.TheVariants.{Unresolved}
use Rattle.bundle_judge.specs.Denials.{denial_of, denied_by, denying_row, or_else}
use Rattle.bundle_judge.specs.Judgement.{Judgement, accepted, refused, created_at, judge, judge_from, limited, opposed, refusal_at, with_before}
use Rattle.bundle_core.specs.Mailbox.{says}
use Rattle.bundle_core.specs.Renaming.{judge_plan}
use Rattle.bundle_core.specs.RenamingLaw.{IsUnresolved, RenamesSeeing, asking}
use Rattle.bundle_core.specs.State.{Holder, Open, State, Verdicts, bundle_of, from_closed, from_lagging, from_open, verdicts}
use Rattle.bundle_core.proofs.JudgedLemmas.{plan_judged}
use Rattle.bundle_core.proofs.RefusalLemmas.{before_refused, has_many, judged, same_refusal, too_many}

-- ---- no action is refused as unresolved

denied : (x : Ctx) (s : Document) (i : ℕ) (steps : List Step) (n : ℕ) → denial_of x s i steps ≡ Some (Unresolved n) → ⊥
denied x s i [] n h = cc
denied x s i (e ∷ steps) n h =
    elim (denying_row x s e) as (λ d. or_else (denied_by x i d) (denial_of (carry e.action x) (apply s e.action) i steps) ≡ Some (Unresolved n) → ⊥) [
      | None ↦ λ k. denied (carry e.action x) (apply s e.action) i steps n k
      | Some row ↦ λ k. cc
    ] h

limited_only : (i : ℕ) (kind : Option LimitKind) (o : Option BareVerdict) (n : ℕ) → (o ≡ Some (Unresolved n) → ⊥) → or_else (limited i kind) o ≡ Some (Unresolved n) → ⊥
limited_only i None o n h k = h k
limited_only i (Some kind) o n h k = cc

objected : (i : ℕ) (objection : Option Refusal) (kind : Option LimitKind) (o : Option BareVerdict) (n : ℕ) → (o ≡ Some (Unresolved n) → ⊥) → or_else (opposed i objection kind) o ≡ Some (Unresolved n) → ⊥
objected i None kind o n h k = limited_only i kind o n h k
objected i (Some this) kind o n h k = cc

refused_for : (x : Ctx) (s : Document) (i : ℕ) (a : UserAction) (n : ℕ) → refusal_at x s i a ≡ Some (Unresolved n) → ⊥
refused_for x s i a n h = objected i (objection_to (view_in x s) a) (over (after s a)) (denial_of x s i (steps_of s a)) n (denied x s i (steps_of s a) n) h

from_none : (x : Ctx) (s : Document) (i : ℕ) (as' : List UserAction) (n : ℕ) → judge_from x s i as' ≡ refused (Unresolved n) → ⊥
from_none x s i [] n h = cc
from_none x s i (a ∷ as') n h =
    elim (refusal_at x s i a) as (λ o. refusal_at x s i a ≡ o → judged x s i a as' o ≡ refused (Unresolved n) → ⊥) [
      | Some v ↦ λ is k. refused_for x s i a n (is ∙ ap Some (same_refusal v (Unresolved n) k))
      | None ↦ λ _ k. from_none (carry_all (steps_of s a) x) (after s a) (i + 1) as' n
          (before_refused (steps_of s a) (created_at s a ∷ []) (judge_from (carry_all (steps_of s a) x) (after s a) (i + 1) as') (Unresolved n) k)
    ] refl h

never_so : (user : User) (s : Document) (as' : List UserAction) (n : ℕ) → judge user s as' ≡ refused (Unresolved n) → ⊥
never_so user s as' n h =
    elim (has_many as') as (λ b. cond b too_many (judge_from (context user s) s 0 as') ≡ refused (Unresolved n) → ⊥) [
      | true ↦ λ k. cc
      | false ↦ λ k. from_none (context user s) s 0 as' n k
    ] h

-- ---- so a plan is refused so for its own count alone

said_so : (h : Holder) (s : Document) (kept : Bool) (j : Judgement) (n : ℕ) → (bundle_of h None s kept j).outcome ≡ says (Unresolved n) → j ≡ refused (Unresolved n)
said_so h s kept (refused v) n k = let same : v ≡ Unresolved n = cc in ap refused same
said_so h s false (accepted t steps ms) n k = absurd (cc)
said_so h s true (accepted t steps ms) n k = absurd (cc)

counted : (user : User) (s : Document) (actions : List UserAction) (count n : ℕ) → judge_plan user s (record { actions = actions; unresolved = count }) ≡ refused (Unresolved (suc n)) → count ≡ suc n
counted user s actions zero n h = absurd (never_so user s actions (suc n) h)
counted user s actions (suc m) n h = let same = same_refusal (Unresolved (suc m)) (Unresolved (suc n)) h in cc

-- ---- an entry

module _ (users : List User) (st : State) (e : Entry) (r : ColumnRename) (shown : List ViewTable) (a : RenamesSeeing st e r shown) where
  abbrev holder : Holder
  holder = a.sees.holds.holder

  abbrev plan : RenamePlan
  plan = plan_of shown r

  answered_as : (request : Request) → verdicts users st (record { session = e.session; request = request; size = e.size; kept = e.kept }) ≡ from_open st holder e.kept request
  answered_as request =
      ap (λ (o : Option Open). elim o as (λ _. Verdicts) [
        | None ↦ from_closed users st request
        | Some x ↦ if x.mailbox.lagging then from_lagging st request else from_open st x.holder e.kept request
      ]) a.sees.found
      ∙ ap (λ b. if b then from_lagging st request else from_open st holder e.kept request) a.sees.keeps_up

  comes_to : verdicts users st e ≡ bundle_of holder None st.document e.kept (judge_plan holder.user st.document plan)
  comes_to =
      answered_as e.request
      ∙ ap (from_open st holder e.kept) a.asks
      ∙ ap (λ v. bundle_of holder None st.document e.kept (judge_plan holder.user st.document (plan_of v r))) a.sees.sees

  unresolved_by : (n : ℕ) → IsUnresolved users st e (suc n) → plan.unresolved ≡ suc n
  unresolved_by n h =
      counted holder.user st.document plan.actions plan.unresolved n
      (said_so holder st.document e.kept (judge_plan holder.user st.document plan) (suc n) (ap (λ (v : Verdicts). v.outcome) (sym comes_to) ∙ h))

  count_refuses : (n : ℕ) → plan.unresolved ≡ suc n → IsUnresolved users st e (suc n)
  count_refuses n is =
      ap (λ (v : Verdicts). v.outcome) comes_to
      ∙ ap (λ k. (bundle_of holder None st.document e.kept (judge_plan holder.user st.document (record { actions = plan.actions; unresolved = k }))).outcome) is

  resolved : plan.unresolved ≡ 0 → verdicts users st e ≡ verdicts users st (asking plan.actions e)
  resolved none =
      comes_to
      ∙ ap (bundle_of holder None st.document e.kept) (plan_judged holder.user st.document plan.actions plan.unresolved none)
      ∙ sym (answered_as (request.Apply plan.actions))

pub unresolved_law : (users : List User) (st : State) (e : Entry) (r : ColumnRename) (shown : List ViewTable) (n : ℕ) → RenamesSeeing st e r shown
    → (IsUnresolved users st e (suc n) → (plan_of shown r).unresolved ≡ suc n) × ((plan_of shown r).unresolved ≡ suc n → IsUnresolved users st e (suc n))
unresolved_law users st e r shown n a = (unresolved_by users st e r shown a n, count_refuses users st e r shown a n)

pub resolved_law : (users : List User) (st : State) (e : Entry) (r : ColumnRename) (shown : List ViewTable) → RenamesSeeing st e r shown → (plan_of shown r).unresolved ≡ 0
    → verdicts users st e ≡ verdicts users st (asking (plan_of shown r).actions e)
resolved_law users st e r shown a none = resolved users st e r shown a none
