-- What requests of an open session were judged to be.
use Rattle.std.proofs.Common.{◌≡◌, ℕ, zero, suc, ◌<◌, Bool, List, Option, Some, None, Result, Ok, Err, IsOk, refl, sym, ap, subst, ◌∙◌, arith}
use Rattle.doc_model.specs.declared.action.Step.{Step}
use Rattle.doc_model.specs.declared.request.Request.{Request}
use Rattle.doc_model.specs.declared.request.Request.TheVariants as request
use Rattle.doc_model.specs.declared.user.User.{User}
use Rattle.doc_model.specs.declared.user_action.UserAction.{UserAction}
use Rattle.doc_model.specs.Document.{Document}
use Rattle.undo_bundles.specs.declared.log.LogFault.{LogFault}
use Rattle.undo_bundles.specs.BundleLog.{undo_of}
use Rattle.bundle_judge.specs.declared.bare_verdict.BareVerdict.TheVariants.{Unresolved}
use Rattle.bundle_judge.specs.declared.judging.JudgedBundle.{JudgedBundle}
use Rattle.bundle_judge.specs.declared.judging.JudgedBundle.TheVariants as judged
use Rattle.bundle_core.specs.Judged.{Asks, IsJudgedFor, IsOwn, state_with}
use Rattle.bundle_judge.specs.JudgedBundles.{IsJudgedBundle}
use Rattle.bundle_judge.specs.Judgement.{Judgement, accepted, judge, refused}
use Rattle.bundle_core.specs.KeptBundles.{actions_asked, actions_of}
use Rattle.bundle_core.specs.Noting.{MayBeUndone}
use Rattle.bundle_core.specs.Renaming.{judge_plan, planned}
use Rattle.bundle_core.specs.State.{Holder, Open, answered, bundle_of, from_open}
use Rattle.bundle_judge.specs.Undo.{judge_own_undo}
use Rattle.rename_flow.specs.declared.rename_plan.RenamePlan.{RenamePlan}

undoes_none : (b : JudgedBundle) (j : Judgement) (s : Document) (h : Holder) → IsJudgedBundle j None s b → IsOwn b h
undoes_none (judged.Refused v) j s h k = tt
undoes_none (judged.Accepted p) j s h k = let P : Option ℕ → Type 0 = λ u. MayBeUndone u h.log in subst P (sym k.undoes) tt

-- what is accepted was found
found_from : (user : User) (r : Result (List Step) LogFault) (s s' : Document) (steps : List Step) (ms : List _) → judge_own_undo user r s ≡ accepted s' steps ms → IsOk r
found_from user (Ok xs) s s' steps ms e = refl
found_from user (Err why) s s' steps ms e = absurd (cc)

undoes_own : (b : JudgedBundle) (s : Document) (h : Holder) (number : ℕ) → IsJudgedBundle (judge_own_undo h.user (undo_of h.log number) s) (Some number) s b → IsOwn b h
undoes_own (judged.Refused v) s h number k = tt
undoes_own (judged.Accepted p) s h number k =
    let P : Option ℕ → Type 0 = λ u. MayBeUndone u h.log in
    subst P (sym k.undoes) (found_from h.user (undo_of h.log number) s _ p.steps p.created.items k.judged)

-- a bundle comes to the judgement of its actions
pub asks_bundle : (h : Holder) (s : Document) (r : Request) (actions : List UserAction) → r ≡ request.Apply actions → Asks h s r None (judge h.user s actions)
asks_bundle h s r actions is = record {
  comes = λ os kept. ap (from_open (state_with s os) h kept) is;
  actions = ap (actions_asked h s) is;
}

-- and a renaming to that of its plan
pub asks_renaming : (h : Holder) (s : Document) (r : Request) (table column new : List ℕ) (p : RenamePlan) → r ≡ request.Rename table column new → p ≡ planned h.user s table column new → Asks h s r None (judge_plan h.user s p)
asks_renaming h s r table column new p is plan = record {
  comes = λ os kept. ap (from_open (state_with s os) h kept) is ∙ ap (λ q. bundle_of h None s kept (judge_plan h.user s q)) (sym plan);
  actions = ap (actions_asked h s) is ∙ ap (λ q. actions_of (judge_plan h.user s q)) (sym plan);
}

pub plan_judged : (user : User) (s : Document) (actions : List UserAction) (count : ℕ) → count ≡ 0 → judge_plan user s (record { actions = actions; unresolved = count }) ≡ judge user s actions
plan_judged user s actions zero none = refl
plan_judged user s actions (suc n) none = let never : ⊥ = cc none in absurd never

-- a plan in which all is resolved asks for its actions
pub asks_resolved : (h : Holder) (s : Document) (r : Request) (p : RenamePlan) → p.unresolved ≡ 0 → Asks h s r None (judge_plan h.user s p) → Asks h s r None (judge h.user s p.actions)
asks_resolved h s r p none a = subst (Asks h s r None) (plan_judged h.user s p.actions p.unresolved none) a

plan_refused : (user : User) (s : Document) (actions : List UserAction) (count : ℕ) → 0 < count → judge_plan user s (record { actions = actions; unresolved = count }) ≡ refused (Unresolved count)
plan_refused user s actions zero some = let never : ⊥ = omega (arith, some) in absurd never
plan_refused user s actions (suc n) some = refl

-- one in which something is not is refused
pub asks_unresolved : (h : Holder) (s : Document) (r : Request) (p : RenamePlan) → 0 < p.unresolved → Asks h s r None (judge_plan h.user s p) → (os : List Open) (kept : Bool) → from_open (state_with s os) h kept r ≡ answered s (Some h) (Unresolved p.unresolved)
asks_unresolved h s r p some a os kept = a.comes os kept ∙ ap (bundle_of h None s kept) (plan_refused h.user s p.actions p.unresolved some)

pub judged_bundle : (h : Holder) (s : Document) (r : Request) (actions : List UserAction) (b : JudgedBundle) → Asks h s r None (judge h.user s actions) → IsJudgedBundle (judge h.user s actions) None s b → IsJudgedFor h s r b
judged_bundle h s r actions b asks k = record {
  judgement = judge h.user s actions;
  undone = None;
  asks = asks.comes;
  actions = asks.actions;
  judged = k;
  own = undoes_none b (judge h.user s actions) s h k;
}

pub judged_undo : (h : Holder) (s : Document) (r : Request) (number : ℕ) (b : JudgedBundle) → r ≡ request.Undo number → IsJudgedBundle (judge_own_undo h.user (undo_of h.log number) s) (Some number) s b → IsJudgedFor h s r b
judged_undo h s r number b asks k = record {
  judgement = judge_own_undo h.user (undo_of h.log number) s;
  undone = Some number;
  asks = λ os kept. ap (from_open (state_with s os) h kept) asks;
  actions = ap (actions_asked h s) asks;
  judged = k;
  own = undoes_own b s h number k;
}
