-- What one action of a bundle comes to, and how far a judgement has come.
use Rattle.std.specs.Prelude.{ℕ, ⊤, true, List, ◌++◌, map, drop, ◌≡◌, Some, None}
use Rattle.doc_model.specs.declared.action.Step.{Step}
use Rattle.doc_model.specs.declared.user_action.UserAction.{UserAction}
use Rattle.doc_model.specs.Apply.{apply_all, all_valid}
use Rattle.doc_model.specs.Document.{Document}
use Rattle.action_limits.specs.declared.tally.Tally.{Tally}
use Rattle.acl_rules.specs.declared.decision.Ctx.{Ctx}
use Rattle.user_actions.specs.StepLaws.{action_of}
use Rattle.user_actions.specs.Steps.{steps_of}
use Rattle.bundle_judge.specs.declared.judging.ActionPlan.{ActionPlan}
use Rattle.bundle_judge.specs.declared.judging.JudgedAction.{JudgedAction}
use Rattle.bundle_judge.specs.declared.judging.JudgedAction.TheVariants as judged
use Rattle.bundle_judge.specs.declared.created.Created.{Created}
use Rattle.rule_contexts.specs.Context.{carry_all}
use Rattle.bundle_judge.specs.Denials.{denial_of}
use Rattle.bundle_judge.specs.Judgement.{judge_from, created_at, opposed_at, refusal_at, with_before}
use Rattle.bundle_judge.specs.JudgedBundles.{MayBeDone, after_steps}
use Rattle.bundle_judge.specs.Losses.{AreTold}
use Rattle.evaluated_doc.specs.WayBack.{Changed}

-- nothing but a rule stands against the action at that index: its steps and what it created
pub record IsActionPlan (x : Ctx) (s : Document) (i : ℕ) (a : UserAction)
    (n : ActionPlan) : Type 0 where
  pub unopposed : opposed_at x s i a ≡ None
  pub steps : n.steps ≡ steps_of s a
  pub created : n.created ≡ created_at s a
  pub may : MayBeDone s (map action_of n.steps) n.tally

-- what the action at that index comes to, before its steps are checked
abbrev pub IsJudgedAction : Ctx → Document → ℕ → UserAction → JudgedAction → Type 0
IsJudgedAction x s i a (judged.Accepted n) = IsActionPlan x s i a n
IsJudgedAction x s i a (judged.Refused v) = opposed_at x s i a ≡ Some v

-- these steps are done, and no rule denied one of them
pub record AreLetDone (x : Ctx) (s : Document) (i : ℕ) (steps : List Step) (y : Ctx)
    (t : Document) : Type 0 where
  pub undenied : denial_of x s i steps ≡ None
  pub carried : y ≡ carry_all steps x
  pub done : t ≡ after_steps s steps

-- nothing stands against the action at that index, and its steps are done
pub record IsDonePlan (x : Ctx) (s : Document) (i : ℕ) (a : UserAction) (y : Ctx) (t : Document)
    (n : ActionPlan) : Type 0 where
  pub plan : IsActionPlan x s i a n
  pub done : AreLetDone x s i n.steps y t

-- what the action at that index comes to, where it is done
abbrev pub IsDoneAction : Ctx → Document → ℕ → UserAction → Ctx → Document → JudgedAction
    → Type 0
IsDoneAction x s i a y t (judged.Accepted n) = IsDonePlan x s i a y t n
IsDoneAction x s i a y t (judged.Refused v) = refusal_at x s i a ≡ Some v

-- the steps of an accepted action are told
abbrev pub IsToldAction : {B : Type 0} → Document → List (Changed B) → List (Changed B) → List Step
    → List Step → JudgedAction → Type 0
IsToldAction s old new was now (judged.Accepted n) = AreTold s n.steps old new was now
IsToldAction s old new was now (judged.Refused v) = ⊤

-- so many actions were judged from the start on: some steps are done, and others follow, after
-- which the rules are carried along as far
pub record IsAt (x : Ctx) (start : Document) (requested : List UserAction) (i : ℕ)
    (y : Ctx) (s : Document) (done next : List Step) (created : List Created)
    (tally : Tally) : Type 0 where
  pub done_so_far : s ≡ apply_all start (map action_of done)
  pub valid : all_valid start (map action_of done) ≡ true
  pub may : MayBeDone s (map action_of next) tally
  pub judged : judge_from x start 0 requested
      ≡ with_before (done ++ next) created
      (judge_from y (apply_all s (map action_of next)) i (drop i requested))
