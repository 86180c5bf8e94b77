-- Bundles that were judged.
use Rattle.std.specs.Prelude.{ℕ, ⊤, true, List, [], map, Option, ◌≡◌}
use Rattle.doc_model.specs.declared.action.DocAction.{DocAction}
use Rattle.doc_model.specs.declared.action.Step.{Step}
use Rattle.doc_model.specs.declared.user.User.{User}
use Rattle.doc_model.specs.declared.view.ViewAction.{ViewAction}
use Rattle.doc_model.specs.Apply.{apply_all, all_valid}
use Rattle.doc_model.specs.Changes.{changes}
use Rattle.doc_model.specs.Document.{Document}
use Rattle.action_limits.specs.declared.tally.Tally.{Tally}
use Rattle.action_limits.specs.Tallies.{IsTally}
use Rattle.bundle_judge.specs.declared.judging.JudgedBundle.{JudgedBundle}
use Rattle.bundle_judge.specs.declared.judging.JudgedBundle.TheVariants as judged
use Rattle.bundle_judge.specs.declared.judging.BundlePlan.{BundlePlan}
use Rattle.bundle_judge.specs.Judgement.{Judgement, accepted, refused}
use Rattle.bundle_judge.specs.Losses.{AreTold}
use Rattle.evaluated_doc.specs.WayBack.{Changed}
use Rattle.user_actions.specs.StepLaws.{action_of}
use Rattle.rule_contexts.specs.Context.{view}

-- actions that may be done, and the tally of the document after them
pub record MayBeDone (s : Document) (actions : List DocAction) (tally : Tally) : Type 0 where
  pub valid : all_valid s actions ≡ true
  pub counts : IsTally (apply_all s actions) tally

-- the document after these steps
abbrev pub after_steps : Document → List Step → Document
after_steps s steps = apply_all s (map action_of steps)

-- the judgement, of a bundle or of the undo of one, accepts with these steps and what they make of
-- the document
pub record IsBundlePlan (judgement : Judgement) (undone : Option ℕ) (s : Document)
    (p : BundlePlan) : Type 0 where
  pub undoes : p.undone ≡ undone
  pub judged : judgement ≡ accepted (after_steps s p.steps) p.steps p.created.items
  pub may : MayBeDone s (map action_of p.steps) p.tally

-- what a judgement comes to
abbrev pub IsJudgedBundle : Judgement → Option ℕ → Document → JudgedBundle → Type 0
IsJudgedBundle judgement target s (judged.Accepted plan) = IsBundlePlan judgement target s plan
IsJudgedBundle judgement target s (judged.Refused v) = judgement ≡ refused v

module _ {B : Type 0} where
  -- these steps are done, and told
  pub record AreDone (s t : Document) (steps : List Step) (old new : List (Changed B))
      (was now : List Step) : Type 0 where
    pub document : t ≡ after_steps s steps
    pub told : AreTold s steps old new was now

  -- the steps of an accepted bundle are done and told
  abbrev pub IsToldBundle : Document → Document → List (Changed B) → List (Changed B) → List Step
      → List Step → JudgedBundle → Type 0
  IsToldBundle s t old new was now (judged.Accepted plan) = AreDone s t plan.steps old new was now
  IsToldBundle s t old new was now (judged.Refused v) = ⊤

  -- the steps of an accepted bundle are done, and these traces and this inverse tell of them; of a
  -- refused one nothing is
  abbrev pub IsDoneBundle : Document → Document → List (Changed B) → List Step → JudgedBundle
      → Type 0
  IsDoneBundle s t traces inverse (judged.Accepted plan) =
      AreDone s t plan.steps [] traces [] inverse
  IsDoneBundle s t traces inverse (judged.Refused v) = t ≡ s

-- what a user is told of these actions
abbrev pub told_changes : Document → List DocAction → User → List ViewAction
told_changes s actions user = changes (view user s) (view user (apply_all s actions))
