-- Bundles that a judgement accepts.
use Rattle.std.specs.Prelude.{ℕ, true, List, map, ◌≡◌}
use Rattle.acl_rules.specs.declared.decision.Ctx.{Ctx}
use Rattle.bundle_judge.specs.declared.created.Created.{Created}
use Rattle.bundle_judge.specs.Judgement.{accepted, judge, judge_from}
use Rattle.doc_model.specs.declared.action.Step.{Step}
use Rattle.doc_model.specs.declared.user.User.{User}
use Rattle.doc_model.specs.declared.user_action.UserAction.{UserAction}
use Rattle.doc_model.specs.Apply.{all_valid, apply_all}
use Rattle.doc_model.specs.Document.{Document}
use Rattle.renaming_bundles.specs.Expanded.{expanded}
use Rattle.user_actions.specs.StepLaws.{action_of}

-- the judgement accepts with this document after it, and the steps are valid
pub record IsAccepted (user : User) (s : Document) (requested : List UserAction)
    (s' : Document) : Type 0 where
  pub steps : List Step
  pub created : List Created
  pub judged : judge user s requested ≡ accepted s' steps created
  pub valid : all_valid s (map action_of steps) ≡ true

-- the steps of an accepted bundle are those of its actions, one behind the other
abbrev pub JudgedLaw : Type 0
JudgedLaw = (x : Ctx) (requested : List UserAction) (s : Document) (i : ℕ) (s' : Document)
    (steps : List Step) (created : List Created)
    → judge_from x s i requested ≡ accepted s' steps created
    → (map action_of steps ≡ expanded s requested) × (s' ≡ apply_all s (expanded s requested))
