-- How far the judgement of an undo has come.
use Rattle.std.specs.Prelude.{ℕ, true, List, [], map, take, drop, ◌≡◌, None}
use Rattle.doc_model.specs.declared.action.DocAction.{DocAction}
use Rattle.doc_model.specs.declared.action.Step.{Step}
use Rattle.doc_model.specs.Apply.{apply, all_valid}
use Rattle.doc_model.specs.Document.{Document}
use Rattle.doc_model.specs.Valid.{valid}
use Rattle.action_limits.specs.declared.tally.Tally.{Tally}
use Rattle.action_limits.specs.Tallies.{IsTally}
use Rattle.acl_rules.specs.declared.decision.Ctx.{Ctx}
use Rattle.user_actions.specs.StepLaws.{action_of}
use Rattle.bundle_judge.specs.Judgement.{with_before}
use Rattle.bundle_judge.specs.JudgedBundles.{after_steps}
use Rattle.bundle_judge.specs.Undo.{judge_undo, stale_at}

-- nothing but a rule stands against the action at that index, and this is the tally of the document
-- after it
pub record MayGoOn (s : Document) (i : ℕ) (a : DocAction) (t : Tally) : Type 0 where
  pub valid : valid s a ≡ true
  pub fresh : stale_at s i a ≡ None
  pub counts : IsTally (apply s a) t

-- so many steps were judged from the start on, and are done; the rules are carried along as far
pub record IsUndoAt (x : Ctx) (start : Document) (steps : List Step) (i : ℕ) (y : Ctx)
    (s : Document) (tally : Tally) : Type 0 where
  pub done_so_far : s ≡ after_steps start (take i steps)
  pub valid : all_valid start (map action_of (take i steps)) ≡ true
  pub counts : IsTally s tally
  pub judged : judge_undo x start 0 steps
      ≡ with_before (take i steps) [] (judge_undo y s i (drop i steps))
