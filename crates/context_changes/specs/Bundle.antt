-- A bundle whose steps tell of it.
use Rattle.std.specs.Prelude.{true, List, ◌≡◌}
use Rattle.doc_model.specs.declared.action.DocAction.{DocAction}
use Rattle.doc_model.specs.Apply.{all_valid, apply_all}
use Rattle.doc_model.specs.Document.{Document}
use Rattle.doc_model.specs.DocumentLaws.{IsWhole}
use Rattle.recalc.specs.Evaluated.{filled}
use Rattle.action_censor.specs.Step.{Step}
use Rattle.bundle_traces.specs.TraceLaws.{steps_done}

-- valid actions done one after another from a whole document on: their steps, and what is evaluated
-- after them
pub record IsBundle
    (s : Document) (actions : List DocAction) (ks : List Step) (after : Document) : Type 0 where
  pub whole : IsWhole s
  pub valid : all_valid s actions ≡ true
  pub steps : ks ≡ steps_done s actions
  pub evaluated : after ≡ filled (apply_all s actions)
