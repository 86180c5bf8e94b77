-- The steps of the user actions of a bundle, one action behind the other.
use Rattle.std.specs.Prelude.{List, [], ◌∷◌, ◌++◌, map}
use Rattle.doc_model.specs.declared.action.DocAction.{DocAction}
use Rattle.doc_model.specs.declared.user_action.UserAction.{UserAction}
use Rattle.doc_model.specs.Apply.{apply_all}
use Rattle.doc_model.specs.Document.{Document}
use Rattle.user_actions.specs.StepLaws.{action_of}
use Rattle.user_actions.specs.Steps.{steps_of}

-- the document actions of a user action
abbrev pub actions_of : Document → UserAction → List DocAction
actions_of s a = map action_of (steps_of s a)

-- those of several, each of the document after those before it
abbrev pub expanded : Document → List UserAction → List DocAction
expanded s [] = []
expanded s (a ∷ as') = actions_of s a ++ expanded (apply_all s (actions_of s a)) as'
