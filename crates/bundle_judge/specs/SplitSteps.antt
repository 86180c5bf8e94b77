-- Steps of which the actions and the marks are kept apart.
use Rattle.std.specs.Prelude.{Bool, List, [], ◌∷◌}
use Rattle.doc_model.specs.declared.action.DocAction.{DocAction}
use Rattle.doc_model.specs.declared.action.Step.{Step}

-- actions with their marks
abbrev pub joined : List DocAction → List Bool → List Step
joined [] marks = []
joined (a ∷ as') [] = []
joined (a ∷ as') (direct ∷ marks) = record { action = a; direct = direct } ∷ joined as' marks
