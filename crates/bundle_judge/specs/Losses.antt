-- What actions done one after another lose of the evaluated document, and what is told of it.
use Rattle.std.specs.Prelude.{List, [], ◌∷◌, ◌++◌, map, ◌≡◌}
use Rattle.cell_types.specs.declared.cell.CellOld.{CellOld}
use Rattle.doc_model.specs.declared.action.DocAction.{DocAction}
use Rattle.doc_model.specs.declared.action.Step.{Step}
use Rattle.doc_model.specs.Apply.{apply}
use Rattle.doc_model.specs.Document.{Document}
use Rattle.recalc.specs.Lost.{lost}
use Rattle.evaluated_doc.specs.WayBack.{Changed}
use Rattle.undo_bundles.specs.InverseSteps.{inverse_steps}
use Rattle.user_actions.specs.StepLaws.{action_of}

-- what each action loses where those before it are done
abbrev pub all_lost : Document → List DocAction → List (List CellOld)
all_lost s [] = []
all_lost s (a ∷ actions) = lost s (apply s a) a ∷ all_lost (apply s a) actions

-- what each trace tells
abbrev pub cells_told : {B : Type 0} → List (Changed B) → List (List CellOld)
cells_told traces = map (λ t. t.cells) traces

module _ {B : Type 0} where
  -- steps that were done from there on are told: their traces stand behind the old ones, and what
  -- takes them back before what takes back what was done
  pub record AreTold (s : Document) (steps : List Step) (old new : List (Changed B))
      (was now : List Step) : Type 0 where
    pub cells : cells_told new ≡ cells_told old ++ all_lost s (map action_of steps)
    pub inverse : now ≡ inverse_steps s steps ++ was
