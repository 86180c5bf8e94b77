-- What evaluation tells of bundles of records, as steps.
use Rattle.std.specs.Prelude.{ℕ, true, List, [], ◌∷◌, ◌≡◌}
use Rattle.doc_model.specs.declared.action.DocAction.{DocAction}
use Rattle.doc_model.specs.Apply.{all_valid, apply, apply_all}
use Rattle.doc_model.specs.Document.{Document}
use Rattle.doc_model.specs.DocumentLaws.{IsWhole}
use Rattle.doc_model.specs.Valid.{valid}
use Rattle.doc_readers.specs.Parts.{grid_at}
use Rattle.recalc.specs.Evaluated.{filled}
use Rattle.recalc.specs.Lost.{lost}
use Rattle.censored_view.specs.Readable.{Readable}
use Rattle.censored_view.specs.View.{view}
use Rattle.action_censor.specs.Back.{IsStepOf, back}
use Rattle.action_censor.specs.Step.{Step, are_records, is_of_records}

-- an action with the cells that it loses of the evaluated document
abbrev pub step_done : Document → DocAction → Step
step_done s a = record { action = a; cells = lost s (apply s a) a }

-- actions one after another
abbrev pub steps_done : Document → List DocAction → List Step
steps_done s [] = []
steps_done s (a ∷ actions) = step_done s a ∷ steps_done (apply s a) actions

-- a valid record action with what it loses is a step of each table of the evaluated document
abbrev pub TraceLaw : Type 0
TraceLaw =
    (s : Document) (a : DocAction) → IsWhole s → valid s a ≡ true → is_of_records a ≡ true
    → (t : List ℕ)
    → IsStepOf (step_done s a) t (grid_at (filled s) t) (grid_at (filled (apply s a)) t)

-- so what a context shows of the evaluated document before a bundle of records is what it shows of
-- the document before its steps, by the one after them
abbrev pub BundleLaw : Type 0
BundleLaw =
    (x : List ℕ → Readable) (s : Document) (actions : List DocAction) → IsWhole s
    → all_valid s actions ≡ true → are_records (steps_done s actions) ≡ true
    → view x (back (steps_done s actions) (filled (apply_all s actions))) ≡ view x (filled s)
