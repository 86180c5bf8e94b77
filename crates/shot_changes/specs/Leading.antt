-- What leads from what is seen of a document's formula cells to what is seen of another's.
use Rattle.std.specs.Prelude.{ℕ, true, List, None, IsSome, ◌≡◌}
use Rattle.cell_types.specs.declared.value.CellValue.{CellValue}
use Rattle.doc_model.specs.declared.action.DocAction.{DocAction}
use Rattle.doc_model.specs.Apply.{apply_all}
use Rattle.doc_model.specs.Document.{Document}
use Rattle.doc_model.specs.Readers.{cell_at}
use Rattle.recalc.specs.Evaluated.{filled, filled_by}
use Rattle.action_censor.specs.Step.{Step}
use Rattle.context_changes.specs.Bundle.{IsBundle}
use Rattle.shot_cells.specs.Changes.{seen_after}
use Rattle.shot_cells.specs.Places.{ByCell}
use Rattle.shot_cells.specs.ShotDocument.{is_formula_at}
use Rattle.shot_cells.specs.declared.changes.CellChanges.{CellChanges}
use Rattle.shot_changes.specs.NotedCells.{has_cell}

-- whatever is seen of a document with its values, after the changes the values of the other are
-- seen
abbrev pub LeadOn : Document → Document → CellChanges → Type 0
LeadOn s t c =
    (seen : ByCell CellValue) → filled_by seen s ≡ filled s
    → filled_by (seen_after c seen) t ≡ filled t

-- the changes lead on from the document before any bundle of these steps to the one after it
abbrev pub LeadThrough : List Step → Document → CellChanges → Type 0
LeadThrough ks after c =
    (s : Document) (actions : List DocAction) → IsBundle s actions ks after
    → LeadOn s (apply_all s actions) c

-- each formula cell that was there before such a bundle, and is gone after it, is told to be gone
abbrev pub TellGone : List Step → Document → CellChanges → Type 0
TellGone ks after c =
    (s : Document) (actions : List DocAction) → IsBundle s actions ks after
    → (table column : List ℕ) (row : ℕ) → is_formula_at s table column ≡ true
    → IsSome (cell_at (filled s) table column row) → cell_at after table column row ≡ None
    → has_cell c.gone.items table column row ≡ true
