-- What the traces of a bundle of records tell of it.
use Rattle.std.proofs.Common.{◌≡◌, ℕ, suc, zero, ◌+◌, ◌<◌, ◌&&◌, List, [], ◌∷◌, ◌++◌, take, length, get_or, refl, ap, ◌∙◌, arith, add-one}
use Rattle.std.specs.List.{list_all}
use Rattle.cell_types.specs.declared.cell.CellOld.{CellOld}
use Rattle.doc_model.specs.declared.action.DocAction.{DocAction}
use Rattle.doc_model.specs.Apply.{apply}
use Rattle.doc_model.specs.Document.{Document}
use Rattle.doc_model.proofs.Choices.{length_map}
use Rattle.recalc.specs.Lost.{lost}
use Rattle.evaluated_doc.specs.WayBack.{Changed}
use Rattle.action_censor.specs.Step.{Step, are_records, is_of_records}
use Rattle.bundle_traces.specs.TraceLaws.{steps_done}
use Rattle.bundle_judge.specs.Losses.{all_lost, cells_told}
use Rattle.bundle_core.specs.Followed.{with_cells}

-- one more action with its cells
pub with_cells_next : (i : ℕ) (actions : List DocAction) (told : List (List CellOld)) (a : DocAction) (cells : List CellOld) → i < length actions → i < length told → a ≡ get_or actions i a → cells ≡ get_or told i cells
    → with_cells (take i actions) (take i told) ++ (let k : Step = record { action = a; cells = cells } in k) ∷ [] ≡ with_cells (take (suc i) actions) (take (suc i) told)
with_cells_next i [] told a cells lt le is as_told = absurd (omega (arith, lt))
with_cells_next i (b ∷ actions) [] a cells lt le is as_told = absurd (omega (arith, le))
with_cells_next zero (b ∷ actions) (c ∷ told) a cells lt le is as_told =
    ap (λ x. (let k : Step = record { action = x; cells = cells } in k) ∷ []) is ∙ ap (λ x. (let k : Step = record { action = b; cells = x } in k) ∷ []) as_told
with_cells_next (suc i) (b ∷ actions) (c ∷ told) a cells lt le is as_told =
    ap (λ ks. (let k : Step = record { action = b; cells = c } in k) ∷ ks) (with_cells_next i actions told a cells (omega (arith, lt)) (omega (arith, le)) is as_told)

pub with_cells_more : (i : ℕ) (actions : List DocAction) (told : List (List CellOld)) (a : DocAction) (cells : List CellOld) → i < length actions → i < length told → a ≡ get_or actions i a → cells ≡ get_or told i cells
    → with_cells (take i actions) (take i told) ++ (let k : Step = record { action = a; cells = cells } in k) ∷ [] ≡ with_cells (take (i + 1) actions) (take (i + 1) told)
with_cells_more i actions told a cells lt le is as_told = rw (add-one i) (with_cells_next i actions told a cells lt le is as_told)

-- what the trace at an index tells
pub told_at : {B : Type 0} (traces : List (Changed B)) (i : ℕ) (t : Changed B) (cells : List CellOld) → i < length traces → t ≡ get_or traces i t → cells ≡ t.cells → cells ≡ get_or (cells_told traces) i cells
told_at [] i t cells lt is e = absurd (omega (arith, lt))
told_at (x ∷ traces) zero t cells lt is e = e ∙ ap (λ u. u.cells) is
told_at (x ∷ traces) (suc i) t cells lt is e = told_at traces i t cells (omega (arith, lt)) is e

pub told_length : {B : Type 0} (traces : List (Changed B)) → length (cells_told traces) ≡ length traces
told_length traces = length_map (λ t. t.cells) traces

-- what actions lose are their steps
pub lost_steps : (s : Document) (actions : List DocAction) → with_cells actions (all_lost s actions) ≡ steps_done s actions
lost_steps s [] = refl
lost_steps s (a ∷ actions) = ap (λ ks. (let k : Step = record { action = a; cells = lost s (apply s a) a } in k) ∷ ks) (lost_steps (apply s a) actions)

pub lost_length : (s : Document) (actions : List DocAction) → length (all_lost s actions) ≡ length actions
lost_length s [] = refl
lost_length s (a ∷ actions) = ap suc (lost_length (apply s a) actions)

-- the steps of actions about records
pub records_same : (s : Document) (actions : List DocAction) → are_records (steps_done s actions) ≡ list_all is_of_records actions
records_same s [] = refl
records_same s (a ∷ actions) = ap (λ b. is_of_records a && b) (records_same (apply s a) actions)
