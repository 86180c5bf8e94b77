-- What is lost, action by action.
use Rattle.std.proofs.Common.{◌≡◌, ℕ, ◌+◌, List, [], ◌∷◌, ◌++◌, map, drop, length, ◌≤◌, refl, sym, ap, ◌∙◌}
use Rattle.std.proofs.lemmas.List.{map-append, append_assoc, append-nil}
use Rattle.cell_types.specs.declared.cell.CellOld.{CellOld}
use Rattle.doc_model.specs.declared.action.DocAction.{DocAction}
use Rattle.doc_model.specs.Apply.{apply}
use Rattle.doc_model.specs.Document.{Document}
use Rattle.recalc.specs.Lost.{lost}
use Rattle.evaluated_doc.specs.WayBack.{Changed}
use Rattle.bundle_judge.specs.Losses.{all_lost, cells_told}
use Rattle.bundle_judge.proofs.RollbackLemmas.{nothing_left}

-- a trace behind others
pub told_last : {B : Type 0} (old new : List (Changed B)) (trace : Changed B) (cells : List CellOld) → new ≡ old ++ trace ∷ [] → trace.cells ≡ cells
    → cells_told new ≡ cells_told old ++ cells ∷ []
told_last old new trace cells is tells =
    ap cells_told is ∙ map-append (λ t. t.cells) old (trace ∷ []) ∙ ap (λ c. cells_told old ++ c ∷ []) tells

-- one more is done
pub lost_next : (start : Document) (actions : List DocAction) (i : ℕ) (s t : Document) (a : DocAction) (first told more : List (List CellOld))
    → told ++ all_lost s (drop i actions) ≡ first ++ all_lost start actions → drop i actions ≡ a ∷ drop (i + 1) actions → t ≡ apply s a
    → more ≡ told ++ lost s (apply s a) a ∷ [] → more ++ all_lost t (drop (i + 1) actions) ≡ first ++ all_lost start actions
lost_next start actions i s t a first told more h e done is =
    ap (λ l. l ++ all_lost t (drop (i + 1) actions)) is
    ∙ append_assoc told (lost s (apply s a) a ∷ []) (all_lost t (drop (i + 1) actions))
    ∙ ap (λ u. told ++ lost s (apply s a) a ∷ all_lost u (drop (i + 1) actions)) done
    ∙ ap (λ l. told ++ all_lost s l) (sym e)
    ∙ h

-- all are done
pub lost_all : (start : Document) (actions : List DocAction) (i : ℕ) (s : Document) (first told : List (List CellOld))
    → told ++ all_lost s (drop i actions) ≡ first ++ all_lost start actions → length actions ≤ i → told ≡ first ++ all_lost start actions
lost_all start actions i s first told h le =
    sym (append-nil told) ∙ ap (λ l. told ++ all_lost s l) (sym (nothing_left i actions le)) ∙ h
