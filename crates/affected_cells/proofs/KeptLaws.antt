-- What an action leaves alone in a document.
use Rattle.std.proofs.Common.{Bool, true, false, cond, List, ℕ, ◌≡◌, refl, sym, ◌∙◌, subst, Option, Some, None}
use Rattle.cell_types.specs.declared.value.CellValue.{CellValue}
use Rattle.doc_model.specs.declared.action.DocAction.{DocAction}
use Rattle.doc_model.specs.declared.action.DocAction.TheVariants.{BulkUpdate}
use Rattle.doc_model.specs.Apply.{apply, effect}
use Rattle.doc_model.specs.Valid.{valid}
use Rattle.doc_model.proofs.Choices.{cond_true}
use Rattle.affected_cells.proofs.UpdateTouches.{update_right}
use Rattle.doc_model.specs.Document.{Document}
use Rattle.affected_cells.specs.Affected.{affected, is_fresh_cell}
use Rattle.affected_cells.specs.TouchedRight.{IsTouchedRight}
use Rattle.affected_cells.specs.Laws.{KeepsLaw, UpdateLaw, still_known}
use Rattle.recalc.specs.Evaluated.{sheet_of}
use Rattle.recalc.specs.Sheet.{evaluated}
use Rattle.recalc.specs.Stack.{IsSound}
use Rattle.affected_cells.specs.Touched.{is_touched}
use Rattle.recalc.proofs.SheetLemmas.{is_sheet}
use Rattle.affected_cells.proofs.Touches.{affected_closed}
use Rattle.affected_cells.proofs.Unaffected.{unaffected_law}

pub keeps_law : KeepsLaw
keeps_law s a right c f e free =
    unaffected_law (sheet_of s) (sheet_of (apply s a)) (affected s a) (is_sheet s).listed (is_sheet (apply s a)).listed
    (affected_closed (sheet_of s) (sheet_of (apply s a)) (is_fresh_cell s a) (is_touched s a) (is_sheet (apply s a)).listed right) c f e free

-- the values before, of cells that are not affected, are right after the action: with these known, `settle` goes on
pub still_known_right : (s : Document) (a : DocAction) → IsTouchedRight (sheet_of s) (sheet_of (apply s a)) (is_fresh_cell s a) (is_touched s a) → IsSound (sheet_of (apply s a)) (still_known s a)
still_known_right s a right c v = by_formula ((sheet_of (apply s a)).formula c) refl
  where
    by_affected : (f : List ℕ) → (sheet_of (apply s a)).formula c ≡ Some f → (b : Bool) → affected s a c ≡ b → cond b None (Some (evaluated (sheet_of s) c)) ≡ Some v → evaluated (sheet_of (apply s a)) c ≡ v
    by_affected f e true free h = absurd (cc)
    by_affected f e false free h = let same : evaluated (sheet_of s) c ≡ v = cc in (keeps_law s a right c f e free).0 ∙ same

    by_formula : (o : Option (List ℕ)) → (sheet_of (apply s a)).formula c ≡ o
        → elim o as (λ _. Option CellValue) [ None ↦ None | Some f ↦ cond (affected s a c) None (Some (evaluated (sheet_of s) c)) ] ≡ Some v → evaluated (sheet_of (apply s a)) c ≡ v
    by_formula None e h = absurd (cc)
    by_formula (Some f) e h = by_affected f e (affected s a c) refl h

pub update_law : UpdateLaw
update_law s t rows ks v =
    subst (λ x. IsTouchedRight (sheet_of s) (sheet_of x) (is_fresh_cell s (BulkUpdate t rows ks)) (is_touched s (BulkUpdate t rows ks)))
    (sym (cond_true (valid s (BulkUpdate t rows ks)) (effect s (BulkUpdate t rows ks)) s v)) (update_right t rows ks s)
