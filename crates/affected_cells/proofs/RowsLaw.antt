-- Rows that come and go touch what is said of them.
use Rattle.std.proofs.Common.{true, false, not, ◌||◌, Bool, List, [], ◌∷◌, ℕ, ◌≡◌, refl, sym, subst, Option, Some, None}
use Rattle.std.proofs.lemmas.Bool.{true≢false}
use Rattle.std.specs.Option.{is_some}
use Rattle.cell_types.specs.declared.cell.CellId.{CellId}
use Rattle.cell_types.specs.declared.cell.Read.{Read}
use Rattle.doc_model.specs.declared.action.DocAction.{DocAction}
use Rattle.doc_model.specs.declared.action.DocAction.TheVariants.{BulkAdd, BulkRemove}
use Rattle.doc_model.specs.declared.column.CellColumn.{CellColumn}
use Rattle.doc_model.specs.Apply.{apply, effect}
use Rattle.doc_model.specs.Document.{Document}
use Rattle.doc_model.specs.Valid.{valid}
use Rattle.doc_model.proofs.Choices.{cond_true}
use Rattle.affected_cells.specs.Affected.{is_fresh_cell}
use Rattle.affected_cells.specs.TouchedRight.{IsTouchedRight}
use Rattle.affected_cells.specs.Laws.{RowsLaw}
use Rattle.recalc.specs.Evaluated.{formula_at, sheet_of}
use Rattle.affected_cells.specs.Touched.{is_touched}
use Rattle.affected_cells.proofs.RowTouches.{added_right, came, none_added, none_removed, removed_right}

-- a cell that is not fresh was a formula cell
pub was_there : (s : Document) (c : CellId) → (not (is_some (formula_at s c)) || false) ≡ false → (f : List ℕ) × (formula_at s c ≡ Some f)
was_there s c = by_formula (formula_at s c)
  where
    by_formula : (o : Option (List ℕ)) → (not (is_some o) || false) ≡ false → (f : List ℕ) × (o ≡ Some f)
    by_formula None e = absurd (true≢false e)
    by_formula (Some f) e = (f, refl)

-- of a valid action its effect is enough
effect_right : (s : Document) (a : DocAction) (touched : Read → Bool) → valid s a ≡ true → IsTouchedRight (sheet_of s) (sheet_of (effect s a)) (is_fresh_cell s a) touched → IsTouchedRight (sheet_of s) (sheet_of (apply s a)) (is_fresh_cell s a) touched
effect_right s a touched v h = subst (λ x. IsTouchedRight (sheet_of s) (sheet_of x) (is_fresh_cell s a) touched) (sym (cond_true (valid s a) (effect s a) s v)) h

pub valid_right : (s : Document) (a : DocAction) → valid s a ≡ true → IsTouchedRight (sheet_of s) (sheet_of (effect s a)) (is_fresh_cell s a) (is_touched s a) → IsTouchedRight (sheet_of s) (sheet_of (apply s a)) (is_fresh_cell s a) (is_touched s a)
valid_right s a v h = effect_right s a (is_touched s a) v h

-- rows that come or go touch at most their cells, their columns as key columns, and which rows the
-- table has
pub came_added : (s : Document) (t rows : List ℕ) (ks : List CellColumn) → valid s (BulkAdd t rows ks) ≡ true
    → IsTouchedRight (sheet_of s) (sheet_of (apply s (BulkAdd t rows ks))) (is_fresh_cell s (BulkAdd t rows ks)) (came t rows)
came_added s t rows ks v = effect_right s (BulkAdd t rows ks) (came t rows) v (added_right t rows ks s (is_fresh_cell s (BulkAdd t rows ks)) (was_there s))

pub came_removed : (s : Document) (t rows : List ℕ) → valid s (BulkRemove t rows) ≡ true
    → IsTouchedRight (sheet_of s) (sheet_of (apply s (BulkRemove t rows))) (is_fresh_cell s (BulkRemove t rows)) (came t rows)
came_removed s t rows v = effect_right s (BulkRemove t rows) (came t rows) v (removed_right t rows s (is_fresh_cell s (BulkRemove t rows)) (was_there s))

pub rows_law : RowsLaw
rows_law s t [] = record {
  added = λ ks v. valid_right s (BulkAdd t [] ks) v (none_added t ks s (is_fresh_cell s (BulkAdd t [] ks)) (was_there s));
  removed = λ v. valid_right s (BulkRemove t []) v (none_removed t s (is_fresh_cell s (BulkRemove t [])) (was_there s));
}
rows_law s t (r ∷ rows) = record {
  added = λ ks v. came_added s t (r ∷ rows) ks v;
  removed = λ v. came_removed s t (r ∷ rows) v;
}
