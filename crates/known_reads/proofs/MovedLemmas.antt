-- A graph beside the values, over rows of one table that come or go.
use Rattle.std.proofs.Common.{ℕ, Bool, true, false, not, ◌&&◌, ◌||◌, List, ◌≡◌, refl, sym, ap, ◌∙◌, Option, Some, None}
use Rattle.std.proofs.lemmas.Bool.{true≢false, false≢true}
use Rattle.std.specs.Option.{is_some}
use Rattle.std.specs.Str.{bytes_eq}
use Rattle.cell_types.specs.declared.cell.CellId.{CellId}
use Rattle.doc_model.specs.declared.action.DocAction.{DocAction}
use Rattle.doc_model.specs.Apply.{apply}
use Rattle.doc_model.specs.Document.{Document}
use Rattle.doc_model.specs.Rows.{has}
use Rattle.doc_model.specs.Valid.{valid}
use Rattle.dep_graph.specs.declared.numbers.CellNumber.{CellNumber}
use Rattle.dep_graph.specs.Graph.{Graph}
use Rattle.recalc.specs.Evaluated.{formula_at, sheet_of}
use Rattle.recalc.specs.Stack.{on}
use Rattle.affected_cells.specs.Affected.{is_modified}
use Rattle.affected_cells.specs.Noted.{notes}
use Rattle.affected_search.specs.Actions.{KeepsOthers}
use Rattle.affected_search.specs.Sheets.{is_found}
use Rattle.affected_values.specs.Carried.{HasCellsOf, moved_rows, moved_table}
use Rattle.affected_values.proofs.RowsOver.{formula_apart, not_modified}
use Rattle.known_reads.specs.Moved.{ReadsOverLaw, RowsStayLaw}

-- ---- rows that come or go

pub some_same : (x y : List ℕ) → Some x ≡ Some y → x ≡ y
some_same x y e = cc

none_some : (x : List ℕ) → None ≡ Some x → ⊥
none_some x e = cc

module _ (s : Document) (a : DocAction) (t : List ℕ) (cells : List CellId)
    (moved : moved_table a ≡ Some t) (ok : valid s a ≡ true) (before : HasCellsOf s t (moved_rows a) cells) (after : HasCellsOf (apply s a) t (moved_rows a) cells) where
  -- a cell of the rows that is not among them has no formula
  none_there : (x : Document) → HasCellsOf x t (moved_rows a) cells → (c : CellId) → (bytes_eq c.table t && has (moved_rows a) c.row) ≡ true → on cells c ≡ false → formula_at x c ≡ None
  none_there x has_cells c e other = by (formula_at x c) refl
    where
      by : (o : Option (List ℕ)) → formula_at x c ≡ o → o ≡ None
      by None g = refl
      by (Some f) g = absurd (true≢false (sym (has_cells c e (ap is_some g)) ∙ other))

  formula_same : (c : CellId) → on cells c ≡ false → formula_at (apply s a) c ≡ formula_at s c
  formula_same c other = by (bytes_eq c.table t && has (moved_rows a) c.row) refl
    where
      by : (b : Bool) → (bytes_eq c.table t && has (moved_rows a) c.row) ≡ b → formula_at (apply s a) c ≡ formula_at s c
      by true e = none_there (apply s a) after c e other ∙ sym (none_there s before c e other)
      by false e = formula_apart s a t moved ok c e

  module _ (graph : Graph) (found : List CellNumber) (keeps : KeepsOthers s graph a found) (named : (c : CellId) → is_found graph found c ≡ true → on cells c ≡ true) where
    not_found : (c : CellId) → on cells c ≡ false → is_found graph found c ≡ false
    not_found c other = by (is_found graph found c) refl
      where
        by : (b : Bool) → is_found graph found c ≡ b → b ≡ false
        by true e = absurd (true≢false (sym (named c e) ∙ other))
        by false e = refl

    same_notes : (c : CellId) → is_some (formula_at (apply s a) c) ≡ true → on cells c ≡ false → notes (sheet_of s) c ≡ notes (sheet_of (apply s a)) c
    same_notes c there other = by (formula_at (apply s a) c) refl there
      where
        by : (o : Option (List ℕ)) → formula_at (apply s a) c ≡ o → is_some o ≡ true → notes (sheet_of s) c ≡ notes (sheet_of (apply s a)) c
        by None e h = absurd (false≢true h)
        by (Some f) e h = sym (keeps ok c f e (ap (λ o. not (is_some o) || is_modified a c) (sym (formula_same c other) ∙ e) ∙ not_modified a t moved c) (not_found c other)).1

pub rows_stay : RowsStayLaw
rows_stay s a t cells moved ok before after = formula_same s a t cells moved ok before after

pub reads_over : ReadsOverLaw
reads_over s a t graph found cells moved ok keeps named before after = record {
  there = λ c other. ap is_some (sym (formula_same s a t cells moved ok before after c other));
  same = λ c there other. same_notes s a t cells moved ok before after graph found keeps named c there other;
}
