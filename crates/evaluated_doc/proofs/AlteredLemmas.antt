-- An action on no records in a document of which values are kept.
use Rattle.std.proofs.Common.{ℕ, Bool, true, false, not, ◌||◌, List, ◌≡◌, refl, sym, ap, ◌∙◌, subst, Option, Some, None}
use Rattle.std.proofs.lemmas.Bool.{true≢false, false≢true}
use Rattle.std.specs.Option.{is_some}
use Rattle.cell_types.specs.declared.cell.CellId.{CellId}
use Rattle.cell_types.specs.declared.value.CellValue.{CellValue}
use Rattle.doc_model.specs.declared.action.DocAction.{DocAction}
use Rattle.doc_model.specs.declared.action.DocAction.TheVariants.{AddColumn, AddTable, BulkAdd, BulkRemove, BulkUpdate, ModifyColumn, RemoveColumn, RemoveTable, RenameColumn, RenameTable}
use Rattle.doc_model.specs.Document.{Document}
use Rattle.recalc.specs.declared.kept.KeptTable.{KeptTable}
use Rattle.recalc.specs.Evaluated.{formula_at, sheet_of, value_of}
use Rattle.recalc.specs.Kept.{IsEvaluated, held_at}
use Rattle.recalc.specs.Sheet.{evaluated}
use Rattle.recalc.specs.Stack.{on}
use Rattle.affected_cells.specs.Affected.{is_modified}
use Rattle.affected_cells.specs.Noted.{notes}
use Rattle.affected_search.specs.Sheets.{is_found}
use Rattle.affected_values.specs.Altered.{AlteredLaw, HasAltered, IsAlteredFrom, IsCarried, is_altered}
use Rattle.affected_values.specs.Taken.{IsRightBut}
use Rattle.affected_values.proofs.HeldNone.{held_none}
use Rattle.known_reads.specs.Beside.{Beside}
use Rattle.known_reads.specs.Recorded.{KnowsBut}
use Rattle.known_reads.proofs.BesideLemmas.{read_same}
use Rattle.evaluated_doc.specs.Altering.{HasFoundAltered, IsAltering}

pub none_some : {X : Type 0} (x : X) → None ≡ Some x → ⊥
none_some x e = cc

pub some_same : {X : Type 0} (x y : X) → Some x ≡ Some y → x ≡ y
some_same x y e = cc

-- a formula cell holds its value
pub kept_value : (s : Document) (ks : List KeptTable) → IsEvaluated s ks → (c : CellId) (f : List ℕ) → formula_at s c ≡ Some f → held_at s ks c ≡ Some (evaluated (sheet_of s) c)
unfolding value_of
kept_value s ks known c f e = known.values c f e

-- a column that an action modifies is altered by it
not_modified : (a : DocAction) (c : CellId) → is_altered a c ≡ false → is_modified a c ≡ false
not_modified (ModifyColumn t k i) c h = h
not_modified (BulkAdd t rows ks) c h = refl
not_modified (BulkUpdate t rows ks) c h = refl
not_modified (BulkRemove t rows) c h = refl
not_modified (AddTable t r cs) c h = refl
not_modified (RemoveTable t) c h = refl
not_modified (RenameTable t n) c h = refl
not_modified (AddColumn t d) c h = refl
not_modified (RemoveColumn t k) c h = refl
not_modified (RenameColumn t k n) c h = refl

-- a cell that is not among these has no formula, where it is altered
none_there : (d : Document) (a : DocAction) (cells : List CellId) → HasAltered d a cells → (c : CellId) → is_altered a c ≡ true → on cells c ≡ false → formula_at d c ≡ None
none_there d a cells has c altered other = by (formula_at d c) refl
  where
    by : (o : Option (List ℕ)) → formula_at d c ≡ o → o ≡ None
    by None e = refl
    by (Some f) e = absurd (true≢false (sym (has c altered (ap is_some e)) ∙ other))

-- but for the cells that are altered each cell has the formula that it had
pub formula_same : AlteredLaw → (s now : Document) (a : DocAction) → IsAlteredFrom s now a → (cells : List CellId) → HasAltered s a cells → HasAltered now a cells → (c : CellId) → on cells c ≡ false → formula_at now c ≡ formula_at s c
formula_same law s now a from cells before after c other = by (is_altered a c) refl
  where
    by : (b : Bool) → is_altered a c ≡ b → formula_at now c ≡ formula_at s c
    by true e = none_there now a cells after c e other ∙ sym (none_there s a cells before c e other)
    by false e = (law s now a from).stays c e

-- what is altered is among more cells too
pub altered_more : (s : Document) (a : DocAction) (old new : List CellId) → HasAltered s a old → ((c : CellId) → on old c ≡ true → on new c ≡ true) → HasAltered s a new
altered_more s a old new has more c h there = more c (has c h there)

module _ (law : AlteredLaw) (s now : Document) (a : DocAction) (kept : List KeptTable) (known : Beside) (first : List CellId) (is : IsAltering s now a kept known first)
    (cells : List CellId) (found : HasFoundAltered s known.graph a cells) (after : HasAltered now a cells) where
  stays : (c : CellId) → on cells c ≡ false → formula_at now c ≡ formula_at s c
  stays = formula_same law s now a is.altered cells found.altered after

  not_altered : (c : CellId) (f : List ℕ) → formula_at now c ≡ Some f → on cells c ≡ false → is_altered a c ≡ false
  not_altered c f e other = by (is_altered a c) refl
    where
      by : (b : Bool) → is_altered a c ≡ b → b ≡ false
      by true h = absurd (none_some f (sym (none_there now a cells after c h other) ∙ e))
      by false h = refl

  not_found : (c : CellId) → on cells c ≡ false → is_found known.graph found.found.found c ≡ false
  not_found c other = by (is_found known.graph found.found.found c) refl
    where
      by : (b : Bool) → is_found known.graph found.found.found c ≡ b → b ≡ false
      by true e = absurd (true≢false (sym (found.found.named c e) ∙ other))
      by false e = refl

  -- a formula cell that is not among these keeps its value and what it notes
  same : (c : CellId) (f : List ℕ) → formula_at now c ≡ Some f → on cells c ≡ false → (evaluated (sheet_of now) c ≡ evaluated (sheet_of s) c) × (notes (sheet_of now) c ≡ notes (sheet_of s) c)
  same c f e other =
      subst (λ d. (evaluated (sheet_of d) c ≡ evaluated (sheet_of s) c) × (notes (sheet_of d) c ≡ notes (sheet_of s) c)) (sym is.altered.done)
      (found.found.keeps is.altered.ok c f (ap (λ d. formula_at d c) (sym is.altered.done) ∙ e)
      (ap (λ o. not (is_some o) || is_modified a c) (sym (stays c other) ∙ e) ∙ not_modified a c (not_altered c f e other)) (not_found c other))

  same_notes : (c : CellId) → is_some (formula_at now c) ≡ true → on cells c ≡ false → notes (sheet_of s) c ≡ notes (sheet_of now) c
  same_notes c there other = by (formula_at now c) refl there
    where
      by : (o : Option (List ℕ)) → formula_at now c ≡ o → is_some o ≡ true → notes (sheet_of s) c ≡ notes (sheet_of now) c
      by None e h = absurd (false≢true h)
      by (Some f) e h = sym (same c f e other).1

  -- the graph is right of each cell but these
  pub reads_but : KnowsBut now known cells
  reads_but c fresh other = read_same s now known.graph c (ap is_some (sym (stays c other))) (λ there. same_notes c there other) (is.reads.each c)

  held_was : (new : List KeptTable) → IsCarried s now a kept new → (c : CellId) (f : List ℕ) → formula_at now c ≡ Some f → on cells c ≡ false → held_at now new c ≡ Some (evaluated (sheet_of now) c)
  held_was new carried c f e other =
      carried.held c (ap is_some e) (not_altered c f e other)
      ∙ kept_value s kept is.right c f (sym (stays c other) ∙ e)
      ∙ ap (λ v. Some v) (sym (same c f e other).0)

  -- the values that were carried are right of each cell but these
  pub right_but : (new : List KeptTable) → IsCarried s now a kept new → IsRightBut now new cells
  right_but new carried = record {
    known = λ c other there. known_at c other (formula_at now c) refl there;
    right = λ c v other h. right_at c v other h (formula_at now c) refl;
  }
    where
      known_at : (c : CellId) → on cells c ≡ false → (o : Option (List ℕ)) → formula_at now c ≡ o → is_some (formula_at now c) ≡ true → is_some (held_at now new c) ≡ true
      known_at c other None e there = absurd (false≢true (sym (ap is_some e) ∙ there))
      known_at c other (Some f) e there = ap is_some (held_was new carried c f e other)

      right_at : (c : CellId) (v : CellValue) → on cells c ≡ false → held_at now new c ≡ Some v → (o : Option (List ℕ)) → formula_at now c ≡ o → evaluated (sheet_of now) c ≡ v
      right_at c v other h None e = absurd (none_some v (sym (held_none now new carried.of_document c e) ∙ h))
      right_at c v other h (Some f) e = some_same (evaluated (sheet_of now) c) v (sym (held_was new carried c f e other) ∙ h)

-- these cells too
pub with_more : (s : Document) (known : Beside) (a : DocAction) (old new : List CellId) → HasFoundAltered s known.graph a old → ((c : CellId) → on old c ≡ true → on new c ≡ true) → HasFoundAltered s known.graph a new
with_more s known a old new has more = record {
  found = record { found = has.found.found; keeps = has.found.keeps; named = λ c h. more c (has.found.named c h) };
  altered = altered_more s a old new has.altered more;
}
