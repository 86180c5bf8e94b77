-- What is kept over rows of one table that come or go, and what leads back.
use Rattle.std.proofs.Common.{ℕ, Bool, true, false, cond, not, ◌&&◌, ◌||◌, List, ◌≡◌, refl, sym, ap, ◌∙◌, inl, inr, Option, Some, None, unwrap_or}
use Rattle.std.proofs.lemmas.Bool.{true≢false}
use Rattle.std.specs.Option.{is_some}
use Rattle.std.specs.Str.{bytes_eq}
use Rattle.cell_types.specs.declared.cell.CellId.{CellId}
use Rattle.cell_types.specs.declared.value.CellValue.{CellValue}
use Rattle.doc_model.specs.declared.action.DocAction.{DocAction}
use Rattle.doc_model.specs.declared.action.DocAction.TheVariants.{AddColumn, AddTable, BulkAdd, BulkRemove, BulkUpdate, ModifyColumn, RemoveColumn, RemoveTable, RenameColumn, RenameTable}
use Rattle.doc_model.specs.Apply.{apply}
use Rattle.doc_model.specs.Document.{Document}
use Rattle.doc_model.specs.Rows.{has}
use Rattle.doc_model.specs.Valid.{valid}
use Rattle.dep_graph.specs.declared.numbers.CellNumber.{CellNumber}
use Rattle.dep_graph.specs.Graph.{Graph}
use Rattle.recalc.specs.declared.kept.KeptTable.{KeptTable}
use Rattle.recalc.specs.Evaluated.{formula_at, sheet_of, value_of}
use Rattle.recalc.specs.Kept.{IsEvaluated, held_at}
use Rattle.recalc.specs.Sheet.{evaluated}
use Rattle.recalc.specs.Stack.{on}
use Rattle.affected_cells.specs.Affected.{is_fresh_cell, is_modified}
use Rattle.affected_cells.specs.Touched.{is_touched}
use Rattle.affected_cells.specs.TouchedRight.{IsSameCell}
use Rattle.affected_cells.proofs.RowsLaw.{came_added, came_removed}
use Rattle.affected_search.specs.Actions.{KeepsOthers}
use Rattle.affected_search.specs.Sheets.{is_found}
use Rattle.affected_values.specs.declared.relaying.LaidAside.{LaidAside}
use Rattle.affected_values.specs.Carried.{HasCellsOf, moved_rows, moved_table}
use Rattle.affected_values.specs.Relaid.{IsLaidAnew, IsMovedFrom, aside_at, is_beyond}
use Rattle.affected_values.specs.RowsOver.{LeadsOverRowsLaw, RightLaidLaw, RowsBackLaw, RowsLeftLaw}
use Rattle.affected_values.specs.Taken.{IsRightBut, taken_of}
use Rattle.affected_values.proofs.HeldNone.{held_none}
use Rattle.affected_values.proofs.LaidLemmas.{formula_stays, moved_alike, not_beyond}
use Rattle.affected_values.proofs.WaysBack.{kept_value}

some_same : {X : Type 0} (x y : X) → Some x ≡ Some y → x ≡ y
some_same x y e = cc

none_some : {X : Type 0} (x : X) → None ≡ Some x → ⊥
none_some x e = cc

-- a cell that is the same has its formula
same_formula : (s t : Document) (a : DocAction) (fresh : CellId → Bool) (c : CellId) → IsSameCell (sheet_of s) (sheet_of t) fresh (is_touched s a) c → formula_at t c ≡ formula_at s c
same_formula s t a fresh c (inl same) = same.1 ∙ sym same.0
same_formula s t a fresh c (inr same) = same.2 ∙ sym same.1

-- cells of other rows have the formulas that they had
pub formula_apart : (s : Document) (a : DocAction) (t : List ℕ) → moved_table a ≡ Some t → valid s a ≡ true
    → (c : CellId) → (bytes_eq c.table t && has (moved_rows a) c.row) ≡ false → formula_at (apply s a) c ≡ formula_at s c
formula_apart s (BulkAdd u rows ks) t h ok c other =
    same_formula s (apply s (BulkAdd u rows ks)) (BulkAdd u rows ks) (is_fresh_cell s (BulkAdd u rows ks)) c
    ((came_added s u rows ks ok).cell c (ap (λ n. (bytes_eq c.table n && has rows c.row) || false) (some_same u t h) ∙ ap (λ b. b || false) other)).1
formula_apart s (BulkRemove u rows) t h ok c other =
    same_formula s (apply s (BulkRemove u rows)) (BulkRemove u rows) (is_fresh_cell s (BulkRemove u rows)) c
    ((came_removed s u rows ok).cell c (ap (λ n. (bytes_eq c.table n && has rows c.row) || false) (some_same u t h) ∙ ap (λ b. b || false) other)).1
formula_apart s (BulkUpdate u rows ks) t h ok c other = absurd (none_some t h)
formula_apart s (AddTable u r cs) t h ok c other = absurd (none_some t h)
formula_apart s (RemoveTable u) t h ok c other = absurd (none_some t h)
formula_apart s (RenameTable u n) t h ok c other = absurd (none_some t h)
formula_apart s (AddColumn u d) t h ok c other = absurd (none_some t h)
formula_apart s (RemoveColumn u k) t h ok c other = absurd (none_some t h)
formula_apart s (RenameColumn u k n) t h ok c other = absurd (none_some t h)
formula_apart s (ModifyColumn u k i) t h ok c other = absurd (none_some t h)

pub not_modified : (a : DocAction) (t : List ℕ) → moved_table a ≡ Some t → (c : CellId) → is_modified a c ≡ false
not_modified (BulkAdd u rows ks) t h c = refl
not_modified (BulkRemove u rows) t h c = refl
not_modified (BulkUpdate u rows ks) t h c = refl
not_modified (AddTable u r cs) t h c = refl
not_modified (RemoveTable u) t h c = refl
not_modified (RenameTable u n) t h c = refl
not_modified (AddColumn u d) t h c = refl
not_modified (RemoveColumn u k) t h c = refl
not_modified (RenameColumn u k n) t h c = refl
not_modified (ModifyColumn u k i) t h c = absurd (none_some t h)

module _ (s now : Document) (id : List ℕ) (graph : Graph) (found : List CellNumber) (cells : List CellId) (old new : List KeptTable) (aside : LaidAside) (m : IsMovedFrom s now id)
    (keeps : KeepsOthers s graph m.action found) (named : (c : CellId) → is_found graph found c ≡ true → on cells c ≡ true) (has_cells : HasCellsOf now id (moved_rows m.action) cells)
    (known : IsEvaluated s old) (laid : IsLaidAnew s now id old new aside) where
  not_found : (c : CellId) → on cells c ≡ false → is_found graph found c ≡ false
  not_found c other = by (is_found graph found c) refl
    where
      by : (b : Bool) → is_found graph found c ≡ b → b ≡ false
      by true e = absurd (true≢false (sym (named c e) ∙ other))
      by false e = refl

  formula_was : (c : CellId) → is_some (formula_at now c) ≡ true → on cells c ≡ false → formula_at now c ≡ formula_at s c
  formula_was c there other = by (bytes_eq c.table id && has (moved_rows m.action) c.row) refl
    where
      by : (b : Bool) → (bytes_eq c.table id && has (moved_rows m.action) c.row) ≡ b → formula_at now c ≡ formula_at s c
      by true e = absurd (true≢false (sym (has_cells c e there) ∙ other))
      by false e = ap (λ d. formula_at d c) m.done ∙ formula_apart s m.action id m.moved m.ok c e

  -- such a cell holds what it held, which is right
  held_was : (c : CellId) → is_some (formula_at now c) ≡ true → on cells c ≡ false → held_at now new c ≡ Some (evaluated (sheet_of s) c)
  held_was c there other =
      let was : is_some (formula_at s c) ≡ true = ap is_some (sym (formula_was c there other)) ∙ there in
      laid.held c there ∙ ap (λ b. cond b None (held_at s old c)) (not_beyond s id c was) ∙ kept_value s old known c was

  same_value : (c : CellId) (f : List ℕ) → formula_at now c ≡ Some f → on cells c ≡ false → evaluated (sheet_of now) c ≡ evaluated (sheet_of s) c
  same_value c f e other =
      ap (λ d. evaluated (sheet_of d) c) m.done
      ∙ (keeps m.ok c f (ap (λ d. formula_at d c) (sym m.done) ∙ e) (ap (λ o. not (is_some o) || is_modified m.action c) (sym (formula_was c (ap is_some e) other) ∙ e) ∙ not_modified m.action id m.moved c) (not_found c other)).0

  laid_right : IsRightBut now new cells
  laid_right = record {
    known = λ c other there. ap is_some (held_was c there other);
    right = λ c v other h. by c v other h (formula_at now c) refl;
  }
    where
      by : (c : CellId) (v : CellValue) → on cells c ≡ false → held_at now new c ≡ Some v → (o : Option (List ℕ)) → formula_at now c ≡ o → evaluated (sheet_of now) c ≡ v
      by c v other h None e = absurd (none_some v (sym (held_none now new laid.of_document c e) ∙ h))
      by c v other h (Some f) e = same_value c f e other ∙ some_same (evaluated (sheet_of s) c) v (sym (held_was c (ap is_some e) other) ∙ h)

pub right_laid : RightLaidLaw
right_laid s now id graph found cells old new aside m keeps named has_cells known laid = laid_right s now id graph found cells old new aside m keeps named has_cells known laid

-- ---- the way back

module _ (s now : Document) (id : List ℕ) (old laid : List KeptTable) (aside : LaidAside) (m : IsMovedFrom s now id) (known : IsEvaluated s old) (is : IsLaidAnew s now id old laid aside) where
  -- of a row that stays
  there_now : (c : CellId) → is_some (formula_at s c) ≡ true → is_beyond now aside.table c ≡ false → is_some (formula_at now c) ≡ true
  there_now c there stays = ap is_some (sym (formula_stays id s now (moved_alike s now id m) c there (ap (λ u. is_beyond now u c) (sym is.table) ∙ stays))) ∙ there

  laid_held : (c : CellId) → is_some (formula_at s c) ≡ true → is_beyond now aside.table c ≡ false → held_at now laid c ≡ Some (evaluated (sheet_of s) c)
  laid_held c there stays =
      is.held c (there_now c there stays) ∙ ap (λ b. cond b None (held_at s old c)) (not_beyond s id c there) ∙ kept_value s old known c there

  laid_aside : (c : CellId) → is_some (formula_at s c) ≡ true → is_beyond now aside.table c ≡ true → aside_at s aside c ≡ Some (evaluated (sheet_of s) c)
  laid_aside c there goes = is.left c there (ap (λ u. is_beyond now u c) (sym is.table) ∙ goes) ∙ kept_value s old known c there

pub leads_over_rows : LeadsOverRowsLaw
leads_over_rows s now id taken old laid new aside m known is right leads = record {
  there = there_now s now id old laid aside m known is;
  stays = λ c there stays. let after = there_now s now id old laid aside m known is c there stays in
      ap (unwrap_or (taken_of taken c)) (sym (kept_value now new right c after)) ∙ leads c after ∙ laid_held s now id old laid aside m known is c there stays;
  goes = laid_aside s now id old laid aside m known is;
}

pub rows_back : RowsBackLaw
unfolding value_of
rows_back s now taken present put back aside leads right putting is = record {
  of_document = is.of_document;
  values = λ c f e. is.held c (ap is_some e) ∙ by c (ap is_some e) (is_beyond now aside.table c) refl;
}
  where
    by : (c : CellId) → is_some (formula_at s c) ≡ true → (b : Bool) → is_beyond now aside.table c ≡ b → cond b (aside_at s aside c) (held_at now put c) ≡ Some (value_of s c.table c.column c.row)
    by c there true e = leads.goes c there e
    by c there false e =
        let after = leads.there c there e in
        putting c after ∙ ap (unwrap_or (taken_of taken c)) (kept_value now present right c after) ∙ leads.stays c there e

pub rows_left : RowsLeftLaw
unfolding value_of
rows_left s now id old laid new back aside m known is same done = record {
  of_document = done.of_document;
  values = λ c f e. done.held c (ap is_some e) ∙ by c (ap is_some e) (is_beyond now aside.table c) refl;
}
  where
    by : (c : CellId) → is_some (formula_at s c) ≡ true → (b : Bool) → is_beyond now aside.table c ≡ b → cond b (aside_at s aside c) (held_at now new c) ≡ Some (value_of s c.table c.column c.row)
    by c there true e = laid_aside s now id old laid aside m known is c there e
    by c there false e = same c (there_now s now id old laid aside m known is c there e) ∙ laid_held s now id old laid aside m known is c there e
