-- An update keeps tables, columns and rows.
use Rattle.std.proofs.Common.{ℕ, Bool, true, false, cond, not, ◌||◌, List, [], ◌∷◌, map, ◌≡◌, refl, sym, ap, ◌∙◌, Option, Some, None}
use Rattle.std.proofs.lemmas.Bool.{true≢false, false≢true}
use Rattle.std.specs.Option.{is_some, option_map}
use Rattle.cell_types.specs.declared.cell.CellId.{CellId}
use Rattle.cell_types.specs.declared.value.CellValue.{CellValue}
use Rattle.doc_model.specs.declared.action.DocAction.TheVariants.{BulkUpdate}
use Rattle.doc_model.specs.declared.column.CellColumn.{CellColumn}
use Rattle.doc_model.specs.declared.column.ColDef.{ColDef}
use Rattle.doc_model.specs.Apply.{apply}
use Rattle.doc_model.specs.ByIds.{find_id}
use Rattle.doc_model.specs.Column.{column_id}
use Rattle.doc_model.specs.Document.{Table, Document, table_id, on_grid, with_table}
use Rattle.doc_model.specs.Grid.{Grid}
use Rattle.doc_model.specs.Records.{update_rows}
use Rattle.doc_model.specs.Schema.{no_grid}
use Rattle.doc_model.specs.Valid.{valid}
use Rattle.doc_readers.specs.Parts.{grid_at}
use Rattle.recalc.specs.declared.kept.KeptTable.{KeptTable}
use Rattle.recalc.specs.Evaluated.{formula_at, sheet_of, value_of}
use Rattle.recalc.specs.Kept.{TableShape, IsEvaluated, blank_of, blank_table, held_at, held_table, kept_table_id, table_shape}
use Rattle.recalc.specs.Sheet.{evaluated}
use Rattle.recalc.specs.Stack.{on}
use Rattle.dep_graph.specs.declared.numbers.CellNumber.{CellNumber}
use Rattle.dep_graph.specs.Graph.{Graph}
use Rattle.affected_search.specs.Actions.{KeepsOthers}
use Rattle.affected_search.specs.Sheets.{is_found}
use Rattle.affected_cells.proofs.UpdateTouches.{after, find_updated, same_columns, same_formula, same_id, same_rows, updated}
use Rattle.affected_values.specs.SamePlaces.{HasSamePlaces, LeftRightLaw, SamePlacesLaw}
use Rattle.affected_values.specs.Taken.{IsRightBut}
use Rattle.affected_values.proofs.HeldNone.{held_none}

module _ (id : List ℕ) (rows : List ℕ) (ks : List CellColumn) where
  same_shape : (t : Table) → table_shape (blank_table (updated id rows ks t)) ≡ table_shape (blank_table t)
  same_shape t = λ i. table_shape (blank_of (same_id id rows ks t i) (same_rows id rows ks t i) (same_columns id rows ks t i))

  abbrev shape : Table → TableShape
  shape t = table_shape (blank_table t)

  same_shapes : (s : Document) → map shape (after id rows ks s) ≡ map shape s
  same_shapes [] = refl
  same_shapes (t ∷ s) = λ i. same_shape t i ∷ same_shapes s i

  rows_of : Option Table → List ℕ
  rows_of o = (elim o as (λ _. Grid ColDef) [ None ↦ no_grid | Some t ↦ t.grid ]).rows

  rows_same : (s : Document) (t : List ℕ) → (grid_at (after id rows ks s) t).rows ≡ (grid_at s t).rows
  unfolding rows_of
  rows_same s t =
      ap rows_of (find_updated id rows ks t s)
      ∙ elim (find_id table_id t s) as (λ o. rows_of (option_map (updated id rows ks) o) ≡ rows_of o) [ None ↦ refl | Some u ↦ same_rows id rows ks u ]

  places_after : (s : Document) (kept : List KeptTable) → HasSamePlaces s (after id rows ks s) kept
  places_after s kept = record {
    of_document = λ h. h ∙ sym (same_shapes s);
    back = λ h. h ∙ same_shapes s;
    held = λ c. ap (λ rs. held_table rs c.column c.row (find_id kept_table_id c.table kept)) (rows_same s c.table);
  }

pub same_places : SamePlacesLaw
same_places s t rows ks kept =
    elim (valid s (BulkUpdate t rows ks)) as (λ b. HasSamePlaces s (cond b (with_table t (on_grid (update_rows column_id rows ks)) s) s) kept) [
      | true ↦ places_after t rows ks s kept
      | false ↦ record { of_document = λ h. h; back = λ h. h; held = λ c. refl }
    ]

-- ---- values that are right still

module _ (s : Document) (id rows : List ℕ) (ks : List CellColumn) (graph : Graph) (found : List CellNumber) (cells : List CellId) (kept : List KeptTable)
    (ok : valid s (BulkUpdate id rows ks) ≡ true) (keeps : KeepsOthers s graph (BulkUpdate id rows ks) found)
    (named : (c : CellId) → is_found graph found c ≡ true → on cells c ≡ true) (known : IsEvaluated s kept) where
  abbrev next : Document
  next = apply s (BulkUpdate id rows ks)

  places : HasSamePlaces s next kept
  places = same_places s id rows ks kept

  formula_same : (c : CellId) → formula_at next c ≡ formula_at s c
  formula_same c = ap (λ b. formula_at (cond b (after id rows ks s) s) c) ok ∙ same_formula id rows ks s c

  not_found : (c : CellId) → on cells c ≡ false → is_found graph found c ≡ false
  not_found c other = by (is_found graph found c) refl
    where
      by : (b : Bool) → is_found graph found c ≡ b → b ≡ false
      by true e = absurd (true≢false (sym (named c e) ∙ other))
      by false e = refl

  value_now : (c : CellId) (f : List ℕ) → formula_at s c ≡ Some f → held_at next kept c ≡ Some (evaluated (sheet_of s) c)
  unfolding value_of
  value_now c f e = places.held c ∙ known.values c f e

  same_value : (c : CellId) (f : List ℕ) → formula_at s c ≡ Some f → on cells c ≡ false → evaluated (sheet_of next) c ≡ evaluated (sheet_of s) c
  same_value c f e other = (keeps ok c f (formula_same c ∙ e) (ap (λ o. not (is_some o) || false) e) (not_found c other)).0

  known_by : (c : CellId) (o : Option (List ℕ)) → formula_at s c ≡ o → is_some o ≡ true → is_some (held_at next kept c) ≡ true
  known_by c None e there = absurd (false≢true there)
  known_by c (Some f) e there = ap is_some (value_now c f e)

  some_same : (v w : CellValue) → Some v ≡ Some w → v ≡ w
  some_same v w e = cc

  none_some : (v : CellValue) → None ≡ Some v → ⊥
  none_some v e = cc

  right_by : (c : CellId) (v : CellValue) (o : Option (List ℕ)) → formula_at s c ≡ o → on cells c ≡ false → held_at next kept c ≡ Some v → evaluated (sheet_of next) c ≡ v
  right_by c v None e other h = absurd (none_some v (sym (held_none next kept (places.of_document known.of_document) c (formula_same c ∙ e)) ∙ h))
  right_by c v (Some f) e other h = same_value c f e other ∙ some_same (evaluated (sheet_of s) c) v (sym (value_now c f e) ∙ h)

  right_left : IsRightBut next kept cells
  right_left = record {
    known = λ c other there. known_by c (formula_at s c) refl (ap is_some (sym (formula_same c)) ∙ there);
    right = λ c v other h. right_by c v (formula_at s c) refl other h;
  }

pub left_right : LeftRightLaw
left_right s id rows ks graph found cells kept ok keeps named known = right_left s id rows ks graph found cells kept ok keeps named known
