-- Tables that come and go: what is owed beside the rows that are not touched.
use Rattle.std.proofs.Common.{ℕ, Bool, true, false, ◌&&◌, ◌||◌, List, [], ◌∷◌, ◌≡◌, refl, sym, ap, ◌∙◌, subst, Some}
use Rattle.std.proofs.lemmas.Bool.{true≢false, false≢true}
use Rattle.std.proofs.lemmas.Slice.Eq.{bytes_eq-Decides}
use Rattle.std.specs.List.{list_any}
use Rattle.std.specs.Str.{bytes_eq}
use Rattle.cell_types.specs.declared.cell.CellId.{CellId}
use Rattle.cell_types.specs.declared.cell.Read.TheVariants.{Cell, Key, Rows}
use Rattle.doc_model.specs.declared.action.DocAction.{DocAction}
use Rattle.doc_model.specs.declared.column.ColDef.{ColDef}
use Rattle.doc_model.specs.Apply.{apply}
use Rattle.doc_model.specs.ByIds.{find_id}
use Rattle.doc_model.specs.Document.{Table, Document, table_id}
use Rattle.doc_model.specs.DocumentLaws.{IsWhole}
use Rattle.doc_model.specs.Grid.{Grid}
use Rattle.doc_model.specs.MetadataIds.{tables_id, columns_id}
use Rattle.doc_model.specs.Rows.{has}
use Rattle.doc_model.specs.Schema.{with_schema}
use Rattle.doc_model.specs.Touched.{is_row_touched}
use Rattle.doc_model.specs.Valid.{valid}
use Rattle.doc_model.proofs.UntouchedRows.{untouched}
use Rattle.recalc.specs.Cells.{cell_of}
use Rattle.recalc.specs.Evaluated.{column_in, formula_at, sheet_of}
use Rattle.affected_cells.specs.Affected.{is_fresh_cell}
use Rattle.affected_cells.specs.Touched.{is_touched, rows_come_or_go, table_altered, touched_by, touches, Touch}
use Rattle.affected_cells.specs.TouchedRight.{IsTouchedRight}
use Rattle.affected_cells.proofs.Alike.{column_of, rows_told, both_equal, in_schema, alike_right}
use Rattle.affected_cells.proofs.Tests.{flipped, found_once}

-- a table and its metadata rows
abbrev pub with_rows : List ℕ → List ℕ → List ℕ → List Touch
with_rows table ts cs = table_altered table ∷ rows_come_or_go tables_id ts ∷ rows_come_or_go columns_id cs ∷ []

module _ (r u : Grid ColDef) (p q : List Table) (a : DocAction) (table ts cs : List ℕ) where
  abbrev w : Document
  w = with_schema r u p

  abbrev touched_cell : CellId → Bool
  touched_cell c = bytes_eq c.table table || ((bytes_eq c.table tables_id && has ts c.row) || ((bytes_eq c.table columns_id && has cs c.row) || false))

  abbrev touched_row : List ℕ → ℕ → Bool
  touched_row n row = ((bytes_eq table n && true) || (bytes_eq tables_id n && has ts row)) || (bytes_eq columns_id n && has cs row)

  -- where a cell is not touched, its row is not
  row_free : (c : CellId) → touched_cell c ≡ false → touched_row c.table c.row ≡ false
  row_free c free =
      ap (λ x. ((x && true) || (bytes_eq tables_id c.table && has ts c.row)) || (bytes_eq columns_id c.table && has cs c.row)) (flipped table c.table)
      ∙ ap (λ x. ((bytes_eq c.table table && true) || (x && has ts c.row)) || (bytes_eq columns_id c.table && has cs c.row)) (flipped tables_id c.table)
      ∙ ap (λ x. ((bytes_eq c.table table && true) || (bytes_eq c.table tables_id && has ts c.row)) || (x && has cs c.row)) (flipped columns_id c.table)
      ∙ each (bytes_eq c.table table) (bytes_eq c.table tables_id && has ts c.row) (bytes_eq c.table columns_id && has cs c.row) free
    where
      each : (a b d : Bool) → (a || (b || (d || false))) ≡ false → (((a && true) || b) || d) ≡ false
      each true b d h = absurd (true≢false h)
      each false true d h = absurd (true≢false h)
      each false false true h = absurd (true≢false h)
      each false false false h = refl

  keys_free : (x k : List ℕ) (n : ℕ) → (bytes_eq x table || (bytes_eq x tables_id || (bytes_eq x columns_id || false))) ≡ false → touched_cell (cell_of x k n) ≡ false
  keys_free x k n h = each (bytes_eq x table) (bytes_eq x tables_id) (bytes_eq x columns_id) (has ts n) (has cs n) h
    where
      each : (a b d m o : Bool) → (a || (b || (d || false))) ≡ false → (a || ((b && m) || ((d && o) || false))) ≡ false
      each true b d m o h = absurd (true≢false h)
      each false true d m o h = absurd (true≢false h)
      each false false true m o h = absurd (true≢false h)
      each false false false m o h = refl

  -- a table whose rows are not touched is another one
  rows_apart : (x : List ℕ) → (bytes_eq x table || (bytes_eq x tables_id || (bytes_eq x columns_id || false))) ≡ false → (bytes_eq x table ≡ false) × ((x ≡ tables_id → ⊥) × (x ≡ columns_id → ⊥))
  rows_apart x h =
      let e = each (bytes_eq x table) (bytes_eq x tables_id) (bytes_eq x columns_id) h in
      (e.0, (λ is. false≢true (sym e.1 ∙ (bytes_eq-Decides x tables_id).1 is), λ is. false≢true (sym e.2 ∙ (bytes_eq-Decides x columns_id).1 is)))
    where
      each : (a b d : Bool) → (a || (b || (d || false))) ≡ false → (a ≡ false) × (b ≡ false) × (d ≡ false)
      each true b d h = absurd (true≢false h)
      each false true d h = absurd (true≢false h)
      each false false true h = absurd (true≢false h)
      each false false false h = (refl, refl, refl)

  pub record IsTableAction : Type 0 where
    pub whole : IsWhole w
    pub is_valid : valid w a ≡ true
    pub applied : apply w a ≡ with_schema r u q
    pub touch : touches w a ≡ with_rows table ts cs
    pub rows_touched : (n : List ℕ) (row : ℕ) → is_row_touched w a n row ≡ touched_row n row
    pub was : (c : CellId) → is_fresh_cell w a c ≡ false → (f : List ℕ) × (formula_at w c ≡ Some f)
    pub others : (n : List ℕ) → bytes_eq n table ≡ false → find_id table_id n q ≡ find_id table_id n p
    pub once : (d e : ColDef) (k : List ℕ) → column_of (find_id table_id table p) k ≡ Some d → column_of (find_id table_id table q) k ≡ Some e → d ≡ e

  pub table_action_right : IsTableAction → IsTouchedRight (sheet_of w) (sheet_of (apply w a)) (is_fresh_cell w a) (is_touched w a)
  table_action_right h = alike_right w (apply w a) (is_fresh_cell w a) (is_touched w a) (record {
    was = h.was;
    column = λ c d e _. subst (λ x. column_in w c.table c.column ≡ Some d → column_in x c.table c.column ≡ Some e → d ≡ e) (sym h.applied)
        (in_schema (λ o o'. column_of o c.column ≡ Some d → column_of o' c.column ≡ Some e → d ≡ e) (λ o x y. found_once d e (sym x ∙ y)) r u p q c.table
        (λ _ x y. found_once d e (sym x ∙ y)) (λ _ x y. found_once d e (sym x ∙ y)) (columns_in c.table d e c.column));
    cell = λ c free. both_equal c (find_id table_id c.table w) (find_id table_id c.table (apply w a))
        (untouched w a h.whole h.is_valid c.table c.row (h.rows_touched c.table c.row ∙ row_free c (of_touch (Cell c) free)));
    key = λ x k n free. ap (list_any (λ m. touched_by m (Cell (cell_of x k n)))) h.touch ∙ keys_free x k n (of_touch (Key x k) free);
    rows = λ x free. let e = rows_apart x (of_touch (Rows x) free) in subst (λ y. rows_told (find_id table_id x w) ≡ rows_told (find_id table_id x y)) (sym h.applied)
        (in_schema (λ o o'. rows_told o ≡ rows_told o') (λ o. refl) r u p q x (λ is. absurd (e.1.0 is)) (λ is. absurd (e.1.1 is)) (ap rows_told (sym (h.others x e.0))));
  })
    where
      of_touch : (read : _) → is_touched w a read ≡ false → list_any (λ m. touched_by m read) (with_rows table ts cs) ≡ false
      of_touch read free = sym (ap (list_any (λ m. touched_by m read)) h.touch) ∙ free

      columns_in : (n : List ℕ) (d e : ColDef) (k : List ℕ) → column_of (find_id table_id n p) k ≡ Some d → column_of (find_id table_id n q) k ≡ Some e → d ≡ e
      columns_in n d e k x y = by (bytes_eq n table) refl
        where
          by : (b : Bool) → bytes_eq n table ≡ b → d ≡ e
          by true is = let same : n ≡ table = (bytes_eq-Decides n table).0 is in h.once d e k (ap (λ m. column_of (find_id table_id m p) k) (sym same) ∙ x) (ap (λ m. column_of (find_id table_id m q) k) (sym same) ∙ y)
          by false apart = found_once d e (sym x ∙ sym (ap (λ o. column_of o k) (h.others n apart)) ∙ y)
