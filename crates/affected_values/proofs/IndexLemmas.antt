-- Indexes of data columns that an action leaves alone.
use Rattle.std.proofs.Common.{ℕ, Bool, true, false, not, ◌&&◌, ◌||◌, List, [], ◌∷◌, map, ◌≡◌, inl, inr, refl, sym, ap, ◌∙◌, Option, Some, None, Vec}
use Rattle.std.proofs.lemmas.Bool.{false≢true}
use Rattle.std.specs.Global.{Global}
use Rattle.std.specs.List.{list_any}
use Rattle.std.specs.Str.{bytes_eq}
use Rattle.cell_types.specs.declared.cell.CellId.{CellId}
use Rattle.cell_types.specs.declared.cell.Read.{Read}
use Rattle.cell_types.specs.declared.cell.Read.TheVariants.{Cell, Key, Rows}
use Rattle.cell_types.specs.declared.column_type.ColType.{ColType}
use Rattle.doc_model.specs.declared.action.DocAction.{DocAction}
use Rattle.doc_model.specs.declared.action.DocAction.TheVariants.{BulkAdd, BulkUpdate, BulkRemove, AddTable, RemoveTable, RenameTable, AddColumn, RemoveColumn, RenameColumn, ModifyColumn}
use Rattle.doc_model.specs.declared.column.CellColumn.{CellColumn}
use Rattle.doc_model.specs.Apply.{apply}
use Rattle.doc_model.specs.ByIds.{has_id}
use Rattle.doc_model.specs.Document.{Document}
use Rattle.doc_model.specs.Records.{given_id}
use Rattle.doc_model.specs.Rows.{has}
use Rattle.doc_model.specs.Valid.{valid}
use Rattle.recalc.specs.declared.indexes.ColumnIndex.{ColumnIndex}
use Rattle.recalc.specs.Cells.{cell_of}
use Rattle.recalc.specs.Evaluated.{sheet_of}
use Rattle.recalc.specs.Indexes.{AreUnder, IsInBucket, IsIndex}
use Rattle.recalc.specs.Sheet.{Sheet}
use Rattle.affected_cells.specs.Touched.{Touch, cells_written, touched_by}
use Rattle.affected_cells.specs.TouchedRight.{IsSameCell, IsTouchedRight}
use Rattle.affected_cells.proofs.KeptLaws.{update_law}
use Rattle.affected_cells.proofs.RowsLaw.{came_added, came_removed}
use Rattle.affected_cells.proofs.Tests.{flipped}
use Rattle.affected_values.specs.Indexing.{leaves_column, table_of}

-- ---- rows under buckets, in two sheets in which their cells are the same

module _ (s t : Sheet) (u c : List ℕ) (ty : ColType) (index : List (ℕ × Vec ℕ Global)) (rows : List ℕ)
    (same : (r : ℕ) → has rows r ≡ true → s.base (cell_of u c r) ≡ t.base (cell_of u c r)) where
  bucket_same : (r q : ℕ) → has rows r ≡ true → IsInBucket s u c ty r q → IsInBucket t u c ty r q
  bucket_same r q h b = record {
    value = b.value;
    told = sym (same r h) ∙ b.told;
    plain = b.plain;
    of_value = b.of_value;
  }

  pub under_same : AreUnder s u c ty index rows → AreUnder t u c ty index rows
  under_same under = record {
    each = λ r h. let b = under.each r h in (b.0, bucket_same r b.0 h b.1, b.2);
    only = under.only;
    exact = λ q r h. bucket_same r q (under.only q r h) (under.exact q r h);
  }

-- ---- an index that a change leaves alone

-- a cell without a formula in the one sheet has none in the other, and holds the same
abbrev IsSameData : Sheet → Sheet → CellId → Type 0
IsSameData s t d = s.formula d ≡ None → (t.formula d ≡ None) × (s.base d ≡ t.base d)

-- what is not touched tells the same of data in both sheets
pub record TellsSame (s t : Sheet) (touched : Read → Bool) : Type 0 where
  pub cell : (d : CellId) → touched (Cell d) ≡ false → (s.kind d.table d.column ≡ t.kind d.table d.column) × IsSameData s t d × IsSameData t s d
  pub key : (u k : List ℕ) → touched (Key u k) ≡ false → (s.kind u k ≡ t.kind u k) × ((r : ℕ) → IsSameData s t (cell_of u k r) × IsSameData t s (cell_of u k r))
  pub rows : (u : List ℕ) → touched (Rows u) ≡ false → s.rows u ≡ t.rows u

pub turned : (s t : Sheet) (touched : Read → Bool) → TellsSame s t touched → TellsSame t s touched
turned s t touched same = record {
  cell = λ d free. let x = same.cell d free in (sym x.0, x.2, x.1);
  key = λ u k free. let x = same.key u k free in (sym x.0, λ r. let y = x.1 r in (y.1, y.0));
  rows = λ u free. sym (same.rows u free);
}

module _ (s t : Sheet) (fresh : CellId → Bool) (touched : Read → Bool) (right : IsTouchedRight s t fresh touched) where
  there : (d : CellId) → IsSameCell s t fresh touched d → IsSameData s t d
  there d (inl x) e = (x.1, x.2)
  there d (inr x) e = let no : ◌≡◌ {A = Option (List ℕ)} None (Some x.0) = sym e ∙ x.1 in absurd (cc)

  back : (d : CellId) → IsSameCell s t fresh touched d → IsSameData t s d
  back d (inl x) e = (x.0, sym x.2)
  back d (inr x) e = let no : ◌≡◌ {A = Option (List ℕ)} None (Some x.0) = sym e ∙ x.2 in absurd (cc)

  pub tells_same : TellsSame s t touched
  tells_same = record {
    cell = λ d free. let x = right.cell d free in (x.0, there d x.1, back d x.1);
    key = λ u k free. let x = right.key u k free in (x.0, λ r. (there (cell_of u k r) (x.1 r), back (cell_of u k r) (x.1 r)));
    rows = right.rows;
  }

module _ (s t : Sheet) (touched : Read → Bool) (same : TellsSame s t touched) where
  index_same : (u c : List ℕ) (index : List (ℕ × Vec ℕ Global)) → touched (Key u c) ≡ false → touched (Rows u) ≡ false → IsIndex s u c index → IsIndex t u c index
  index_same u c index key rows h =
      let free = same.key u c key in
      let plain : (r : ℕ) → (t.formula (cell_of u c r) ≡ None) × (s.base (cell_of u c r) ≡ t.base (cell_of u c r)) = λ r. (free.1 r).0 (h.no_formula r) in
      record {
        ty = h.ty;
        kind = sym free.0 ∙ h.kind;
        no_formula = λ r. (plain r).0;
        rows = h.rows;
        listed = sym (same.rows u rows) ∙ h.listed;
        filled = under_same s t u c h.ty index h.rows (λ r _. (plain r).1) h.filled;
      }

-- ---- what an action on records leaves alone

-- a column that is not given is not written, and no rows are touched
not_written : (t rows u c : List ℕ) (ks : List CellColumn) → not (bytes_eq u t && has_id given_id ks c) ≡ true
    → list_any (λ (m : Touch). touched_by m (Key u c)) (map (λ (k : CellColumn). cells_written t k.id rows) ks) ≡ false
not_written t rows u c [] h = refl
not_written t rows u c (k ∷ ks) h =
    ap (λ b. (bytes_eq u t && b) || list_any (λ (m : Touch). touched_by m (Key u c)) (map (λ (l : CellColumn). cells_written t l.id rows) ks)) (flipped c k.id)
    ∙ by (bytes_eq u t) (bytes_eq k.id c) (has_id given_id ks c) h (not_written t rows u c ks)
  where
    by : (a b d : Bool) → not (a && (b || d)) ≡ true → (not (a && d) ≡ true → list_any (λ (m : Touch). touched_by m (Key u c)) (map (λ (l : CellColumn). cells_written t l.id rows) ks) ≡ false)
        → ((a && b) || list_any (λ (m : Touch). touched_by m (Key u c)) (map (λ (l : CellColumn). cells_written t l.id rows) ks)) ≡ false
    by true true d h g = absurd (false≢true h)
    by true false d h g = g h
    by false b d h g = g refl

no_rows_moved : (t rows u : List ℕ) (ks : List CellColumn) → list_any (λ (m : Touch). touched_by m (Rows u)) (map (λ (k : CellColumn). cells_written t k.id rows) ks) ≡ false
no_rows_moved t rows u [] = refl
no_rows_moved t rows u (k ∷ ks) = no_rows_moved t rows u ks

other_table : (b : Bool) → not b ≡ true → (b || false) ≡ false
other_table false h = refl
other_table true h = absurd (false≢true h)

not_both : (a b : Bool) → not a ≡ true → not (a && b) ≡ true
not_both true b h = absurd (false≢true h)
not_both false b h = refl

some_name : (u t : List ℕ) → Some u ≡ Some t → u ≡ t
some_name u t e = cc

no_name : (t : List ℕ) → None ≡ Some t → ⊥
no_name t e = cc

module _ (s : Document) where
  abbrev next : DocAction → Document
  next a = apply s a

  pub update_same : (t rows : List ℕ) (ks : List CellColumn) → valid s (BulkUpdate t rows ks) ≡ true → TellsSame (sheet_of s) (sheet_of (next (BulkUpdate t rows ks))) (λ q. list_any (λ (m : Touch). touched_by m q) (map (λ (k : CellColumn). cells_written t k.id rows) ks))
  update_same t rows ks ok = tells_same (sheet_of s) (sheet_of (next (BulkUpdate t rows ks))) _ _ (update_law s t rows ks ok)

  pub index_left : (a : DocAction) → valid s a ≡ true → (i : ColumnIndex) → leaves_column a i.table i.column ≡ true
      → IsIndex (sheet_of s) i.table i.column i.index → IsIndex (sheet_of (apply s a)) i.table i.column i.index
  index_left (BulkUpdate t rows ks) ok i h is =
      index_same (sheet_of s) (sheet_of (next (BulkUpdate t rows ks))) _ (update_same t rows ks ok) i.table i.column i.index (not_written t rows i.table i.column ks h) (no_rows_moved t rows i.table ks) is
  index_left (BulkAdd t rows ks) ok i h is =
      let free = other_table (bytes_eq i.table t) h in
      let n = sheet_of (next (BulkAdd t rows ks)) in
      index_same (sheet_of s) n _ (tells_same (sheet_of s) n _ _ (came_added s t rows ks ok)) i.table i.column i.index free free is
  index_left (BulkRemove t rows) ok i h is =
      let free = other_table (bytes_eq i.table t) h in
      let n = sheet_of (next (BulkRemove t rows)) in
      index_same (sheet_of s) n _ (tells_same (sheet_of s) n _ _ (came_removed s t rows ok)) i.table i.column i.index free free is
  index_left (AddTable t row ds) ok i h is = absurd (false≢true h)
  index_left (RemoveTable t) ok i h is = absurd (false≢true h)
  index_left (RenameTable t new) ok i h is = absurd (false≢true h)
  index_left (AddColumn t d) ok i h is = absurd (false≢true h)
  index_left (RemoveColumn t c) ok i h is = absurd (false≢true h)
  index_left (RenameColumn t c new) ok i h is = absurd (false≢true h)
  index_left (ModifyColumn t c info) ok i h is = absurd (false≢true h)

  -- an index of another table, before the action
  pub index_back : (a : DocAction) (t : List ℕ) → valid s a ≡ true → table_of a ≡ Some t → (i : ColumnIndex) → not (bytes_eq i.table t) ≡ true
      → IsIndex (sheet_of (apply s a)) i.table i.column i.index → IsIndex (sheet_of s) i.table i.column i.index
  index_back (BulkUpdate u rows ks) t ok e i h is =
      let n = sheet_of (next (BulkUpdate u rows ks)) in
      let other : not (bytes_eq i.table u && has_id given_id ks i.column) ≡ true = not_both (bytes_eq i.table u) (has_id given_id ks i.column) (ap (λ x. not (bytes_eq i.table x)) (some_name u t e) ∙ h) in
      index_same n (sheet_of s) _ (turned (sheet_of s) n _ (update_same u rows ks ok)) i.table i.column i.index (not_written u rows i.table i.column ks other) (no_rows_moved u rows i.table ks) is
  index_back (BulkAdd u rows ks) t ok e i h is =
      let free = other_table (bytes_eq i.table u) (ap (λ x. not (bytes_eq i.table x)) (some_name u t e) ∙ h) in
      let n = sheet_of (next (BulkAdd u rows ks)) in
      index_same n (sheet_of s) _ (turned (sheet_of s) n _ (tells_same (sheet_of s) n _ _ (came_added s u rows ks ok))) i.table i.column i.index free free is
  index_back (BulkRemove u rows) t ok e i h is =
      let free = other_table (bytes_eq i.table u) (ap (λ x. not (bytes_eq i.table x)) (some_name u t e) ∙ h) in
      let n = sheet_of (next (BulkRemove u rows)) in
      index_same n (sheet_of s) _ (turned (sheet_of s) n _ (tells_same (sheet_of s) n _ _ (came_removed s u rows ok))) i.table i.column i.index free free is
  index_back (AddTable u row ds) t ok e i h is = absurd (no_name t e)
  index_back (RemoveTable u) t ok e i h is = absurd (no_name t e)
  index_back (RenameTable u new) t ok e i h is = absurd (no_name t e)
  index_back (AddColumn u d) t ok e i h is = absurd (no_name t e)
  index_back (RemoveColumn u c) t ok e i h is = absurd (no_name t e)
  index_back (RenameColumn u c new) t ok e i h is = absurd (no_name t e)
  index_back (ModifyColumn u c info) t ok e i h is = absurd (no_name t e)
