-- Rows that meet keys, before and after a change of the sheet.
use Rattle.std.proofs.Common.{ℕ, pos, Bool, true, false, cond, not, nat_eq, nat_lt, ◌&&◌, ◌||◌, List, [], ◌∷◌, ◌≡◌, inl, inr, refl, sym, ap, ◌∙◌, subst, Option, Some, None}
use Rattle.std.proofs.lemmas.Bool.{eqb-true, false≢true, or_left, or_right}
use Rattle.std.specs.List.{AllByRecursion, list_all}
use Rattle.std.specs.Option.{is_some}
use Rattle.cell_types.specs.declared.cell.CellId.{CellId}
use Rattle.cell_types.specs.declared.cell.KeyItem.{KeyItem}
use Rattle.cell_types.specs.declared.value.CellValue.{CellValue}
use Rattle.cell_types.specs.declared.value.CellValue.TheVariants as value
use Rattle.cell_types.specs.declared.value.ErrKind.TheVariants as err
use Rattle.doc_model.specs.Rows.{has, insert_row, insert_rows, without}
use Rattle.doc_model.proofs.RowsLaws.{number_itself}
use Rattle.formula_parse.specs.Lexemes.{is_id}
use Rattle.formula_eval.specs.Lookup.{meets, met_by, key_met, row_met, kept_row, scan, is_key_column, matched_in, matched}
use Rattle.formula_eval.specs.Reader.{Told, Reader}
use Rattle.formula_eval.specs.Reading.{told_out}
use Rattle.formula_eval.specs.Run.{Out, gives, raises, stops, both}
use Rattle.recalc.specs.Cells.{cell_of}
use Rattle.recalc.specs.Sheet.{Sheet, Values, over, told_by}
use Rattle.affected_cells.specs.Met.{IsUnmet, IsUnmetRow, IsSameKind, IsSameKey, MetLaw}
use Rattle.affected_cells.specs.Noted.{Agree}
use Rattle.affected_cells.specs.Untouched.{IsUntouchedCell}

-- what is told of a formula cell does not depend on what it would be told without its formula
pub told_apart : (f : List ℕ) (a b : Told) (o : Option CellValue) → told_by (Some f) a o ≡ told_by (Some f) b o
told_apart f a b None = refl
told_apart f a b (Some v) = refl

-- ---- a row that meets no key

module _ (x : Reader) (u : List ℕ) (ks : List KeyItem) where
  passed : (r : ℕ) (o : Out (List ℕ)) → both (kept_row r) (gives false) o ≡ o
  passed r (gives rs) = refl
  passed r (raises e) = refl
  passed r (stops q) = refl

  -- a row that does not meet the keys is passed over
  skipped : (r : ℕ) (rs : List ℕ) → row_met x u r ks ≡ gives false → scan x u ks (r ∷ rs) ≡ scan x u ks rs
  skipped r rs h = ap (λ o. both (kept_row r) o (scan x u ks rs)) h ∙ passed r (scan x u ks rs)

  -- rows that go
  pub scan_without : (gone rs : List ℕ) → ((r : ℕ) → has rs r ≡ true → has gone r ≡ true → row_met x u r ks ≡ gives false) → scan x u ks (without gone rs) ≡ scan x u ks rs
  scan_without gone [] h = refl
  scan_without gone (r ∷ rs) h = by (has gone r) refl (scan_without gone rs (λ q among on. h q (or_right (nat_eq r q) (has rs q) among) on))
    where
      by : (b : Bool) → has gone r ≡ b → scan x u ks (without gone rs) ≡ scan x u ks rs → scan x u ks (cond (not b) (r ∷ without gone rs) (without gone rs)) ≡ scan x u ks (r ∷ rs)
      by true is later = later ∙ sym (skipped r rs (h r (or_left (nat_eq r r) (has rs r) (number_itself r)) is))
      by false is later = ap (λ o. both (kept_row r) (row_met x u r ks) o) later

  -- a row that comes
  scan_row : (r : ℕ) (rs : List ℕ) → row_met x u r ks ≡ gives false → scan x u ks (insert_row r rs) ≡ scan x u ks rs
  scan_row r [] h = skipped r [] h
  scan_row r (q ∷ rs) h =
      elim (nat_lt r q) as (λ b. scan x u ks (cond b (r ∷ q ∷ rs) (cond (nat_eq r q) (q ∷ rs) (q ∷ insert_row r rs))) ≡ scan x u ks (q ∷ rs)) [
        | true ↦ skipped r (q ∷ rs) h
        | false ↦ elim (nat_eq r q) as (λ b. scan x u ks (cond b (q ∷ rs) (q ∷ insert_row r rs)) ≡ scan x u ks (q ∷ rs)) [
          | true ↦ refl
          | false ↦ ap (λ o. both (kept_row q) (row_met x u q ks) o) (scan_row r rs h)
        ]
      ]

  -- rows that come
  pub scan_inserted : (new rs : List ℕ) → ((r : ℕ) → has new r ≡ true → row_met x u r ks ≡ gives false) → scan x u ks (insert_rows new rs) ≡ scan x u ks rs
  scan_inserted [] rs h = refl
  scan_inserted (r ∷ new) rs h =
      scan_row r (insert_rows new rs) (h r (or_left (nat_eq r r) (has new r) (number_itself r)))
      ∙ scan_inserted new rs (λ q among. h q (or_right (nat_eq r q) (has new q) among))

-- ---- a row and keys that it does not meet

module _ (s : Sheet) (u : List ℕ) (r : ℕ) (v : Values) where
  decided : (ks : List KeyItem) → AllByRecursion (IsUnmet s u r) ks → (b : Bool) × (row_met (over s v) u r ks ≡ gives b)
  decided [] h = (true, refl)
  decided (k ∷ ks) h =
      let rest = decided ks h.1 in
      (false, ap (λ o. both ◌&&◌ o (row_met (over s v) u r ks)) (h.0 v) ∙ ap (λ o. both ◌&&◌ (gives false) o) rest.1)

  pub unmet_row : (ks : List KeyItem) → IsUnmetRow s u r ks → row_met (over s v) u r ks ≡ gives false
  unmet_row [] h = absurd h
  unmet_row (k ∷ ks) h =
      let rest = decided ks h.1 in
      ap (λ o. both ◌&&◌ o (row_met (over s v) u r ks)) (h.0 v) ∙ ap (λ o. both ◌&&◌ (gives false) o) rest.1

-- ---- two sheets

module _ (s t : Sheet) (affected : CellId → Bool) (u : List ℕ) (v w : Values) (agree : Agree s t affected v w) where
  told_same : (d : CellId) → IsUntouchedCell s t affected d → (over s v).cell d ≡ (over t w).cell d
  told_same d (inl h) = ap (λ o. told_by o (s.base d) (v d)) h.0 ∙ h.2 ∙ sym (ap (λ o. told_by o (t.base d) (w d)) h.1)
  told_same d (inr h) =
      ap (λ o. told_by o (s.base d) (v d)) h.1 ∙ told_apart h.0 (s.base d) (t.base d) (v d) ∙ ap (λ o. told_by (Some h.0) (t.base d) o) (agree d h.0 h.2 h.3)
      ∙ sym (ap (λ o. told_by o (t.base d) (w d)) h.2)

  key_same : (r : ℕ) (k : KeyItem) → IsSameKind s t affected u k → IsSameKey s t affected u r k → key_met (over s v) u r k ≡ key_met (over t w) u r k
  key_same r k kind (inl is) =
      let d : CellId = cell_of u k.column r in
      ap (λ b. cond b (gives (meets k (value.Int (pos r)))) (met_by k (s.kind u k.column) (told_out d ((over s v).cell d)))) is
      ∙ sym (ap (λ b. cond b (gives (meets k (value.Int (pos r)))) (met_by k (t.kind u k.column) (told_out d ((over t w).cell d)))) is)
  key_same r k kind (inr (inl h)) =
      let d : CellId = cell_of u k.column r in
      ap (λ ty. cond (is_id k.column) (gives (meets k (value.Int (pos r)))) (met_by k ty (told_out d ((over s v).cell d)))) kind
      ∙ ap (λ o. cond (is_id k.column) (gives (meets k (value.Int (pos r)))) (met_by k (t.kind u k.column) (told_out d o))) (told_same d h)
  key_same r k kind (inr (inr h)) = h.0 v ∙ sym (h.1 w)

  row_same : (r : ℕ) (ks : List KeyItem) → AllByRecursion (IsSameKind s t affected u) ks → AllByRecursion (IsSameKey s t affected u r) ks → row_met (over s v) u r ks ≡ row_met (over t w) u r ks
  row_same r [] kinds h = refl
  row_same r (k ∷ ks) kinds h =
      ap (λ o. both ◌&&◌ o (row_met (over s v) u r ks)) (key_same r k kinds.0 h.0) ∙ ap (λ o. both ◌&&◌ (key_met (over t w) u r k) o) (row_same r ks kinds.1 h.1)

  -- rows that stay
  scan_same : (ks : List KeyItem) → AllByRecursion (IsSameKind s t affected u) ks → (rs : List ℕ) → ((r : ℕ) → has rs r ≡ true → AllByRecursion (IsSameKey s t affected u r) ks)
      → scan (over s v) u ks rs ≡ scan (over t w) u ks rs
  scan_same ks kinds [] h = refl
  scan_same ks kinds (r ∷ rs) h =
      ap (λ o. both (kept_row r) o (scan (over s v) u ks rs)) (row_same r ks kinds (h r (or_left (nat_eq r r) (has rs r) (number_itself r))))
      ∙ ap (λ o. both (kept_row r) (row_met (over t w) u r ks) o) (scan_same ks kinds rs (λ q among. h q (or_right (nat_eq r q) (has rs q) among)))

  columns_same : (ks : List KeyItem) → AllByRecursion (IsSameKind s t affected u) ks → list_all (λ k. is_key_column (over s v) u k.column) ks ≡ list_all (λ k. is_key_column (over t w) u k.column) ks
  columns_same [] h = refl
  columns_same (k ∷ ks) h = λ i. (is_id k.column || is_some (h.0 i)) && columns_same ks h.1 i

  in_same : (ks : List KeyItem) (rs qs : List ℕ) → AllByRecursion (IsSameKind s t affected u) ks → scan (over s v) u ks rs ≡ scan (over t w) u ks qs
      → matched_in (over s v) u ks (Some rs) ≡ matched_in (over t w) u ks (Some qs)
  in_same ks rs qs kinds h =
      ap (λ b. cond b (scan (over s v) u ks rs) (raises err.Key)) (columns_same ks kinds)
      ∙ ap (λ o. cond (list_all (λ k. is_key_column (over t w) u k.column) ks) o (raises err.Key)) h

  -- the same rows, in each of which the keys find the same
  pub matched_same : (ks : List KeyItem) → s.rows u ≡ t.rows u → AllByRecursion (IsSameKind s t affected u) ks → ((r : ℕ) → AllByRecursion (IsSameKey s t affected u r) ks)
      → matched (over s v) u ks ≡ matched (over t w) u ks
  matched_same ks rows kinds h = by (s.rows u) ∙ ap (matched_in (over t w) u ks) rows
    where
      by : (o : Option (List ℕ)) → matched_in (over s v) u ks o ≡ matched_in (over t w) u ks o
      by None = refl
      by (Some rs) = in_same ks rs rs kinds (scan_same ks kinds rs (λ r _. h r))

-- a row that stays is none that goes
stays_there : (gone rs : List ℕ) (r : ℕ) → has (without gone rs) r ≡ true → (has rs r ≡ true) × (has gone r ≡ false)
stays_there gone [] r h = absurd (false≢true h)
stays_there gone (q ∷ rs) r h = by (λ g. let p = stays_there gone rs r g in (or_right (nat_eq q r) (has rs r) p.0, p.1)) (has gone q) refl h
  where
    here : (has (without gone rs) r ≡ true → (has (q ∷ rs) r ≡ true) × (has gone r ≡ false)) → has gone q ≡ false → (a : Bool) → nat_eq q r ≡ a → (a || has (without gone rs) r) ≡ true → (has (q ∷ rs) r ≡ true) × (has gone r ≡ false)
    here later is true e h = (or_left (nat_eq q r) (has rs r) e, subst (λ n. has gone n ≡ false) (eqb-true q r e) is)
    here later is false e h = later h

    by : (has (without gone rs) r ≡ true → (has (q ∷ rs) r ≡ true) × (has gone r ≡ false)) → (b : Bool) → has gone q ≡ b → has (cond (not b) (q ∷ without gone rs) (without gone rs)) r ≡ true → (has (q ∷ rs) r ≡ true) × (has gone r ≡ false)
    by later true is h = later h
    by later false is h = here later is (nat_eq q r) refl h

pub met_law : MetLaw
met_law s t affected u ks h v w agree =
    ap (matched_in (over s v) u ks) h.before
    ∙ in_same s t affected u v w agree ks h.rows (insert_rows h.new (without h.gone h.rows)) h.kinds scans
    ∙ sym (ap (matched_in (over t w) u ks) h.after)
  where
    scans : scan (over s v) u ks h.rows ≡ scan (over t w) u ks (insert_rows h.new (without h.gone h.rows))
    scans =
        sym (scan_without (over s v) u ks h.gone h.rows (λ r among on. unmet_row s u r v ks (h.goes r among on)))
        ∙ scan_same s t affected u v w agree ks h.kinds (without h.gone h.rows) (λ r among. let p = stays_there h.gone h.rows r among in h.stays r p.0 p.1)
        ∙ sym (scan_inserted (over t w) u ks h.new (without h.gone h.rows) (λ r among. unmet_row t u r w ks (h.comes r among)))
