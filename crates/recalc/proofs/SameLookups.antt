-- Lookups by data columns find the same rows, whatever is known of formula cells.
use Rattle.std.proofs.Common.{ℕ, true, cond, List, [], ◌∷◌, ◌&&◌, Option, Some, None, IfSome, pos, ◌≡◌, refl, sym, ap, ◌∙◌}
use Rattle.std.proofs.lemmas.Bool.{false≢true}
use Rattle.std.specs.List.{list_all}
use Rattle.std.specs.Option.{is_some}
use Rattle.cell_types.specs.declared.cell.KeyItem.{KeyItem}
use Rattle.cell_types.specs.declared.value.CellValue.TheVariants as value
use Rattle.cell_types.specs.declared.value.ErrKind.TheVariants as err
use Rattle.formula_parse.specs.Lexemes.{is_id}
use Rattle.formula_eval.specs.Lookup.{is_key_column, key_met, kept_row, matched, matched_in, meets, met_by, row_met, scan}
use Rattle.formula_eval.specs.Reading.{told_out}
use Rattle.formula_eval.specs.Run.{gives, raises, both}
use Rattle.recalc.specs.declared.indexes.ColumnIndex.{ColumnIndex}
use Rattle.recalc.specs.Cells.{cell_of}
use Rattle.recalc.specs.Indexes.{AreIndexes, index_at}
use Rattle.recalc.specs.Remembered.{AreFound}
use Rattle.recalc.specs.Sheet.{Sheet, Values, over, told_by}
use Rattle.recalc.proofs.NarrowedRows.{found_index}

module _ (s : Sheet) (t : List ℕ) (key : KeyItem) (plain : (r : ℕ) → s.formula (cell_of t key.column r) ≡ None) where
  met_plain : (k : Values) (r : ℕ) → key_met (over s k) t r key
      ≡ cond (is_id key.column) (gives (meets key (value.Int (pos r)))) (met_by key (s.kind t key.column) (told_out (cell_of t key.column r) (s.base (cell_of t key.column r))))
  met_plain k r =
      let c = cell_of t key.column r in
      ap (λ o. cond (is_id key.column) (gives (meets key (value.Int (pos r)))) (met_by key (s.kind t key.column) (told_out c (told_by o (s.base c) (k c))))) (plain r)

  scan_same : (k j : Values) (rows : List ℕ) → scan (over s k) t (key ∷ []) rows ≡ scan (over s j) t (key ∷ []) rows
  scan_same k j [] = refl
  scan_same k j (r ∷ rows) =
      ap (λ o. both (kept_row r) (both ◌&&◌ o (gives true)) (scan (over s k) t (key ∷ []) rows)) (met_plain k r ∙ sym (met_plain j r))
      ∙ ap (λ o. both (kept_row r) (row_met (over s j) t r (key ∷ [])) o) (scan_same k j rows)

  pub matched_same : (k j : Values) → matched (over s k) t (key ∷ []) ≡ matched (over s j) t (key ∷ [])
  matched_same k j = by (s.rows t)
    where
      by : (o : Option (List ℕ)) → matched_in (over s k) t (key ∷ []) o ≡ matched_in (over s j) t (key ∷ []) o
      by None = refl
      by (Some rows) = ap (λ o. cond (list_all (λ (x : KeyItem). is_key_column (over s k) t x.column) (key ∷ [])) o (raises err.Key)) (scan_same k j rows)

-- so by a column that has an index
pub found_again : (s : Sheet) (indexes : List ColumnIndex) → AreIndexes s indexes → (t : List ℕ) (key : KeyItem) → is_some (index_at indexes t key.column) ≡ true → (k : Values) (o : Option (List ℕ))
    → IfSome o (λ rows. matched (over s k) t (key ∷ []) ≡ gives rows) → AreFound s t key o
found_again s indexes a t key there k None h = tt
found_again s indexes a t key there k (Some rows) h = λ j. matched_same s t key (λ r. plain r (index_at indexes t key.column) refl there) j k ∙ h
  where
    plain : (r : ℕ) (o : Option ColumnIndex) → index_at indexes t key.column ≡ o → is_some o ≡ true → s.formula (cell_of t key.column r) ≡ None
    plain r None e some = absurd (false≢true some)
    plain r (Some x) e some = (found_index s indexes t key.column x a e).no_formula r
