-- The last value that is given, found on a walk.
use Rattle.std.proofs.Common.{ℕ, zero, suc, true, false, cond, ◌||◌, ◌&&◌, not, List, [], ◌∷◌, ◌+◌, drop, get_or, length, ◌≡◌, ◌<◌, refl, sym, ap, subst, ◌∙◌, Option, Some, None, slice_get, eqb, Bor, arith}
use Rattle.std.proofs.lemmas.Bool.{false≢true, eqb-true, eq-eqb}
use Rattle.std.specs.Option.{option_copied, option_or}
use Rattle.std.specs.Str.{bytes_eq}
use Rattle.cell_types.specs.declared.value.CellValue.{CellValue}
use Rattle.doc_model.specs.declared.column.CellColumn.{CellColumn}
use Rattle.doc_model.specs.Records.{or_else, value_for, given}
use Rattle.doc_model.specs.Rows.{has, has_no_duplicates}
use Rattle.doc_model.proofs.Choices.{cond_true, cond_false, false_from}
use Rattle.doc_model.proofs.RecordsLaws.{value_for_absent}
use Rattle.row_tables.specs.RowIndexes.{given_at}
use Rattle.row_tables.proofs.Walks.{drop_read}

module _ {X : Type 0} where
  or_else-assoc : (a b c : Option X) → or_else (or_else a b) c ≡ or_else a (or_else b c)
  or_else-assoc None b c = refl
  or_else-assoc (Some x) b c = refl

  or_else_none : (o : Option X) → or_else o None ≡ o
  or_else_none None = refl
  or_else_none (Some x) = refl

  -- what references lead to
  pub copied-or : (a b : Option (Bor X)) → option_copied (option_or a b) ≡ or_else (option_copied a) (option_copied b)
  copied-or None b = refl
  copied-or (Some x) b = refl

-- one more given column
pub given_step : (ks : List CellColumn) (c : List ℕ) (index i : ℕ) (k : CellColumn) (last : Option CellValue) → i < length ks → k ≡ get_or ks i k
    → or_else (given_at (drop (i + 1) ks) c index) (or_else (cond (bytes_eq k.id c) (slice_get k.values index) None) last) ≡ or_else (given_at (drop i ks) c index) last
given_step ks c index i k last l e =
    sym (or_else-assoc (given_at (drop (i + 1) ks) c index) (cond (bytes_eq k.id c) (slice_get k.values index) None) last)
    ∙ ap (λ qs. or_else (given_at qs c index) last) (sym (drop_read ks i k l e))

-- ---- rows that stand once

once_parts : (r : ℕ) (rows : List ℕ) → has_no_duplicates (r ∷ rows) ≡ true → (has rows r ≡ false) × (has_no_duplicates rows ≡ true)
once_parts r rows e =
    elim (has rows r) as (λ b. (not b && has_no_duplicates rows) ≡ true → (b ≡ false) × (has_no_duplicates rows ≡ true)) [ true ↦ λ e. absurd (false≢true e) | false ↦ λ e. (refl, e) ] e

pub has_read : (rows : List ℕ) (i q : ℕ) → i < length rows → q ≡ get_or rows i q → has rows q ≡ true
has_read [] i q l e = absurd (omega arith)
has_read (r ∷ rows) zero q l e = ap (λ b. b || has rows q) (eq-eqb r q (sym e))
has_read (r ∷ rows) (suc i) q l e =
    elim (eqb r q) as (λ b. (b || has rows q) ≡ true) [ true ↦ refl | false ↦ has_read rows i q (omega arith) e ]

-- beside a row that stands once there is one value
value_index : (rows : List ℕ) (vs : List CellValue) (i q : ℕ) → has_no_duplicates rows ≡ true → i < length rows → q ≡ get_or rows i q → value_for rows vs q ≡ slice_get vs i
value_index [] vs i q o l e = absurd (omega arith)
value_index (r ∷ rows) [] zero q o l e = refl
value_index (r ∷ rows) (v ∷ vs) zero q o l e =
    ap (λ w. or_else w (cond (eqb r q) (Some v) None)) (value_for_absent rows vs q (subst (λ n. has rows n ≡ false) (sym e) (once_parts r rows o).0))
    ∙ cond_true (eqb r q) (Some v) None (eq-eqb r q (sym e))
value_index (r ∷ rows) [] (suc i) q o l e = refl
value_index (r ∷ rows) (v ∷ vs) (suc i) q o l e =
    let apart : eqb r q ≡ false = false_from (eqb r q) (λ same. false≢true (sym (once_parts r rows o).0 ∙ subst (λ n. has rows n ≡ true) (sym (eqb-true r q same)) (has_read rows i q (omega arith) e))) in
    ap (or_else (value_for rows vs q)) (cond_false (eqb r q) (Some v) None apart) ∙ or_else_none (value_for rows vs q)
    ∙ value_index rows vs i q (once_parts r rows o).1 (omega arith) e

-- what is given to a column in such a row
pub given_index : (rows : List ℕ) (ks : List CellColumn) (c : List ℕ) (i q : ℕ) → has_no_duplicates rows ≡ true → i < length rows → q ≡ get_or rows i q → given rows ks c q ≡ given_at ks c i
given_index rows [] c i q o l e = refl
given_index rows (k ∷ ks) c i q o l e =
    ap (λ w. or_else w (cond (bytes_eq k.id c) (value_for rows k.values q) None)) (given_index rows ks c i q o l e)
    ∙ ap (λ w. or_else (given_at ks c i) (cond (bytes_eq k.id c) w None)) (value_index rows k.values i q o l e)
