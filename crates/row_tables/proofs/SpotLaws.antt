-- Described columns put into their places.
use Rattle.std.proofs.Common.{ℕ, suc, Bool, true, false, cond, List, [], ◌∷◌, ◌++◌, ◌+◌, insert, set, length, ◌≡◌, ◌<◌, ◌≤◌, refl, sym, ap, ◌∙◌, eqb, leb, ltb, arith}
use Rattle.std.proofs.lemmas.Bool.{false≢true, eqb-true, eqb-false, eq-eqb, ne_eqb, leb-true, leb-false, lt-ltb, le-ltb}
use Rattle.doc_model.specs.Schema.{Described, described_row, put_described, in_order}
use Rattle.doc_model.proofs.Choices.{cond_true, cond_false}
use Rattle.row_tables.specs.Spots.{described_index, put_all, stands_at}

pub spot_within : (row : ℕ) (es : List Described) → described_index row es ≤ length es
spot_within row [] = omega arith
spot_within row (e ∷ es) =
    let later : described_index row es ≤ length es = spot_within row es in
    elim (leb row (described_row e)) as (λ b. cond b 0 (described_index row es + 1) ≤ length (e ∷ es)) [ true ↦ omega arith | false ↦ omega arith ]

module _ (e : Described) where
  -- a column with a lower row is passed over
  passed_over : (x : Described) (xs : List Described) → leb e.column.row x.column.row ≡ false → put_described e (x ∷ xs) ≡ x ∷ put_described e xs
  passed_over x xs above =
      let lt : x.column.row < e.column.row = leb-false e.column.row x.column.row above in
      cond_false (ltb e.column.row x.column.row) (e ∷ x ∷ xs) (cond (eqb e.column.row x.column.row) (e ∷ xs) (x ∷ put_described e xs)) (le-ltb e.column.row x.column.row (omega arith))
      ∙ cond_false (eqb e.column.row x.column.row) (e ∷ xs) (x ∷ put_described e xs) (ne_eqb e.column.row x.column.row (λ same. absurd (omega arith)))

  next : (n : ℕ) → suc n ≡ n + 1
  next n = omega arith

  pub set_there : (es : List Described) → stands_at e.column.row (described_index e.column.row es) es ≡ true → set es (described_index e.column.row es) e ≡ put_described e es
  set_there [] h = absurd (false≢true h)
  set_there (x ∷ xs) h =
      elim (leb e.column.row x.column.row) as (λ b. leb e.column.row x.column.row ≡ b → stands_at e.column.row (cond b 0 (described_index e.column.row xs + 1)) (x ∷ xs) ≡ true → set (x ∷ xs) (cond b 0 (described_index e.column.row xs + 1)) e ≡ put_described e (x ∷ xs)) [
        | true ↦ λ _ h.
            let same : x.column.row ≡ e.column.row = eqb-true x.column.row e.column.row h in
            sym (cond_false (ltb e.column.row x.column.row) (e ∷ x ∷ xs) (cond (eqb e.column.row x.column.row) (e ∷ xs) (x ∷ put_described e xs)) (le-ltb e.column.row x.column.row (omega arith))
            ∙ cond_true (eqb e.column.row x.column.row) (e ∷ xs) (x ∷ put_described e xs) (eq-eqb e.column.row x.column.row (sym same)))
        | false ↦ λ above h.
            ap (λ n. set (x ∷ xs) n e) (sym (next (described_index e.column.row xs)))
            ∙ ap (λ ys. x ∷ ys) (set_there xs (ap (λ n. stands_at e.column.row n (x ∷ xs)) (next (described_index e.column.row xs)) ∙ h))
            ∙ sym (passed_over x xs above)
      ] refl h

  pub insert_there : (es : List Described) → stands_at e.column.row (described_index e.column.row es) es ≡ false → insert es (described_index e.column.row es) e ≡ put_described e es
  insert_there [] h = refl
  insert_there (x ∷ xs) h =
      elim (leb e.column.row x.column.row) as (λ b. leb e.column.row x.column.row ≡ b → stands_at e.column.row (cond b 0 (described_index e.column.row xs + 1)) (x ∷ xs) ≡ false → insert (x ∷ xs) (cond b 0 (described_index e.column.row xs + 1)) e ≡ put_described e (x ∷ xs)) [
        | true ↦ λ below h.
            let le : e.column.row ≤ x.column.row = leb-true e.column.row x.column.row below in
            let apart : x.column.row ≡ e.column.row → ⊥ = eqb-false x.column.row e.column.row h in
            sym (cond_true (ltb e.column.row x.column.row) (e ∷ x ∷ xs) (cond (eqb e.column.row x.column.row) (e ∷ xs) (x ∷ put_described e xs)) (lt-ltb e.column.row x.column.row (omega arith)))
        | false ↦ λ above h.
            ap (λ n. insert (x ∷ xs) n e) (sym (next (described_index e.column.row xs)))
            ∙ ap (λ ys. x ∷ ys) (insert_there xs (ap (λ n. stands_at e.column.row n (x ∷ xs)) (next (described_index e.column.row xs)) ∙ h))
            ∙ sym (passed_over x xs above)
      ] refl h

module _ (e : Described) (es : List Described) (index : ℕ) (is : index ≡ described_index e.column.row es) (b : Bool) (told : b ≡ stands_at e.column.row index es) where
  pub set_at : b ≡ true → set es index e ≡ put_described e es
  set_at h = ap (λ n. set es n e) is ∙ set_there e es (ap (λ n. stands_at e.column.row n es) (sym is) ∙ sym told ∙ h)

  pub insert_at : b ≡ false → insert es index e ≡ put_described e es
  insert_at h = ap (λ n. insert es n e) is ∙ insert_there e es (ap (λ n. stands_at e.column.row n es) (sym is) ∙ sym told ∙ h)

-- ---- put in order from the last to the first

pub put_all-in_order : (es later : List Described) → put_all es (in_order later) ≡ in_order (es ++ later)
put_all-in_order [] later = refl
put_all-in_order (e ∷ es) later = ap (put_described e) (put_all-in_order es later)
