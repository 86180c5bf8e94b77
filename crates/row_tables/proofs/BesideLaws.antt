-- What stands beside a row among ascending ones.
use Rattle.std.proofs.Common.{ℕ, zero, suc, true, false, cond, ◌||◌, List, [], ◌∷◌, ◌+◌, get_or, length, ◌≡◌, ◌<◌, refl, sym, ap, ◌∙◌, Some, unwrap_or, slice_get, subst, eqb, ltb, arith}
use Rattle.std.proofs.lemmas.Bool.{false≢true, ne_eqb, eq-eqb, ltb-true}
use Rattle.std.specs.List.{AllByRecursion}
use Rattle.doc_model.specs.Rows.{has, IsAscending}
use Rattle.doc_model.specs.Grid.{beside}
use Rattle.doc_model.proofs.Choices.{cond_true, cond_false}
use Rattle.doc_model.specs.Indexes.{row_index}
use Rattle.row_tables.proofs.WrittenLaws.{index_found}

-- what is said of each number, at an index
passed : (P : ℕ → Type 0) (rows : List ℕ) (i q : ℕ) → AllByRecursion P rows → slice_get rows i ≡ Some q → P q
passed P [] i q h e = absurd (cc)
passed P (r ∷ rows) zero q h e = subst P (let same : r ≡ q = cc in same) h.0
passed P (r ∷ rows) (suc i) q h e = passed P rows i q h.1 e

module _ {X : Type 0} where
  none_read : (i : ℕ) (d : X) → unwrap_or (slice_get {X = X} [] i) d ≡ d
  none_read i d = refl

  pub beside_index : (q : ℕ) (rows : List ℕ) (xs : List X) (d : X) → IsAscending rows → has rows q ≡ true → beside (λ r. eqb r q) rows xs d ≡ unwrap_or (slice_get xs (row_index q rows)) d
  beside_index q [] xs d a e = absurd (false≢true e)
  beside_index q (r ∷ rows) [] d a e = sym (none_read (row_index q (r ∷ rows)) d)
  beside_index q (r ∷ rows) (x ∷ xs) d a e =
      let next : suc (row_index q rows) ≡ row_index q rows + 1 = omega arith in
      elim (ltb r q) as (λ b. ltb r q ≡ b → beside (λ r. eqb r q) (r ∷ rows) (x ∷ xs) d ≡ unwrap_or (slice_get (x ∷ xs) (cond b (row_index q rows + 1) 0)) d) [
        | true ↦ λ below.
            let lt : r < q = ltb-true r q below in
            let apart : eqb r q ≡ false = ne_eqb r q (λ same. absurd (omega arith)) in
            cond_false (eqb r q) x (beside (λ r. eqb r q) rows xs d) apart
            ∙ beside_index q rows xs d a.1 (ap (λ b. b || has rows q) (sym apart) ∙ e)
            ∙ ap (λ n. unwrap_or (slice_get (x ∷ xs) n) d) next
        | false ↦ λ above.
            let found : (row_index q (r ∷ rows) < length (r ∷ rows)) × (get_or (r ∷ rows) (row_index q (r ∷ rows)) 0 ≡ q) = index_found q (r ∷ rows) a e in
            let same : r ≡ q = ap (λ n. get_or (r ∷ rows) n 0) (sym (cond_false (ltb r q) (row_index q rows + 1) 0 above)) ∙ found.1 in
            cond_true (eqb r q) x (beside (λ r. eqb r q) rows xs d) (eq-eqb r q same)
      ] refl

  -- the same at an index where the row stands
  pub beside_at : (q i : ℕ) (rows : List ℕ) (xs : List X) (d : X) → IsAscending rows → slice_get rows i ≡ Some q → beside (λ r. eqb r q) rows xs d ≡ unwrap_or (slice_get xs i) d
  beside_at q i [] xs d a e = absurd (cc)
  beside_at q i (r ∷ rows) [] d a e = sym (none_read i d)
  beside_at q zero (r ∷ rows) (x ∷ xs) d a e = cond_true (eqb r q) x (beside (λ r. eqb r q) rows xs d) (eq-eqb r q (let same : r ≡ q = cc in same))
  beside_at q (suc i) (r ∷ rows) (x ∷ xs) d a e =
      let lt : r < q = passed (λ s. r < s) rows i q a.0 e in
      cond_false (eqb r q) x (beside (λ r. eqb r q) rows xs d) (ne_eqb r q (λ same. absurd (omega arith))) ∙ beside_at q i rows xs d a.1 e
