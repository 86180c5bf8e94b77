-- Rows taken out at their indexes.
use Rattle.std.proofs.Common.{ℕ, suc, true, false, cond, not, ◌||◌, ◌&&◌, List, [], ◌∷◌, ◌+◌, get_or, length, ◌≡◌, ◌<◌, ◌≤◌, refl, sym, ap, subst, ◌∙◌, eqb, ltb, arith}
use Rattle.std.proofs.lemmas.Bool.{false≢true, eqb-true, ne_eqb, ltb-true, ltb-false}
use Rattle.std.specs.List.{remove}
use Rattle.doc_model.specs.Rows.{has, IsAscending, without}
use Rattle.doc_model.specs.Indexes.{row_index}
use Rattle.doc_model.proofs.Choices.{cond_true, cond_false, each_weaker, filter_all}
use Rattle.doc_model.proofs.RowsLaws.{number_itself, has_below, has-filter, IsAscending-filter, same_ascending}

-- where a row that is there stands
pub index_found : (q : ℕ) (rs : List ℕ) → IsAscending rs → has rs q ≡ true → (row_index q rs < length rs) × (get_or rs (row_index q rs) 0 ≡ q)
index_found q [] a e = absurd (false≢true e)
index_found q (r ∷ rs) a e =
    let next : suc (row_index q rs) ≡ row_index q rs + 1 = omega arith in
    elim (ltb r q) as (λ b. ltb r q ≡ b → (cond b (row_index q rs + 1) 0 < length (r ∷ rs)) × (get_or (r ∷ rs) (cond b (row_index q rs + 1) 0) 0 ≡ q)) [
      | true ↦ λ below.
          let lt : r < q = ltb-true r q below in
          let later = index_found q rs a.1 (ap (λ b. b || has rs q) (sym (ne_eqb r q (λ same. absurd (omega arith)))) ∙ e) in
          (omega (arith, later.0), ap (λ n. get_or (r ∷ rs) n 0) (sym next) ∙ later.1)
      | false ↦ λ above.
          let le : q ≤ r = ltb-false r q above in
          elim (eqb r q) as (λ b. eqb r q ≡ b → (0 < length (r ∷ rs)) × (r ≡ q)) [
            | true ↦ λ same. (omega arith, eqb-true r q same)
            | false ↦ λ apart. absurd (false≢true (sym (low r q rs a le apart) ∙ ap (λ b. b || has rs q) (sym apart) ∙ e))
          ] refl
    ] refl
  where
    low : (r q : ℕ) (rs : List ℕ) → IsAscending (r ∷ rs) → q ≤ r → eqb r q ≡ false → has rs q ≡ false
    low r q rs a le apart = has_below q rs (each_weaker (λ x. r < x) (λ x. q < x) (λ x lt. let h : r < x = lt in omega (arith, h)) rs a.0)

-- a row that is there, taken out of its place
pub remove_index : (q : ℕ) (rows : List ℕ) → IsAscending rows → has rows q ≡ true → remove rows (row_index q rows) ≡ without (q ∷ []) rows
remove_index q [] a e = absurd (false≢true e)
remove_index q (r ∷ rows) a e =
    let next : suc (row_index q rows) ≡ row_index q rows + 1 = omega arith in
    let rest : List ℕ = without (q ∷ []) rows in
    elim (ltb r q) as (λ b. ltb r q ≡ b → remove (r ∷ rows) (cond b (row_index q rows + 1) 0) ≡ cond (not (eqb q r || false)) (r ∷ rest) rest) [
      | true ↦ λ below.
          let lt : r < q = ltb-true r q below in
          ap (remove (r ∷ rows)) (sym next)
          ∙ ap (λ xs. r ∷ xs) (remove_index q rows a.1 (ap (λ b. b || has rows q) (sym (ne_eqb r q (λ same. absurd (omega arith)))) ∙ e))
          ∙ sym (cond_true (not (eqb q r || false)) (r ∷ rest) rest (ap (λ b. not (b || false)) (ne_eqb q r (λ same. absurd (omega arith)))))
      | false ↦ λ above.
          let found = index_found q (r ∷ rows) a e in
          let same : r ≡ q = ap (λ n. get_or (r ∷ rows) n 0) (sym (cond_false (ltb r q) (row_index q rows + 1) 0 above)) ∙ found.1 in
          sym (cond_false (not (eqb q r || false)) (r ∷ rest) rest (ap (λ b. not (b || false)) (subst (λ n. eqb q n ≡ true) (sym same) (number_itself q)))
          ∙ filter_all (λ x. not (has (q ∷ []) x)) rows (each_weaker (λ x. r < x) (λ x. not (has (q ∷ []) x) ≡ true) (λ x lt. let h : r < x = lt in ap (λ b. not (b || false)) (ne_eqb q x (λ is. absurd (omega arith)))) rows a.0))
    ] refl

-- a row that is not there, taken out
pub without_none : (q : ℕ) (rows : List ℕ) → IsAscending rows → has rows q ≡ false → rows ≡ without (q ∷ []) rows
without_none q rows a absent =
    same_ascending rows (without (q ∷ []) rows) a (IsAscending-filter (λ r. not (has (q ∷ []) r)) rows a) (λ x.
    elim (eqb q x) as (λ b. eqb q x ≡ b → has rows x ≡ (not (b || false) && has rows x)) [
      | true ↦ λ same. subst (λ n. has rows n ≡ false) (eqb-true q x same) absent
      | false ↦ λ _. refl
    ] refl
    ∙ sym (has-filter (λ r. not (has (q ∷ []) r)) rows x))
