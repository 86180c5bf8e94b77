-- What a search by halves finds among rows that ascend.
use Rattle.std.proofs.Common.{ℕ, zero, suc, ◌<◌, ◌≤◌, true, false, ◌||◌, nat_eq, List, [], ◌∷◌, length, get_or, ◌≡◌, refl, sym, ap, ◌∙◌, arith, Result, Ok, Err}
use Rattle.std.proofs.lemmas.Bool.{ne_eqb, eq-eqb, or_right}
use Rattle.std.proofs.lemmas.List.Sorted.{searched}
use Rattle.std.specs.List.{AllByRecursion}
use Rattle.std.specs.List.Sorted.{IsBinarySearchResult}
use Rattle.std.specs.Ordering.{nat_cmp}
use Rattle.std.specs.Result.{is_ok, MatchResult}
use Rattle.doc_model.specs.Rows.{IsAscending, has}

least : (r : ℕ) (rows : List ℕ) (j : ℕ) → AllByRecursion (λ q. r < q) rows → j < length rows → r ≤ get_or rows j 0
least r [] j a h = absurd (omega arith)
least r (q ∷ rows) zero a h = omega (arith, a.0)
least r (q ∷ rows) (suc j) a h = least r rows j a.1 (omega arith)

in_order : (rows : List ℕ) → IsAscending rows → (i j : ℕ) → i ≤ j → j < length rows → get_or rows i 0 ≤ get_or rows j 0
in_order [] a i j le h = absurd (omega arith)
in_order (r ∷ rows) a zero zero le h = omega arith
in_order (r ∷ rows) a zero (suc j) le h = least r rows j a.0 (omega arith)
in_order (r ∷ rows) a (suc i) zero le h = absurd (omega arith)
in_order (r ∷ rows) a (suc i) (suc j) le h = in_order rows a.1 i j (omega arith) (omega arith)

has_at : (rows : List ℕ) (i x : ℕ) → i < length rows → get_or rows i 0 ≡ x → true ≡ has rows x
has_at [] i x h e = absurd (omega arith)
has_at (r ∷ rows) zero x h e = sym (ap (λ b. b || has rows x) (eq-eqb r x e))
has_at (r ∷ rows) (suc i) x h e = sym (or_right (nat_eq r x) (has rows x) (sym (has_at rows i x (omega arith) e)))

has_nowhere : (rows : List ℕ) (x : ℕ) → ((k : ℕ) → k < length rows → get_or rows k 0 ≡ x → ⊥) → false ≡ has rows x
has_nowhere [] x h = refl
has_nowhere (r ∷ rows) x h =
    has_nowhere rows x (λ k l e. h (suc k) (omega arith) e)
    ∙ sym (ap (λ b. b || has rows x) (ne_eqb r x (h 0 (omega arith))))

-- what is found by halves is what stands there
pub found_has : (rows : List ℕ) (x : ℕ) (r : Result ℕ ℕ) → IsAscending rows → IsBinarySearchResult (λ y. nat_cmp y x) rows r → is_ok r ≡ has rows x
found_has rows x r a found = by_answer r (searched rows x r found (in_order rows a))
  where
    by_answer : (r : Result ℕ ℕ) → MatchResult r (λ i. (i < length rows) × (get_or rows i 0 ≡ x)) (λ i. (i ≤ length rows) × ((k : ℕ) → k < i → get_or rows k 0 < x) × ((k : ℕ) → i ≤ k → k < length rows → x < get_or rows k 0)) → is_ok r ≡ has rows x
    by_answer (Ok i) m = has_at rows i x m.0 m.1
    by_answer (Err i) m = has_nowhere rows x (λ k l e. apart k l e (m.1 k) (m.2 k))
      where
        apart : (k : ℕ) → k < length rows → get_or rows k 0 ≡ x → (k < i → get_or rows k 0 < x) → (i ≤ k → k < length rows → x < get_or rows k 0) → ⊥
        apart k l e below above = grind (arith, below, above)
