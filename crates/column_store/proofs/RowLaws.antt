-- Things that have rows, in the order of these: what stands in a row, and things put into their places.
use Rattle.std.proofs.Common.{ℕ, zero, suc, Bool, true, false, cond, not, ◌||◌, ◌&&◌, List, [], ◌∷◌, ◌+◌, map, insert, ◌≡◌, ◌<◌, ◌≤◌, refl, sym, ap, subst, ◌∙◌, Option, Some, None, eqb, ltb, arith}
use Rattle.std.proofs.lemmas.Bool.{false≢true, and_parts, eqb-true, eqb-false, ne_eqb, eq-eqb, ltb-true, ltb-false}
use Rattle.std.specs.List.{AllByRecursion}
use Rattle.doc_model.specs.Records.{or_else}
use Rattle.doc_model.specs.Rows.{has, has_no_duplicates, IsAscending, insert_rows}
use Rattle.doc_model.specs.Indexes.{row_index}
use Rattle.doc_model.proofs.Choices.{cond_true, cond_false, false_from, not_true}
use Rattle.doc_model.proofs.FirstRows.{first_at, first-none}
use Rattle.doc_model.proofs.RowsLaws.{has_below, IsAscending-insert_rows, number_itself}
use Rattle.row_tables.specs.RowIndexes.{AreNew, new_indexes, put_at}
use Rattle.row_tables.proofs.AddedLaws.{map-insert, new_first, new_rest, put_rows}

none_some : {X : Type 0} (x : X) → ◌≡◌ {A = Option X} None (Some x) → ⊥
none_some x e = absurd (cc)

pub map-put : {X Y : Type 0} (f : X → Y) (indexes : List ℕ) (new xs : List X) → map f (put_at indexes new xs) ≡ put_at indexes (map f new) (map f xs)
map-put f [] new xs = refl
map-put f (p ∷ indexes) [] xs = refl
map-put f (p ∷ indexes) (x ∷ new) xs = map-put f indexes new (insert xs p x) ∙ ap (put_at indexes (map f new)) (map-insert f xs p x)

-- two tests that are not both passed may change places
turned_tests : {X : Type 0} (a b : Bool) (x y : X) (o : Option X) → (a ≡ true → b ≡ true → ⊥) → cond b (Some x) (cond a (Some y) o) ≡ cond a (Some y) (cond b (Some x) o)
turned_tests true true x y o h = absurd (h refl refl)
turned_tests true false x y o h = refl
turned_tests false true x y o h = refl
turned_tests false false x y o h = refl

module _ {X : Type 0} (row : X → ℕ) where
  pub first_self : (x : X) (xs : List X) → first_at row (row x) (x ∷ xs) ≡ Some x
  first_self x xs = cond_true (eqb (row x) (row x)) (Some x) (first_at row (row x) xs) (number_itself (row x))

  pub first_other : (x : X) (xs : List X) (r : ℕ) → eqb (row x) r ≡ false → first_at row r (x ∷ xs) ≡ first_at row r xs
  first_other x xs r apart = cond_false (eqb (row x) r) (Some x) (first_at row r xs) apart

  pub none_above : (r : ℕ) (xs : List X) → AllByRecursion (λ q. r < q) (map row xs) → first_at row r xs ≡ None
  none_above r xs h = first-none row xs r (has_below r (map row xs) h)

  -- a row below the first is not there
  none_below : (r : ℕ) (y : X) (ys : List X) → r < row y → IsAscending (map row (y ∷ ys)) → first_at row r (y ∷ ys) ≡ None
  none_below r y ys lt a =
      first_other y ys r (ne_eqb (row y) r (λ same. absurd (omega (arith, lt, same))))
      ∙ none_above r ys (each_below (map row ys) a.0)
    where
      each_below : (qs : List ℕ) → AllByRecursion (λ q. row y < q) qs → AllByRecursion (λ q. r < q) qs
      each_below [] h = tt
      each_below (q ∷ qs) h = (omega (arith, lt, h.0), each_below qs h.1)

  -- what stands in each row tells all
  pub same_rows : (xs ys : List X) → IsAscending (map row xs) → IsAscending (map row ys) → ((r : ℕ) → first_at row r xs ≡ first_at row r ys) → xs ≡ ys
  same_rows [] [] a b h = refl
  same_rows [] (y ∷ ys) a b h = absurd (none_some y (h (row y) ∙ first_self y ys))
  same_rows (x ∷ xs) [] a b h = absurd (none_some x (sym (h (row x)) ∙ first_self x xs))
  same_rows (x ∷ xs) (y ∷ ys) a b h =
      elim (eqb (row x) (row y)) as (λ t. eqb (row x) (row y) ≡ t → x ∷ xs ≡ y ∷ ys) [
        | true ↦ λ is.
            let e : row x ≡ row y = eqb-true (row x) (row y) is in
            let one : Some x ≡ Some y = sym (first_self x xs) ∙ h (row x) ∙ ap (λ r. first_at row r (y ∷ ys)) e ∙ first_self y ys in
            let same : x ≡ y = cc in
            ap (λ z. z ∷ xs) same ∙ ap (λ zs. y ∷ zs) (same_rows xs ys a.1 b.1 (rest e))
        | false ↦ λ apart. absurd (unlike (eqb-false (row x) (row y) apart))
      ] refl
    where
      rest : row x ≡ row y → (r : ℕ) → first_at row r xs ≡ first_at row r ys
      rest e r =
          elim (eqb (row x) r) as (λ t. eqb (row x) r ≡ t → first_at row r xs ≡ first_at row r ys) [
            | true ↦ λ is.
                let here : row x ≡ r = eqb-true (row x) r is in
                none_above r xs (subst (λ n. AllByRecursion (λ q. n < q) (map row xs)) here a.0)
                ∙ sym (none_above r ys (subst (λ n. AllByRecursion (λ q. n < q) (map row ys)) (sym e ∙ here) b.0))
            | false ↦ λ apart. sym (first_other x xs r apart) ∙ h r ∙ first_other y ys r (ap (λ n. eqb n r) (sym e) ∙ apart)
          ] refl

      unlike : (row x ≡ row y → ⊥) → ⊥
      unlike apart =
          elim (ltb (row x) (row y)) as (λ t. ltb (row x) (row y) ≡ t → ⊥) [
            | true ↦ λ below. none_some x (sym (none_below (row x) y ys (ltb-true (row x) (row y) below) b) ∙ sym (h (row x)) ∙ first_self x xs)
            | false ↦ λ above.
                let le : row y ≤ row x = ltb-false (row x) (row y) above in
                let lt : row y < row x = strict (row x) (row y) le apart in
                none_some y (sym (none_below (row y) x xs lt a) ∙ h (row y) ∙ first_self y ys)
          ] refl
        where
          strict : (m n : ℕ) → n ≤ m → (m ≡ n → ⊥) → n < m
          strict m n le apart =
              elim (ltb n m) as (λ t. ltb n m ≡ t → n < m) [
                | true ↦ λ below. ltb-true n m below
                | false ↦ λ above. let ge : m ≤ n = ltb-false n m above in absurd (apart (omega arith))
              ] refl

  -- ---- things put in

  pub first-insert : (xs : List X) (i : ℕ) (x : X) (r : ℕ) → has (map row xs) (row x) ≡ false → first_at row r (insert xs i x) ≡ cond (eqb (row x) r) (Some x) (first_at row r xs)
  first-insert [] zero x r absent = refl
  first-insert [] (suc i) x r absent = refl
  first-insert (y ∷ xs) zero x r absent = refl
  first-insert (y ∷ xs) (suc i) x r absent =
      let two : (eqb (row y) (row x) ≡ false) × (has (map row xs) (row x) ≡ false) = neither (eqb (row y) (row x)) (has (map row xs) (row x)) absent in
      ap (λ o. cond (eqb (row y) r) (Some y) o) (first-insert xs i x r two.1)
      ∙ turned_tests (eqb (row x) r) (eqb (row y) r) y x (first_at row r xs) (λ a b. false≢true (sym two.0 ∙ eq-eqb (row y) (row x) (eqb-true (row y) r b ∙ sym (eqb-true (row x) r a))))
    where
      neither : (a b : Bool) → (a || b) ≡ false → (a ≡ false) × (b ≡ false)
      neither true b e = absurd (cc)
      neither false b e = (refl, e)

  pub first-put : (new xs : List X) (r : ℕ) → AreNew (map row new) (map row xs) → first_at row r (put_at (new_indexes (map row new) (map row xs)) new xs) ≡ or_else (first_at row r new) (first_at row r xs)
  first-put [] xs r n = refl
  first-put (x ∷ new) xs r n =
      let i : ℕ = row_index (row x) (map row xs) in
      let more : map row (insert xs i x) ≡ insert (map row xs) i (row x) = map-insert row xs i x in
      ap (λ rows. first_at row r (put_at (new_indexes (map row new) rows) new (insert xs i x))) (sym more)
      ∙ first-put new (insert xs i x) r (subst (AreNew (map row new)) (sym more) (new_rest (row x) (map row new) (map row xs) n))
      ∙ ap (or_else (first_at row r new)) (first-insert xs i x r (new_first (row x) (map row new) (map row xs) n))
      ∙ elim (eqb (row x) r) as (λ b. eqb (row x) r ≡ b → or_else (first_at row r new) (cond b (Some x) (first_at row r xs)) ≡ or_else (cond b (Some x) (first_at row r new)) (first_at row r xs)) [
        | true ↦ λ is. ap (λ o. or_else o (Some x)) (first-none row new r (subst (λ q. has (map row new) q ≡ false) (eqb-true (row x) r is) (apart n)))
        | false ↦ λ _. refl
      ] refl
    where
      apart : AreNew (map row (x ∷ new)) (map row xs) → has (map row new) (row x) ≡ false
      apart n = not_true (has (map row new) (row x)) (and_parts (not (has (map row new) (row x))) (has_no_duplicates (map row new)) n.1).0

  pub IsAscending-put : (new xs : List X) → AreNew (map row new) (map row xs) → IsAscending (map row (put_at (new_indexes (map row new) (map row xs)) new xs))
  IsAscending-put new xs n =
      subst IsAscending (sym (map-put row (new_indexes (map row new) (map row xs)) new xs ∙ put_rows (map row new) (map row xs) n)) (IsAscending-insert_rows (map row new) (map row xs) n.0)

  -- things that stand in the rows of others and of new ones are these, put into their places
  pub put_new : (new xs ys : List X) → AreNew (map row new) (map row xs) → IsAscending (map row ys) → ((r : ℕ) → first_at row r ys ≡ or_else (first_at row r new) (first_at row r xs)) → put_at (new_indexes (map row new) (map row xs)) new xs ≡ ys
  put_new new xs ys n a h = same_rows (put_at (new_indexes (map row new) (map row xs)) new xs) ys (IsAscending-put new xs n) a (λ r. first-put new xs r n ∙ sym (h r))
