-- Columns put in and taken out are changes of the rows that they cross to.
use Rattle.std.proofs.Common.{ℕ, zero, suc, true, false, ltb, List, [], ◌∷◌, map, get_or, insert, length, Vec, min, ◌≡◌, ◌<◌, ◌≤◌, refl, sym, ap, subst, ◌∙◌, arith}
use Rattle.std.proofs.lemmas.Bool.{ltb-true, ltb-false}
use Rattle.std.specs.List.{AllByRecursion, remove}
use Rattle.cell_types.specs.declared.value.CellValue.{CellValue}
use Rattle.column_store.specs.Crossed.{HaveHeight, all_items, crossed, first, insert_beside, rest}
use Rattle.row_tables.proofs.AddedLaws.{map-insert}
use Rattle.row_tables.proofs.TakenLaws.{map-remove, insert-remove}

module _ {X : Type 0} (P : X → Type 0) where
  pub each_insert : (xs : List X) (i : ℕ) (x : X) → AllByRecursion P xs → P x → AllByRecursion P (insert xs i x)
  each_insert [] zero x h p = (p, tt)
  each_insert [] (suc i) x h p = (p, tt)
  each_insert (y ∷ xs) zero x h p = (p, h)
  each_insert (y ∷ xs) (suc i) x h p = (h.0, each_insert xs i x h.1 p)

  pub each_remove : (xs : List X) (i : ℕ) → AllByRecursion P xs → AllByRecursion P (remove xs i)
  each_remove [] zero h = tt
  each_remove [] (suc i) h = tt
  each_remove (y ∷ xs) zero h = h.1
  each_remove (y ∷ xs) (suc i) h = (h.0, each_remove xs i h.1)

-- ---- a column put in

pub beside_crossed : (n j : ℕ) (c : List CellValue) (cols : List (List CellValue)) → length c ≡ n → crossed n (insert cols j c) ≡ insert_beside j c (crossed n cols)
beside_crossed zero j [] cols e = refl
beside_crossed zero j (v ∷ c) cols e = absurd (omega arith)
beside_crossed (suc n) j [] cols e = absurd (omega arith)
beside_crossed (suc n) j (v ∷ c) cols e =
    ap (λ row. row ∷ crossed n (map rest (insert cols j (v ∷ c)))) (map-insert first cols j (v ∷ c))
    ∙ ap (λ more. insert (map first cols) j v ∷ more) (ap (crossed n) (map-insert rest cols j (v ∷ c)) ∙ beside_crossed n j c (map rest cols) (omega arith))

-- ---- a column taken out

pub out_crossed : (n j : ℕ) (cols : List (List CellValue)) → crossed n (remove cols j) ≡ map (λ row. remove row j) (crossed n cols)
out_crossed zero j cols = refl
out_crossed (suc n) j cols =
    ap (λ row. row ∷ crossed n (map rest (remove cols j))) (map-remove first cols j)
    ∙ ap (λ more. remove (map first cols) j ∷ more) (ap (crossed n) (map-remove rest cols j) ∙ out_crossed n j (map rest cols))

-- and put in again
pub back_crossed : (n j : ℕ) (c : List CellValue) (cols : List (List CellValue)) → length c ≡ n → j < length cols → c ≡ get_or cols j c → insert_beside j c (crossed n (remove cols j)) ≡ crossed n cols
back_crossed n j c cols e l is = sym (beside_crossed n j c (remove cols j) e) ∙ ap (crossed n) (insert-remove cols j c l is)

-- ---- an index past the end is the end

past_end : {X : Type 0} (xs : List X) (i n : ℕ) (x : X) → length xs ≡ n → n ≤ i → insert xs n x ≡ insert xs i x
past_end [] zero zero x e l = refl
past_end [] (suc i) zero x e l = refl
past_end [] i (suc n) x e l = absurd (omega arith)
past_end (y ∷ xs) zero n x e l = absurd (omega arith)
past_end (y ∷ xs) (suc i) zero x e l = absurd (omega arith)
past_end (y ∷ xs) (suc i) (suc n) x e l = ap (λ ys. y ∷ ys) (past_end xs i n x (omega arith) (omega arith))

pub insert_end : {X : Type 0} (xs : List X) (i n : ℕ) (x : X) → length xs ≡ n → insert xs (min i n) x ≡ insert xs i x
insert_end xs i n x e =
    elim (ltb i n) as (λ b. ltb i n ≡ b → insert xs (min i n) x ≡ insert xs i x) [
      | true ↦ λ below.
          let lt : i < n = ltb-true i n below in
          let least : min i n ≡ i = omega arith in
          ap (λ k. insert xs k x) least
      | false ↦ λ above.
          let le : n ≤ i = ltb-false i n above in
          let least : min i n ≡ n = omega arith in
          ap (λ k. insert xs k x) least ∙ past_end xs i n x e le
    ] refl
