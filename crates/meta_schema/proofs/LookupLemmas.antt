-- What stands beside rows that ascend, and lists of what is found.
use Rattle.std.proofs.Common.{ℕ, Bool, true, false, cond, List, [], ◌∷◌, ◌++◌, ◌+◌, map, filter, length, take, get_or, ◌≡◌, ◌<◌, refl, sym, ap, ◌∙◌, eqb, Option, Some, None, arith, append-nil}
use Rattle.std.proofs.lemmas.List.Elements.{filter_map-append}
use Rattle.std.proofs.lemmas.List.{take_more}
use Rattle.std.proofs.lemmas.Bool.{eq-eqb, ne_eqb}
use Rattle.std.specs.Prelude.{filter_map}
use Rattle.std.specs.List.{AllByRecursion, cons_option}
use Rattle.doc_model.specs.Grid.{beside}
use Rattle.doc_model.specs.Rows.{IsAscending}
use Rattle.doc_model.proofs.Choices.{cond_true, cond_false, each_weaker, each_both, each_unmapped}

module _ {X V : Type 0} (row : X → ℕ) (value : X → V) where
  -- beside the row of each thing stands its value
  abbrev pub Stands : List X → V → X → Type 0
  Stands xs d x = beside (λ q. eqb q (row x)) (map row xs) (map value xs) d ≡ value x

  pub each_stands : (xs : List X) (d : V) → IsAscending (map row xs) → AllByRecursion (Stands xs d) xs
  each_stands [] d a = tt
  each_stands (x ∷ xs) d a = (
    cond_true (eqb (row x) (row x)) (value x) (beside (λ q. eqb q (row x)) (map row xs) (map value xs) d) (eq-eqb (row x) (row x) refl),
    each_weaker (λ y. (row x < row y) × Stands xs d y) (Stands (x ∷ xs) d) later xs
        (each_both (λ y. row x < row y) (Stands xs d) xs (each_unmapped (λ q. row x < q) row xs a.0) (each_stands xs d a.1)),
  )
    where
      later : (y : X) → (row x < row y) × Stands xs d y → Stands (x ∷ xs) d y
      later y h =
          let below : row x < row y = h.0 in
          cond_false (eqb (row x) (row y)) (value x) (beside (λ q. eqb q (row y)) (map row xs) (map value xs) d) (ne_eqb (row x) (row y) (λ e. absurd (omega arith)))
          ∙ h.1

-- where each thing is found, all are
pub filter_map_found : {X Y Z : Type 0} (find : Y → Option Z) (f : X → Y) (g : X → Z) (xs : List X) → AllByRecursion (λ x. find (f x) ≡ Some (g x)) xs → filter_map find (map f xs) ≡ map g xs
filter_map_found find f g [] h = refl
filter_map_found find f g (x ∷ xs) h = ap (λ o. cons_option o (filter_map find (map f xs))) h.0 ∙ ap (λ zs. g x ∷ zs) (filter_map_found find f g xs h.1)

-- where the things that pass are found, those are
pub filter_map_passed : {X Y Z : Type 0} (find : Y → Option Z) (f : X → Y) (g : X → Z) (p : X → Bool) (xs : List X) → AllByRecursion (λ x. find (f x) ≡ cond (p x) (Some (g x)) None) xs → filter_map find (map f xs) ≡ map g (filter p xs)
filter_map_passed find f g p [] h = refl
filter_map_passed find f g p (x ∷ xs) h =
    ap (λ o. cons_option o (filter_map find (map f xs))) h.0
    ∙ ap (cons_option (cond (p x) (Some (g x)) None)) (filter_map_passed find f g p xs h.1)
    ∙ elim (p x) as (λ b. cons_option (cond b (Some (g x)) None) (map g (filter p xs)) ≡ map g (cond b (x ∷ filter p xs) (filter p xs))) [ true ↦ refl | false ↦ refl ]

-- ---- a loop over rows that keeps what is found

more_found : {Z : Type 0} (find : ℕ → Option Z) (rows : List ℕ) (i : ℕ) → i < length rows → filter_map find (take (i + 1) rows) ≡ filter_map find (take i rows) ++ cons_option (find (get_or rows i 0)) []
more_found find rows i h = ap (filter_map find) (take_more rows i 0 h) ∙ filter_map-append find (take i rows) (get_or rows i 0 ∷ [])

pub one_found : {Z : Type 0} (find : ℕ → Option Z) (rows : List ℕ) (i : ℕ) (zs ys : List Z) (o : Option Z) (z : Z) → i < length rows → zs ≡ filter_map find (take i rows) → o ≡ find (get_or rows i 0) → o ≡ Some z → ys ≡ zs ++ z ∷ []
    → ys ≡ filter_map find (take (i + 1) rows)
one_found find rows i zs ys o z h so_far is some new =
    new ∙ ap (λ zs. zs ++ z ∷ []) so_far
    ∙ ap (λ o. filter_map find (take i rows) ++ cons_option o []) (sym some ∙ is)
    ∙ sym (more_found find rows i h)

pub none_found : {Z : Type 0} (find : ℕ → Option Z) (rows : List ℕ) (i : ℕ) (zs ys : List Z) (o : Option Z) → i < length rows → zs ≡ filter_map find (take i rows) → o ≡ find (get_or rows i 0) → o ≡ None → ys ≡ zs
    → ys ≡ filter_map find (take (i + 1) rows)
none_found find rows i zs ys o h so_far is none same =
    same ∙ so_far
    ∙ sym (append-nil (filter_map find (take i rows)))
    ∙ ap (λ o. filter_map find (take i rows) ++ cons_option o []) (sym none ∙ is)
    ∙ sym (more_found find rows i h)
