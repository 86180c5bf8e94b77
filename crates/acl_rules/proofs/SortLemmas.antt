-- A list in order is the only one with its elements.
use Rattle.std.proofs.Common.{◌≡◌, ◌∙◌, ap, refl, sym, ℕ, zero, suc, ◌+◌, ◌<◌, ◌≤◌, arith, get_or, Bool, true, false, cond, List, [], ◌∷◌, length}
use Rattle.std.specs.Bool.{⊤}
use Rattle.std.specs.List.{AllByRecursion, sum_by}
use Rattle.std.specs.List.Sorted.{IsSortedBy, IsPermutation}
use Rattle.std.specs.Cmp.{IsStrictWeakOrder}
use Rattle.std.proofs.lemmas.List.Sorted.{sorted_far}
use Rattle.std.proofs.lemmas.List.Sums.{sum_by-cons}

module _ {X : Type 0} (lt : X → X → Bool) where
  -- nothing is below an earlier one
  abbrev pub Rises : List X → Type 0
  Rises [] = ⊤
  Rises (x ∷ xs) = AllByRecursion (λ y. lt y x ≡ false) xs × Rises xs

  each_from : (P : X → Type 0) (xs : List X) → ((k : ℕ) (d : X) → k < length xs → P (get_or xs k d)) → AllByRecursion P xs
  each_from P [] h = tt
  each_from P (x ∷ xs) h = (h 0 x (omega arith), each_from P xs (λ k d w. h (suc k) d (omega (arith, w))))

  far_rises : (xs : List X) → ((i j : ℕ) (d : X) → i ≤ j → j < length xs → lt (get_or xs j d) (get_or xs i d) ≡ false) → Rises xs
  far_rises [] h = tt
  far_rises (x ∷ xs) h = (
    each_from (λ y. lt y x ≡ false) xs (λ k d w. h 0 (suc k) d (omega arith) (omega (arith, w))),
    far_rises xs (λ i j d a b. h (suc i) (suc j) d (omega (arith, a)) (omega (arith, b))),
  )

  pub sorted_rises : IsStrictWeakOrder lt → (xs : List X) → IsSortedBy lt xs → Rises xs
  sorted_rises o xs h = far_rises xs (sorted_far lt o xs h)

  module _ (tied : (x y : X) → lt x y ≡ false → lt y x ≡ false → x ≡ y) (self : (x : X) → lt x x ≡ false) where
    -- 1 where both are one
    abbrev one_if : X → X → ℕ
    one_if x y = cond (lt x y) 0 (cond (lt y x) 0 1)

    -- where x is among the rest it is not below the first
    not_below : (x y : X) (ys : List X) → AllByRecursion (λ z. lt z y ≡ false) ys → 0 < sum_by (one_if x) ys → lt x y ≡ false
    not_below x y [] all some = absurd (omega (arith, some))
    not_below x y (z ∷ zs) all some = by (lt x z) (lt z x) refl refl (not_below x y zs all.1)
      where
        there : sum_by (one_if x) (z ∷ zs) ≡ one_if x z + sum_by (one_if x) zs
        there = sum_by-cons (one_if x) z zs

        by : (a b : Bool) → lt x z ≡ a → lt z x ≡ b → (0 < sum_by (one_if x) zs → lt x y ≡ false) → lt x y ≡ false
        by false false e f later = ap (λ (w : X). lt w y) (tied x z e f) ∙ all.0
        by true b e f later = later (let none : one_if x z ≡ 0 = ap (λ (c : Bool). cond c 0 (cond (lt z x) 0 1)) e in omega (arith, some, there, none))
        by false true e f later = later (let none : one_if x z ≡ 0 = ap (λ (c : Bool). cond c 0 (cond (lt z x) 0 1)) e ∙ ap (λ (c : Bool). cond c 0 1) f in omega (arith, some, there, none))

    self_one : (x : X) → one_if x x ≡ 1
    self_one x = ap (λ (c : Bool). cond c 0 (cond (lt x x) 0 1)) (self x) ∙ ap (λ (c : Bool). cond c 0 1) (self x)

    -- the first of one list is not below that of the other
    head_not_below : (x y : X) (xs ys : List X) → AllByRecursion (λ z. lt z y ≡ false) ys → sum_by (one_if x) (x ∷ xs) ≡ sum_by (one_if x) (y ∷ ys) → lt x y ≡ false
    head_not_below x y xs ys all same = by (lt x y) refl
      where
        left : sum_by (one_if x) (x ∷ xs) ≡ one_if x x + sum_by (one_if x) xs
        left = sum_by-cons (one_if x) x xs

        right : sum_by (one_if x) (y ∷ ys) ≡ one_if x y + sum_by (one_if x) ys
        right = sum_by-cons (one_if x) y ys

        by : (b : Bool) → lt x y ≡ b → lt x y ≡ false
        by false e = e
        by true e =
            let none : one_if x y ≡ 0 = ap (λ (c : Bool). cond c 0 (cond (lt y x) 0 1)) e in
            let one = self_one x in
            not_below x y ys all (omega (arith, left, right, same, none, one))

    -- lists in order with the same sums are one
    pub unique : (xs ys : List X) → Rises xs → Rises ys → ((f : X → ℕ) → sum_by f xs ≡ sum_by f ys) → xs ≡ ys
    unique [] [] h i same = refl
    unique [] (y ∷ ys) h i same = absurd (let e = sum_by-cons (λ (z : X). 1) y ys in let s = same (λ (z : X). 1) in omega (arith, e, s))
    unique (x ∷ xs) [] h i same = absurd (let e = sum_by-cons (λ (z : X). 1) x xs in let s = same (λ (z : X). 1) in omega (arith, e, s))
    unique (x ∷ xs) (y ∷ ys) h i same =
        let one : x ≡ y = tied x y (head_not_below x y xs ys i.0 (same (one_if x))) (head_not_below y x ys xs h.0 (sym (same (one_if y)))) in
        let rest : xs ≡ ys = unique xs ys h.1 i.1 (λ f. let a = sum_by-cons f x xs in let b = sum_by-cons f y ys in let s = same f in let k : f x ≡ f y = ap f one in omega (arith, a, b, s, k)) in
        ap (λ (z : X). z ∷ xs) one ∙ ap (λ (zs : List X). y ∷ zs) rest
