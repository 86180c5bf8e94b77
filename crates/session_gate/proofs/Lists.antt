-- Beginnings of one list, and what lists have at a place.
use Rattle.std.proofs.Common.{◌≡◌, ℕ, zero, suc, ◌<◌, ◌≤◌, ◌⊎◌, inl, inr, ⊎_elim, List, [], ◌∷◌, ◌++◌, length, get_or, refl, ap, sym, subst, ◌∙◌, arith, append_assoc, length-append, All, Some, slice_get}
use Rattle.std.proofs.lemmas.List.{append-nil, nil_from_length}
use Rattle.std.proofs.lemmas.Option.{slice_get_within, get_or_from_slice_get, slice_get-get_or}
use mathlib.Core.List.{IsPrefix}
use mathlib.Core.Option.{some, some-injective, some-ne-none}
use lib.ListN.{get_elem?}

module _ {A : Type 0} where
  pub prefix_self : (xs : List A) → IsPrefix xs xs
  prefix_self xs = ([], append-nil xs)

  pub prefix_trans : (xs ys zs : List A) → IsPrefix xs ys → IsPrefix ys zs → IsPrefix xs zs
  prefix_trans xs ys zs p q = (p.0 ++ q.0, sym (append_assoc xs p.0 q.0) ∙ (ap (λ w. w ++ q.0) p.1 ∙ q.1))

  pub prefix_length : (xs ys : List A) → IsPrefix xs ys → length xs ≤ length ys
  prefix_length xs ys p = omega (arith, sym (ap length p.1) ∙ length-append xs p.0)

  -- of two beginnings of one list the shorter begins the longer
  pub prefix_between : (xs ys log : List A) → IsPrefix xs log → IsPrefix ys log → length xs ≤ length ys → IsPrefix xs ys
  prefix_between [] ys log p q le = (ys, refl)
  prefix_between (x ∷ xs) [] log p q le = absurd (omega arith)
  prefix_between (x ∷ xs) (y ∷ ys) log p q le =
      let e : x ∷ (xs ++ p.0) ≡ y ∷ (ys ++ q.0) = p.1 ∙ sym q.1 in
      let here : x ≡ y = cc in
      let there : xs ++ p.0 ≡ ys ++ q.0 = cc in
      let more = prefix_between xs ys (ys ++ q.0) (p.0, there) (q.0, refl) (omega arith) in
      (more.0, λ i. here i ∷ more.1 i)

  -- a beginning that is as long is the whole list
  pub prefix_whole : (xs log : List A) → IsPrefix xs log → length log ≤ length xs → xs ≡ log
  prefix_whole xs log p le =
      let none : p.0 ≡ [] = nil_from_length p.0 (omega (arith, sym (ap length p.1) ∙ length-append xs p.0)) in
      sym (append-nil xs) ∙ (ap (λ (w : List A). xs ++ w) (sym none) ∙ p.1)

  pub at_below : (l : List A) (i : ℕ) (a : A) → get_elem? l i ≡ some a → i < length l
  at_below [] i a e = absurd (some-ne-none a (sym e))
  at_below (x ∷ xs) zero a e = omega arith
  at_below (x ∷ xs) (suc i) a e = let h = at_below xs i a e in omega arith

  pub get_or_at : (l : List A) (i : ℕ) (a d : A) → get_elem? l i ≡ some a → get_or l i d ≡ a
  get_or_at [] i a d e = absurd (some-ne-none a (sym e))
  get_or_at (x ∷ xs) zero a d e = some-injective x a e
  get_or_at (x ∷ xs) (suc i) a d e = get_or_at xs i a d e

  pub nothing_at : (xs : List A) (i : ℕ) (a : A) → xs ≡ [] → get_elem? xs i ≡ some a → ⊥
  nothing_at xs i a none e = some-ne-none a (sym (subst (λ (z : List A). get_elem? z i ≡ some a) none e))

  pub snoc_at : (xs : List A) (y : A) (k : ℕ) (x : A) → get_elem? (xs ++ y ∷ []) k ≡ some x → (get_elem? xs k ≡ some x) ⊎ ((k ≡ length xs) × (y ≡ x))
  snoc_at [] y zero x e = inr (refl, some-injective y x e)
  snoc_at [] y (suc k) x e = absurd (some-ne-none x (sym e))
  snoc_at (z ∷ xs) y zero x e = inl e
  snoc_at (z ∷ xs) y (suc k) x e = ⊎_elim (λ h. inl h) (λ h. inr (ap suc h.0, h.1)) (snoc_at xs y k x e)

  pub one_at : (y : A) (k : ℕ) (x : A) → get_elem? (y ∷ []) k ≡ some x → (k ≡ 0) × (y ≡ x)
  one_at y zero x e = (refl, some-injective y x e)
  one_at y (suc k) x e = absurd (some-ne-none x (sym e))

  pub snoc_get : (xs : List A) (y : A) (k : ℕ) (x : A) → slice_get (xs ++ y ∷ []) k ≡ Some x → (slice_get xs k ≡ Some x) ⊎ ((k ≡ length xs) × (y ≡ x))
  snoc_get [] y zero x e = inr (refl, (cc))
  snoc_get [] y (suc k) x e = absurd (cc)
  snoc_get (z ∷ xs) y zero x e = inl e
  snoc_get (z ∷ xs) y (suc k) x e = ⊎_elim (λ h. inl h) (λ h. inr (ap suc h.0, h.1)) (snoc_get xs y k x e)

  pub get_longer : (xs : List A) (y : A) (k : ℕ) (x : A) → slice_get xs k ≡ Some x → slice_get (xs ++ y ∷ []) k ≡ Some x
  get_longer [] y k x e = absurd (cc)
  get_longer (z ∷ xs) y zero x e = e
  get_longer (z ∷ xs) y (suc k) x e = get_longer xs y k x e

  pub get_last : (xs : List A) (y : A) → slice_get (xs ++ y ∷ []) (length xs) ≡ Some y
  get_last [] y = refl
  get_last (z ∷ xs) y = get_last xs y

  pub all_at : (P : A → Type 0) (xs : List A) → All P xs → (i : ℕ) (y : A) → slice_get xs i ≡ Some y → P y
  all_at P xs all i y e = subst P (get_or_from_slice_get xs i y y e) (all i y (slice_get_within xs i y e))

  pub all_from : (P : A → Type 0) (xs : List A) → ((i : ℕ) (y : A) → slice_get xs i ≡ Some y → P y) → All P xs
  all_from P xs each k d near = each k (get_or xs k d) (slice_get-get_or xs k d near)
