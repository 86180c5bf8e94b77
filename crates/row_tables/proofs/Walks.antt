-- One step of a walk over keys and the values beside them.
use Rattle.std.proofs.Common.{ℕ, zero, suc, Bool, true, false, ◌&&◌, nat_eq, List, [], ◌∷◌, ◌+◌, filter, take, drop, ◌++◌, get_or, length, ◌≡◌, ◌<◌, refl, sym, ap, ◌∙◌, Option, Some, None, slice_get}
use Rattle.std.proofs.lemmas.List.{drop_more, take_more, drop-drop}
use Rattle.std.proofs.lemmas.List.Elements.{filter-append}
use Rattle.std.proofs.lemmas.Bool.{eq-eqb}
use Rattle.std.proofs.lemmas.Slice.Eq.{bytes_eq-Decides}
use Rattle.std.specs.Str.{bytes_eq}
use Rattle.doc_model.specs.Grid.{beside}
use Rattle.row_tables.specs.Kept.{found_beside}
use Rattle.doc_model.proofs.Choices.{cond_true, cond_false}

-- what is left of a list whose element at i was read
pub drop_read : {X : Type 0} (xs : List X) (i : ℕ) (x : X) → i < length xs → x ≡ get_or xs i x → drop i xs ≡ x ∷ drop (i + 1) xs
drop_read xs i x l e = drop_more xs i x l ∙ ap (λ y. y ∷ drop (i + 1) xs) (sym e)

module _ {K V : Type 0} (p : K → Bool) where
  beside_none : (ks : List K) (d : V) → beside p ks [] d ≡ d
  beside_none [] d = refl
  beside_none (k ∷ ks) d = refl

  -- a key that does not pass is passed over
  skip : (k : K) (ks : List K) (vs : List V) (d : V) → p k ≡ false → beside p (k ∷ ks) vs d ≡ beside p ks (drop 1 vs) d
  skip k ks [] d e = sym (beside_none ks d)
  skip k ks (v ∷ vs) d e = cond_false (p k) v (beside p ks vs d) e

  pub beside_skip : (ks : List K) (vs : List V) (d : V) (i : ℕ) (k : K) → i < length ks → k ≡ get_or ks i k → p k ≡ false → beside p (drop (i + 1) ks) (drop (i + 1) vs) d ≡ beside p (drop i ks) (drop i vs) d
  beside_skip ks vs d i k l e no' =
      sym (ap (λ qs. beside p qs (drop i vs) d) (drop_read ks i k l e) ∙ skip k (drop (i + 1) ks) (drop i vs) d no' ∙ ap (λ ws. beside p (drop (i + 1) ks) ws d) (drop-drop 1 i vs))

  -- the same where nothing may be found
  found_none : (ks : List K) → ◌≡◌ {A = Option V} (found_beside p ks []) None
  found_none [] = refl
  found_none (k ∷ ks) = refl

  found_past : (k : K) (ks : List K) (vs : List V) → p k ≡ false → found_beside p (k ∷ ks) vs ≡ found_beside p ks (drop 1 vs)
  found_past k ks [] e = sym (found_none ks)
  found_past k ks (v ∷ vs) e = cond_false (p k) (Some v) (found_beside p ks vs) e

  found_here : (k : K) (ks : List K) (vs : List V) → p k ≡ true → found_beside p (k ∷ ks) vs ≡ slice_get vs 0
  found_here k ks [] e = refl
  found_here k ks (v ∷ vs) e = cond_true (p k) (Some v) (found_beside p ks vs) e

  read-drop : (i : ℕ) (vs : List V) → slice_get (drop i vs) 0 ≡ slice_get vs i
  read-drop zero vs = refl
  read-drop (suc i) [] = refl
  read-drop (suc i) (v ∷ vs) = read-drop i vs

  pub found_skip : (ks : List K) (vs : List V) (i : ℕ) (k : K) → i < length ks → k ≡ get_or ks i k → p k ≡ false → found_beside p (drop (i + 1) ks) (drop (i + 1) vs) ≡ found_beside p (drop i ks) (drop i vs)
  found_skip ks vs i k l e apart =
      sym (ap (λ qs. found_beside p qs (drop i vs)) (drop_read ks i k l e) ∙ found_past k (drop (i + 1) ks) (drop i vs) apart ∙ ap (found_beside p (drop (i + 1) ks)) (drop-drop 1 i vs))

  pub found_at : (ks : List K) (vs : List V) (i : ℕ) (k : K) → i < length ks → k ≡ get_or ks i k → p k ≡ true → slice_get vs i ≡ found_beside p (drop i ks) (drop i vs)
  found_at ks vs i k l e is =
      sym (ap (λ qs. found_beside p qs (drop i vs)) (drop_read ks i k l e) ∙ found_here k (drop (i + 1) ks) (drop i vs) is ∙ read-drop i vs)

-- the same of copies
pub take_step : {X : Type 0} (xs : List X) (i : ℕ) (x : X) (ys zs : List X) (y : X) → i < length xs → x ≡ get_or xs i x → ys ≡ take i xs → zs ≡ ys ++ y ∷ [] → y ≡ x → zs ≡ take (i + 1) xs
take_step xs i x ys zs y l e h p q = p ∙ ap (λ l. l ++ y ∷ []) h ∙ ap (λ v. take i xs ++ v ∷ []) (q ∙ e) ∙ sym (take_more xs i x l)

-- the same of elements that pass a test
pub filter_step : {X : Type 0} (p : X → Bool) (xs : List X) (i : ℕ) (x : X) (ys zs : List X) → i < length xs → x ≡ get_or xs i x → ys ≡ filter p (take i xs) → zs ≡ ys ++ filter p (x ∷ []) → zs ≡ filter p (take (i + 1) xs)
filter_step p xs i x ys zs l e h q =
    q ∙ ap (λ l. l ++ filter p (x ∷ [])) h ∙ sym (filter-append p (take i xs) (x ∷ []))
    ∙ ap (λ y. filter p (take i xs ++ y ∷ [])) e ∙ ap (filter p) (sym (take_more xs i x l))

-- ---- ids whose lengths are compared first

pub lengths_first : (a b : List ℕ) → (nat_eq (length a) (length b) && bytes_eq a b) ≡ bytes_eq a b
lengths_first a b = by_test (bytes_eq a b) refl
  where
    by_test : (t : Bool) → bytes_eq a b ≡ t → (nat_eq (length a) (length b) && t) ≡ t
    by_test true e = ap (λ u. u && true) (eq-eqb (length a) (length b) (ap length ((bytes_eq-Decides a b).0 e)))
    by_test false e = elim (nat_eq (length a) (length b)) as (λ u. (u && false) ≡ false) [ true ↦ refl | false ↦ refl ]

pub other_lengths : (a b : List ℕ) → (length a ≡ length b → ⊥) → bytes_eq a b ≡ false
other_lengths a b other = by_test (bytes_eq a b) refl
  where
    by_test : (t : Bool) → bytes_eq a b ≡ t → t ≡ false
    by_test true e = absurd (other (ap length ((bytes_eq-Decides a b).0 e)))
    by_test false e = refl
