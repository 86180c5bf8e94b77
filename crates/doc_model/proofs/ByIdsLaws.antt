-- Lists of things with ids are told by what each id finds.
use Rattle.std.proofs.Common.{ℕ, Bool, true, false, cond, not, ◌||◌, List, [], ◌∷◌, map, filter, ◌≡◌, refl, sym, ap, subst, ◌∙◌, Option, Some, None, is_some, ◌&&◌, ◌⊎◌, inl, inr, ⊎_elim, Ordering}
use Rattle.std.specs.declared.cmp.Ordering.TheVariants.{Less, Equal, Greater}
use Rattle.std.proofs.lemmas.Bool.{false≢true, true≢false, both_ways, and_parts}
use Rattle.std.proofs.lemmas.Slice.Eq.{bytes_eq-Decides}
use Rattle.std.proofs.lemmas.Cmp.{nat_list_cmp_total}
use Rattle.std.proofs.lemmas.Map.Text.{is_eq-slice_cmp}
use Rattle.std.specs.Ordering.{nat_cmp, is_lt, is_eq, ordering_reverse}
use Rattle.std.specs.Cmp.Lexicographic.{slice_cmp}
use Rattle.std.specs.List.{AllByRecursion}
use Rattle.std.specs.Str.{bytes_eq}
use Rattle.doc_model.specs.ByIds.{precedes, find_id, has_id, AreDistinct, are_distinct, IsByIds, put_by_id, by_id, without_id}
use Rattle.doc_model.proofs.Choices.{cond_true, cond_false, each_weaker, keep, not_true}

pub bytes_itself : (c : List ℕ) → bytes_eq c c ≡ true
bytes_itself c = (bytes_eq-Decides c c).1 refl

less_is : (o : Ordering) → is_lt o ≡ true → o ≡ Less
less_is Less e = refl
less_is Equal e = absurd (false≢true e)
less_is Greater e = absurd (false≢true e)

less_not_eq : (o : Ordering) → is_lt o ≡ true → is_eq o ≡ false
less_not_eq Less e = refl
less_not_eq Equal e = absurd (false≢true e)
less_not_eq Greater e = absurd (false≢true e)

pub precedes_apart : (a b : List ℕ) → precedes a b ≡ true → bytes_eq a b ≡ false
precedes_apart a b e = sym (is_eq-slice_cmp a b) ∙ less_not_eq (slice_cmp nat_cmp a b) e

pub bytes_apart : (c e : List ℕ) → bytes_eq c e ≡ false → bytes_eq e c ≡ false
bytes_apart c e n =
    elim (bytes_eq e c) as (λ b. bytes_eq e c ≡ b → b ≡ false) [
      | true ↦ λ is. absurd (both_ways (bytes_eq c e) n ((bytes_eq-Decides c e).1 (sym ((bytes_eq-Decides e c).0 is))))
      | false ↦ λ _. refl
    ] refl

pub precedes_trans : (a b c : List ℕ) → precedes a b ≡ true → precedes b c ≡ true → precedes a c ≡ true
precedes_trans a b c p q = ap is_lt (nat_list_cmp_total.trans a b c (less_is (slice_cmp nat_cmp a b) p) (less_is (slice_cmp nat_cmp b c) q))

turned : (o : Ordering) → is_lt o ≡ false → is_eq o ≡ false → is_lt (ordering_reverse o) ≡ true
turned Less l e = absurd (true≢false l)
turned Equal l e = absurd (true≢false e)
turned Greater l e = refl

pub precedes_else : (a b : List ℕ) → precedes a b ≡ false → bytes_eq a b ≡ false → precedes b a ≡ true
precedes_else a b l e = ap is_lt (nat_list_cmp_total.antisymm b a) ∙ turned (slice_cmp nat_cmp a b) l (is_eq-slice_cmp a b ∙ e)

reversed : (o : Ordering) → is_lt o ≡ true → is_lt (ordering_reverse o) ≡ false
reversed Less e = refl
reversed Equal e = absurd (false≢true e)
reversed Greater e = absurd (false≢true e)

pub precedes_back : (a b : List ℕ) → precedes a b ≡ true → precedes b a ≡ false
precedes_back a b e = ap is_lt (nat_list_cmp_total.antisymm b a) ∙ reversed (slice_cmp nat_cmp a b) e

module _ {X : Type 0} (id : X → List ℕ) where
  -- what is found has the id
  pub found_id : (c : List ℕ) (xs : List X) (x : X) → find_id id c xs ≡ Some x → id x ≡ c
  found_id c [] x e = absurd (cc)
  found_id c (y ∷ xs) x e =
      elim (bytes_eq (id y) c) as (λ b. bytes_eq (id y) c ≡ b → cond b (Some y) (find_id id c xs) ≡ Some x → id x ≡ c) [
        | true ↦ λ is e. let same : y ≡ x = cc in ap id (sym same) ∙ (bytes_eq-Decides (id y) c).0 is
        | false ↦ λ _ e. found_id c xs x e
      ] refl e

  pub found_all : (P : X → Type 0) (c : List ℕ) (xs : List X) (x : X) → AllByRecursion P xs → find_id id c xs ≡ Some x → P x
  found_all P c [] x h f = absurd (cc)
  found_all P c (y ∷ xs) x h f =
      elim (bytes_eq (id y) c) as (λ b. cond b (Some y) (find_id id c xs) ≡ Some x → P x) [
        | true ↦ λ f. let same : y ≡ x = cc in subst P same h.0
        | false ↦ λ f. found_all P c xs x h.1 f
      ] f

  -- an id before each is not found
  pub find_low : (c : List ℕ) (xs : List X) → AllByRecursion (λ y. precedes c (id y) ≡ true) xs → find_id id c xs ≡ None
  find_low c [] h = refl
  find_low c (y ∷ xs) h = cond_false (bytes_eq (id y) c) (Some y) (find_id id c xs) (bytes_apart c (id y) (precedes_apart c (id y) h.0)) ∙ find_low c xs h.1

  pub find-put_by_id : (x : X) (xs : List X) (c : List ℕ) → find_id id c (put_by_id id x xs) ≡ cond (bytes_eq (id x) c) (Some x) (find_id id c xs)
  find-put_by_id x [] c = refl
  find-put_by_id x (y ∷ xs) c =
      elim (precedes (id x) (id y)) as (λ b. find_id id c (cond b (x ∷ y ∷ xs) (cond (bytes_eq (id x) (id y)) (x ∷ xs) (y ∷ put_by_id id x xs))) ≡ cond (bytes_eq (id x) c) (Some x) (find_id id c (y ∷ xs))) [
        | true ↦ refl
        | false ↦ elim (bytes_eq (id x) (id y)) as (λ b. bytes_eq (id x) (id y) ≡ b → find_id id c (cond b (x ∷ xs) (y ∷ put_by_id id x xs)) ≡ cond (bytes_eq (id x) c) (Some x) (cond (bytes_eq (id y) c) (Some y) (find_id id c xs))) [
          | true ↦ λ is. let same : id x ≡ id y = (bytes_eq-Decides (id x) (id y)).0 is in
              elim (bytes_eq (id x) c) as (λ b. bytes_eq (id x) c ≡ b → cond b (Some x) (find_id id c xs) ≡ cond b (Some x) (cond (bytes_eq (id y) c) (Some y) (find_id id c xs))) [
                | true ↦ λ _. refl
                | false ↦ λ n. sym (cond_false (bytes_eq (id y) c) (Some y) (find_id id c xs) (ap (λ e. bytes_eq e c) (sym same) ∙ n))
              ] refl
          | false ↦ λ apart.
              ap (λ o. cond (bytes_eq (id y) c) (Some y) o) (find-put_by_id x xs c)
              ∙ elim (bytes_eq (id x) c) as (λ b. bytes_eq (id x) c ≡ b → cond (bytes_eq (id y) c) (Some y) (cond b (Some x) (find_id id c xs)) ≡ cond b (Some x) (cond (bytes_eq (id y) c) (Some y) (find_id id c xs))) [
                | true ↦ λ is. cond_false (bytes_eq (id y) c) (Some y) (Some x) (let same : id x ≡ c = (bytes_eq-Decides (id x) c).0 is in ap (bytes_eq (id y)) (sym same) ∙ bytes_apart (id x) (id y) apart)
                | false ↦ λ _. refl
              ] refl
        ] refl
      ]

  pub find-without_id : (c : List ℕ) (xs : List X) (e : List ℕ) → find_id id e (without_id id c xs) ≡ cond (bytes_eq c e) None (find_id id e xs)
  find-without_id c [] e = elim (bytes_eq c e) as (λ b. ◌≡◌ {A = Option X} None (cond b None None)) [ true ↦ refl | false ↦ refl ]
  find-without_id c (x ∷ xs) e =
      elim (bytes_eq (id x) c) as (λ b. bytes_eq (id x) c ≡ b → find_id id e (cond (not b) (x ∷ without_id id c xs) (without_id id c xs)) ≡ cond (bytes_eq c e) None (cond (bytes_eq (id x) e) (Some x) (find_id id e xs))) [
        | true ↦ λ is. find-without_id c xs e ∙ elim (bytes_eq c e) as (λ b. bytes_eq c e ≡ b → cond b None (find_id id e xs) ≡ cond b None (cond (bytes_eq (id x) e) (Some x) (find_id id e xs))) [
          | true ↦ λ _. refl
          | false ↦ λ n. sym (cond_false (bytes_eq (id x) e) (Some x) (find_id id e xs) (ap (λ d. bytes_eq d e) ((bytes_eq-Decides (id x) c).0 is) ∙ n))
        ] refl
        | false ↦ λ apart. ap (λ o. cond (bytes_eq (id x) e) (Some x) o) (find-without_id c xs e) ∙ elim (bytes_eq c e) as (λ b. bytes_eq c e ≡ b → cond (bytes_eq (id x) e) (Some x) (cond b None (find_id id e xs)) ≡ cond b None (cond (bytes_eq (id x) e) (Some x) (find_id id e xs))) [
          | true ↦ λ is. cond_false (bytes_eq (id x) e) (Some x) None (ap (bytes_eq (id x)) (sym ((bytes_eq-Decides c e).0 is)) ∙ apart)
          | false ↦ λ _. refl
        ] refl
      ] refl

  below_index : (p : List ℕ) (x : X) (xs : List X) → precedes p (id x) ≡ true → AllByRecursion (λ y. precedes p (id y) ≡ true) xs → AllByRecursion (λ y. precedes p (id y) ≡ true) (put_by_id id x xs)
  below_index p x [] l h = (l, tt)
  below_index p x (y ∷ xs) l h =
      elim (precedes (id x) (id y)) as (λ b. AllByRecursion (λ y. precedes p (id y) ≡ true) (cond b (x ∷ y ∷ xs) (cond (bytes_eq (id x) (id y)) (x ∷ xs) (y ∷ put_by_id id x xs)))) [
        | true ↦ (l, h)
        | false ↦ elim (bytes_eq (id x) (id y)) as (λ b. AllByRecursion (λ y. precedes p (id y) ≡ true) (cond b (x ∷ xs) (y ∷ put_by_id id x xs))) [ true ↦ (l, h.1) | false ↦ (h.0, below_index p x xs l h.1) ]
      ]

  pub IsByIds-put_by_id : (x : X) (xs : List X) → IsByIds id xs → IsByIds id (put_by_id id x xs)
  IsByIds-put_by_id x [] s = (tt, tt)
  IsByIds-put_by_id x (y ∷ xs) s =
      elim (precedes (id x) (id y)) as (λ b. precedes (id x) (id y) ≡ b → IsByIds id (cond b (x ∷ y ∷ xs) (cond (bytes_eq (id x) (id y)) (x ∷ xs) (y ∷ put_by_id id x xs)))) [
        | true ↦ λ l. ((l, each_weaker (λ z. precedes (id y) (id z) ≡ true) (λ z. precedes (id x) (id z) ≡ true) (λ z m. precedes_trans (id x) (id y) (id z) l m) xs s.0), s)
        | false ↦ λ l. elim (bytes_eq (id x) (id y)) as (λ b. bytes_eq (id x) (id y) ≡ b → IsByIds id (cond b (x ∷ xs) (y ∷ put_by_id id x xs))) [
          | true ↦ λ is. let same : id y ≡ id x = sym ((bytes_eq-Decides (id x) (id y)).0 is) in
              (subst (λ d. AllByRecursion (λ z. precedes d (id z) ≡ true) xs) same s.0, s.1)
          | false ↦ λ apart. (below_index (id y) x xs (precedes_else (id x) (id y) l apart) s.0, IsByIds-put_by_id x xs s.1)
        ] refl
      ] refl

  below_filter : (p : X → Bool) (c : List ℕ) (xs : List X) → AllByRecursion (λ y. precedes c (id y) ≡ true) xs → AllByRecursion (λ y. precedes c (id y) ≡ true) (filter p xs)
  below_filter p c [] h = tt
  below_filter p c (y ∷ xs) h = elim (p y) as (λ b. AllByRecursion (λ y. precedes c (id y) ≡ true) (cond b (y ∷ filter p xs) (filter p xs))) [ true ↦ (h.0, below_filter p c xs h.1) | false ↦ below_filter p c xs h.1 ]

  pub IsByIds-filter : (p : X → Bool) (xs : List X) → IsByIds id xs → IsByIds id (filter p xs)
  IsByIds-filter p [] s = tt
  IsByIds-filter p (x ∷ xs) s = elim (p x) as (λ b. IsByIds id (cond b (x ∷ filter p xs) (filter p xs))) [ true ↦ (below_filter p (id x) xs s.0, IsByIds-filter p xs s.1) | false ↦ IsByIds-filter p xs s.1 ]

  find_first : (x : X) (xs : List X) → find_id id (id x) (x ∷ xs) ≡ Some x
  find_first x xs = cond_true (bytes_eq (id x) (id x)) (Some x) (find_id id (id x) xs) (bytes_itself (id x))

  first_or_later : (x y : X) (ys : List X) → IsByIds id (y ∷ ys) → find_id id (id x) (y ∷ ys) ≡ Some x → (y ≡ x) ⊎ (precedes (id y) (id x) ≡ true)
  first_or_later x y ys s f =
      elim (bytes_eq (id y) (id x)) as (λ b. cond b (Some y) (find_id id (id x) ys) ≡ Some x → (y ≡ x) ⊎ (precedes (id y) (id x) ≡ true)) [
        | true ↦ λ f. inl (cc)
        | false ↦ λ f. inr (found_all (λ z. precedes (id y) (id z) ≡ true) (id x) ys x s.0 f)
      ] f

  first_same : (x y : X) (xs ys : List X) → IsByIds id (x ∷ xs) → IsByIds id (y ∷ ys) → ((c : List ℕ) → find_id id c (x ∷ xs) ≡ find_id id c (y ∷ ys)) → x ≡ y
  first_same x y xs ys s t h =
      ⊎_elim (λ e. sym e)
      (λ l. ⊎_elim (λ e. e) (λ m. absurd (both_ways (precedes (id x) (id y)) (precedes_back (id y) (id x) l) m))
      (first_or_later y x xs s (h (id y) ∙ find_first y ys)))
      (first_or_later x y ys t (sym (h (id x)) ∙ find_first x xs))

  rest_same : (x : X) (xs ys : List X) → IsByIds id (x ∷ xs) → IsByIds id (x ∷ ys) → ((c : List ℕ) → find_id id c (x ∷ xs) ≡ find_id id c (x ∷ ys)) → (c : List ℕ) → find_id id c xs ≡ find_id id c ys
  rest_same x xs ys s t h c =
      elim (bytes_eq (id x) c) as (λ b. bytes_eq (id x) c ≡ b → cond b (Some x) (find_id id c xs) ≡ cond b (Some x) (find_id id c ys) → find_id id c xs ≡ find_id id c ys) [
        | true ↦ λ is _. let e : id x ≡ c = (bytes_eq-Decides (id x) c).0 is in
            find_low c xs (subst (λ d. AllByRecursion (λ y. precedes d (id y) ≡ true) xs) e s.0)
            ∙ sym (find_low c ys (subst (λ d. AllByRecursion (λ y. precedes d (id y) ≡ true) ys) e t.0))
        | false ↦ λ _ e. e
      ] refl (h c)

  -- lists in order are told by what each id finds
  pub same_by_ids : (xs ys : List X) → IsByIds id xs → IsByIds id ys → ((c : List ℕ) → find_id id c xs ≡ find_id id c ys) → xs ≡ ys
  same_by_ids [] [] s t h = refl
  same_by_ids [] (y ∷ ys) s t h = let e : None ≡ Some y = h (id y) ∙ find_first y ys in absurd (cc)
  same_by_ids (x ∷ xs) [] s t h = let e : Some x ≡ None = sym (find_first x xs) ∙ h (id x) in absurd (cc)
  same_by_ids (x ∷ xs) (y ∷ ys) s t h =
      let same : x ≡ y = first_same x y xs ys s t h in
      let t' : IsByIds id (x ∷ ys) = subst (λ z. IsByIds id (z ∷ ys)) (sym same) t in
      let h' : (c : List ℕ) → find_id id c (x ∷ xs) ≡ find_id id c (x ∷ ys) = λ c. h c ∙ ap (λ z. find_id id c (z ∷ ys)) (sym same) in
      ap (λ z. z ∷ xs) same ∙ ap (λ zs. y ∷ zs) (same_by_ids xs ys s.1 t.1 (rest_same x xs ys s t' h'))

  pub has_id-find : (c : List ℕ) (xs : List X) → has_id id xs c ≡ is_some (find_id id c xs)
  has_id-find c [] = refl
  has_id-find c (x ∷ xs) = elim (bytes_eq (id x) c) as (λ b. (b || has_id id xs c) ≡ is_some (cond b (Some x) (find_id id c xs))) [ true ↦ refl | false ↦ has_id-find c xs ]

  pub find-filter : (p : X → Bool) (c : List ℕ) (xs : List X) → IsByIds id xs → find_id id c (filter p xs) ≡ keep p (find_id id c xs)
  find-filter p c [] s = refl
  find-filter p c (x ∷ xs) s =
      elim (p x) as (λ k. p x ≡ k → find_id id c (cond k (x ∷ filter p xs) (filter p xs)) ≡ keep p (find_id id c (x ∷ xs))) [
        | true ↦ λ is. elim (bytes_eq (id x) c) as (λ b. cond b (Some x) (find_id id c (filter p xs)) ≡ keep p (cond b (Some x) (find_id id c xs))) [
          | true ↦ sym (cond_true (p x) (Some x) None is)
          | false ↦ find-filter p c xs s.1
        ]
        | false ↦ λ no. elim (bytes_eq (id x) c) as (λ b. bytes_eq (id x) c ≡ b → find_id id c (filter p xs) ≡ keep p (cond b (Some x) (find_id id c xs))) [
          | true ↦ λ is. find-filter p c xs s.1
              ∙ ap (keep p) (find_low c xs (subst (λ d. AllByRecursion (λ y. precedes d (id y) ≡ true) xs) ((bytes_eq-Decides (id x) c).0 is) s.0))
              ∙ sym (cond_false (p x) (Some x) None no)
          | false ↦ λ _. find-filter p c xs s.1
        ] refl
      ] refl

  -- an id from which each differs is not found
  pub find_apart : (c : List ℕ) (xs : List X) → AllByRecursion (λ y. bytes_eq c (id y) ≡ false) xs → find_id id c xs ≡ None
  find_apart c [] h = refl
  find_apart c (x ∷ xs) h = cond_false (bytes_eq (id x) c) (Some x) (find_id id c xs) (bytes_apart c (id x) h.0) ∙ find_apart c xs h.1

  pub has_apart : (c : List ℕ) (xs : List X) → AllByRecursion (λ y. bytes_eq c (id y) ≡ false) xs → has_id id xs c ≡ false
  has_apart c xs h = has_id-find c xs ∙ ap is_some (find_apart c xs h)

  pub apart_has : (c : List ℕ) (xs : List X) → has_id id xs c ≡ false → AllByRecursion (λ y. bytes_eq c (id y) ≡ false) xs
  apart_has c [] h = tt
  apart_has c (x ∷ xs) h =
      elim (bytes_eq (id x) c) as (λ b. bytes_eq (id x) c ≡ b → (b || has_id id xs c) ≡ false → AllByRecursion (λ y. bytes_eq c (id y) ≡ false) (x ∷ xs)) [
        | true ↦ λ _ h. absurd (true≢false h)
        | false ↦ λ n h. (bytes_apart (id x) c n, apart_has c xs h)
      ] refl h

  -- an id that is not there is not found, and the other way round
  pub find_absent : (c : List ℕ) (xs : List X) → has_id id xs c ≡ false → find_id id c xs ≡ None
  find_absent c xs h = find_apart c xs (apart_has c xs h)

  pub has_found : (c : List ℕ) (xs : List X) (x : X) → find_id id c xs ≡ Some x → has_id id xs c ≡ true
  has_found c xs x f = has_id-find c xs ∙ ap is_some f

  -- what is there is found
  pub found_has : (c : List ℕ) (xs : List X) → has_id id xs c ≡ true → (x : X) × (find_id id c xs ≡ Some x)
  found_has c [] h = absurd (false≢true h)
  found_has c (x ∷ xs) h =
      elim (bytes_eq (id x) c) as (λ b. (b || has_id id xs c) ≡ true → (y : X) × (cond b (Some x) (find_id id c xs) ≡ Some y)) [
        | true ↦ λ _. (x, refl)
        | false ↦ λ h. found_has c xs h
      ] h

  pub AreDistinct-IsByIds : (xs : List X) → IsByIds id xs → AreDistinct id xs
  AreDistinct-IsByIds [] h = tt
  AreDistinct-IsByIds (x ∷ xs) h = (each_weaker (λ y. precedes (id x) (id y) ≡ true) (λ y. bytes_eq (id x) (id y) ≡ false) (λ y l. precedes_apart (id x) (id y) l) xs h.0, AreDistinct-IsByIds xs h.1)

  pub AreDistinct-are_distinct : (xs : List X) → are_distinct id xs ≡ true → AreDistinct id xs
  AreDistinct-are_distinct [] h = tt
  AreDistinct-are_distinct (x ∷ xs) h =
      let both : (not (has_id id xs (id x)) ≡ true) × (are_distinct id xs ≡ true) = and_parts (not (has_id id xs (id x))) (are_distinct id xs) h in
      (apart_has (id x) xs (not_true (has_id id xs (id x)) both.0), AreDistinct-are_distinct xs both.1)

  pub are_distinct-AreDistinct : (xs : List X) → AreDistinct id xs → are_distinct id xs ≡ true
  are_distinct-AreDistinct [] h = refl
  are_distinct-AreDistinct (x ∷ xs) h = ap (λ b. not b && are_distinct id xs) (has_apart (id x) xs h.0) ∙ are_distinct-AreDistinct xs h.1

  -- what holds of each that is found under its id holds of each element
  pub each_found : (P : X → Type 0) (xs : List X) → AreDistinct id xs → ((x : X) → find_id id (id x) xs ≡ Some x → P x) → AllByRecursion P xs
  each_found P [] s h = tt
  each_found P (x ∷ xs) s h = (
    h x (find_first x xs),
    each_found P xs s.1 (λ y e. h y (
        cond_false (bytes_eq (id x) (id y)) (Some x) (find_id id (id y) xs)
        (found_all (λ y. bytes_eq (id x) (id y) ≡ false) (id y) xs y s.0 e) ∙ e)),
  )

  -- what an id finds among those that pass a test
  pub find-filtered : (p : X → Bool) (c : List ℕ) (xs : List X) → AreDistinct id xs → find_id id c (filter p xs) ≡ keep p (find_id id c xs)
  find-filtered p c [] s = refl
  find-filtered p c (x ∷ xs) s =
      elim (p x) as (λ k. p x ≡ k → find_id id c (cond k (x ∷ filter p xs) (filter p xs)) ≡ keep p (find_id id c (x ∷ xs))) [
        | true ↦ λ is. elim (bytes_eq (id x) c) as (λ b. cond b (Some x) (find_id id c (filter p xs)) ≡ keep p (cond b (Some x) (find_id id c xs))) [
          | true ↦ sym (cond_true (p x) (Some x) None is)
          | false ↦ find-filtered p c xs s.1
        ]
        | false ↦ λ no. elim (bytes_eq (id x) c) as (λ b. bytes_eq (id x) c ≡ b → find_id id c (filter p xs) ≡ keep p (cond b (Some x) (find_id id c xs))) [
          | true ↦ λ is. find-filtered p c xs s.1
              ∙ ap (keep p) (find_apart c xs (subst (λ d. AllByRecursion (λ y. bytes_eq d (id y) ≡ false) xs) ((bytes_eq-Decides (id x) c).0 is) s.0))
              ∙ sym (cond_false (p x) (Some x) None no)
          | false ↦ λ _. find-filtered p c xs s.1
        ] refl
      ] refl

  pub has_id-put_by_id : (x : X) (xs : List X) (c : List ℕ) → has_id id (put_by_id id x xs) c ≡ (bytes_eq (id x) c || has_id id xs c)
  has_id-put_by_id x xs c =
      has_id-find c (put_by_id id x xs) ∙ ap is_some (find-put_by_id x xs c)
      ∙ elim (bytes_eq (id x) c) as (λ b. is_some (cond b (Some x) (find_id id c xs)) ≡ (b || has_id id xs c)) [ true ↦ refl | false ↦ sym (has_id-find c xs) ]

  pub has_id-without : (c : List ℕ) (xs : List X) (e : List ℕ) → has_id id (without_id id c xs) e ≡ (not (bytes_eq c e) && has_id id xs e)
  has_id-without c xs e =
      has_id-find e (without_id id c xs) ∙ ap is_some (find-without_id c xs e)
      ∙ elim (bytes_eq c e) as (λ b. is_some (cond b None (find_id id e xs)) ≡ (not b && has_id id xs e)) [ true ↦ refl | false ↦ sym (has_id-find e xs) ]

  -- a thing before all others stands first
  pub index_low : (x : X) (xs : List X) → AllByRecursion (λ y. precedes (id x) (id y) ≡ true) xs → put_by_id id x xs ≡ x ∷ xs
  index_low x [] h = refl
  index_low x (y ∷ ys) h = cond_true (precedes (id x) (id y)) (x ∷ y ∷ ys) (cond (bytes_eq (id x) (id y)) (x ∷ ys) (y ∷ put_by_id id x ys)) h.0

  -- what is in order stays as it is
  pub by_id_again : (xs : List X) → IsByIds id xs → by_id id xs ≡ xs
  by_id_again [] s = refl
  by_id_again (x ∷ xs) s = ap (put_by_id id x) (by_id_again xs s.1) ∙ index_low x xs s.0

  each_index : (P : X → Type 0) (x : X) (xs : List X) → P x → AllByRecursion P xs → AllByRecursion P (put_by_id id x xs)
  each_index P x [] p h = (p, tt)
  each_index P x (y ∷ ys) p h =
      elim (precedes (id x) (id y)) as (λ b. AllByRecursion P (cond b (x ∷ y ∷ ys) (cond (bytes_eq (id x) (id y)) (x ∷ ys) (y ∷ put_by_id id x ys)))) [
        | true ↦ (p, h)
        | false ↦ elim (bytes_eq (id x) (id y)) as (λ b. AllByRecursion P (cond b (x ∷ ys) (y ∷ put_by_id id x ys))) [ true ↦ (p, h.1) | false ↦ (h.0, each_index P x ys p h.1) ]
      ]

  pub each_by_id : (P : X → Type 0) (xs : List X) → AllByRecursion P xs → AllByRecursion P (by_id id xs)
  each_by_id P [] h = tt
  each_by_id P (x ∷ xs) h = each_index P x (by_id id xs) h.0 (each_by_id P xs h.1)

  pub IsByIds-by_id : (xs : List X) → IsByIds id (by_id id xs)
  IsByIds-by_id [] = tt
  IsByIds-by_id (x ∷ xs) = IsByIds-put_by_id x (by_id id xs) (IsByIds-by_id xs)

  pub has_id-by_id : (xs : List X) (c : List ℕ) → has_id id (by_id id xs) c ≡ has_id id xs c
  has_id-by_id [] c = refl
  has_id-by_id (x ∷ xs) c =
      has_id-find c (put_by_id id x (by_id id xs)) ∙ ap is_some (find-put_by_id x (by_id id xs) c)
      ∙ elim (bytes_eq (id x) c) as (λ b. is_some (cond b (Some x) (find_id id c (by_id id xs))) ≡ (b || has_id id xs c)) [
        | true ↦ refl
        | false ↦ sym (has_id-find c (by_id id xs)) ∙ has_id-by_id xs c
      ]

-- an id is found alike among things and among what they are made of
pub has_id-map : {X Y : Type 0} (id : Y → List ℕ) (f : X → Y) (xs : List X) (c : List ℕ) → has_id id (map f xs) c ≡ has_id (λ x. id (f x)) xs c
has_id-map id f [] c = refl
has_id-map id f (x ∷ xs) c = ap (λ b. bytes_eq (id (f x)) c || b) (has_id-map id f xs c)
