-- Things that are put in their places by id, one after another.
use Rattle.std.proofs.Common.{ℕ, zero, suc, ◌+◌, ◌≤◌, Bool, true, false, cond, not, ◌||◌, ltb, unwrap_or, List, [], ◌∷◌, ◌++◌, filter, take, length, slice_get, ◌≡◌, refl, sym, ap, subst, ◌∙◌, Option, Some, None, arith}
use Rattle.std.proofs.lemmas.Bool.{ltb-false, true≢false}
use Rattle.std.proofs.lemmas.List.{take_more}
use Rattle.std.proofs.lemmas.Option.{slice_get_within, get_or_from_slice_get}
use Rattle.std.proofs.lemmas.Slice.Eq.{bytes_eq-Decides}
use Rattle.std.proofs.lemmas.List.Sums.{prefix_len-le-length}
use Rattle.std.specs.List.{AllByRecursion, insert, position, position_or_len}
use Rattle.std.specs.Str.{bytes_eq}
use Rattle.doc_model.specs.ByIds.{AreDistinct, by_id, find_id, has_id, put_by_id, precedes}
use Rattle.doc_model.proofs.ByIdsLaws.{bytes_apart, bytes_itself, find-put_by_id, IsByIds-by_id, IsByIds-put_by_id, same_by_ids}
use Rattle.doc_model.proofs.Choices.{cond_false, cond_true}

-- neither of two tests passes
pub neither : (a b : Bool) → (a || b) ≡ false → (a ≡ false) × (b ≡ false)
neither true b h = absurd (true≢false h)
neither false b h = (refl, h)

-- the first so many, and the next one
pub take_next : {X : Type 0} (xs : List X) (n : ℕ) (x : X) → slice_get xs n ≡ Some x → take (n + 1) xs ≡ take n xs ++ x ∷ []
take_next xs n x h = take_more xs n x (slice_get_within xs n x h) ∙ ap (λ z. take n xs ++ z ∷ []) (get_or_from_slice_get xs n x x h)

pub all_taken : {X : Type 0} (xs : List X) (n : ℕ) → slice_get xs n ≡ None → take n xs ≡ xs
all_taken [] zero h = refl
all_taken [] (suc n) h = refl
all_taken (x ∷ xs) zero h = absurd (cc)
all_taken (x ∷ xs) (suc n) h = ap (λ l. x ∷ l) (all_taken xs n h)

each_got : {X : Type 0} (P : X → Type 0) (xs : List X) (n : ℕ) (x : X) → AllByRecursion P xs → slice_get xs n ≡ Some x → P x
each_got P [] zero x h e = absurd (cc)
each_got P [] (suc n) x h e = absurd (cc)
each_got P (y ∷ xs) zero x h e = let same : y ≡ x = cc in subst P same h.0
each_got P (y ∷ xs) (suc n) x h e = each_got P xs n x h.1 e

module _ {X : Type 0} (id : X → List ℕ) where
  -- an id finds the same in the order of the ids
  pub find-by_id : (c : List ℕ) (xs : List X) → find_id id c (by_id id xs) ≡ find_id id c xs
  find-by_id c [] = refl
  find-by_id c (x ∷ xs) = find-put_by_id id x (by_id id xs) c ∙ ap (λ o. cond (bytes_eq (id x) c) (Some x) o) (find-by_id c xs)

  find-last : (c : List ℕ) (xs : List X) (x : X) → has_id id xs (id x) ≡ false → find_id id c (xs ++ x ∷ []) ≡ cond (bytes_eq (id x) c) (Some x) (find_id id c xs)
  find-last c [] x h = refl
  find-last c (y ∷ xs) x h =
      elim (bytes_eq (id y) c) as (λ b. bytes_eq (id y) c ≡ b → cond b (Some y) (find_id id c (xs ++ x ∷ [])) ≡ cond (bytes_eq (id x) c) (Some x) (cond b (Some y) (find_id id c xs))) [
        | true ↦ λ is.
            let apart : bytes_eq c (id x) ≡ false = ap (λ e. bytes_eq e (id x)) (sym ((bytes_eq-Decides (id y) c).0 is)) ∙ (neither (bytes_eq (id y) (id x)) (has_id id xs (id x)) h).0 in
            sym (cond_false (bytes_eq (id x) c) (Some x) (Some y) (bytes_apart c (id x) apart))
        | false ↦ λ _. find-last c xs x (neither (bytes_eq (id y) (id x)) (has_id id xs (id x)) h).1
      ] refl

  -- a thing of a new id behind the others is the last that is put in its place
  pub by_id-last : (xs : List X) (x : X) → has_id id xs (id x) ≡ false → by_id id (xs ++ x ∷ []) ≡ put_by_id id x (by_id id xs)
  by_id-last xs x h =
      same_by_ids id (by_id id (xs ++ x ∷ [])) (put_by_id id x (by_id id xs))
      (IsByIds-by_id id (xs ++ x ∷ [])) (IsByIds-put_by_id id x (by_id id xs) (IsByIds-by_id id xs))
      (λ c. find-by_id c (xs ++ x ∷ []) ∙ find-last c xs x h
      ∙ sym (find-put_by_id id x (by_id id xs) c ∙ ap (λ o. cond (bytes_eq (id x) c) (Some x) o) (find-by_id c xs)))

  -- a thing of a new id goes before the first one with a greater id
  pub put_by_id-insert : (x : X) (xs : List X) → has_id id xs (id x) ≡ false → put_by_id id x xs ≡ insert xs (position_or_len (λ y. precedes (id x) (id y)) xs) x
  put_by_id-insert x [] h = refl
  put_by_id-insert x (y ∷ xs) h =
      let both : (bytes_eq (id y) (id x) ≡ false) × (has_id id xs (id x) ≡ false) = neither (bytes_eq (id y) (id x)) (has_id id xs (id x)) h in
      let rest : put_by_id id x xs ≡ insert xs (position_or_len (λ y. precedes (id x) (id y)) xs) x = put_by_id-insert x xs both.1 in
      let next : suc (position_or_len (λ y. precedes (id x) (id y)) xs) ≡ 1 + position_or_len (λ y. precedes (id x) (id y)) xs = omega arith in
      elim (precedes (id x) (id y)) as (λ b. cond b (x ∷ y ∷ xs) (cond (bytes_eq (id x) (id y)) (x ∷ xs) (y ∷ put_by_id id x xs)) ≡ insert (y ∷ xs) (cond (not b) (1 + position_or_len (λ y. precedes (id x) (id y)) xs) 0) x) [
        | true ↦ refl
        | false ↦ cond_false (bytes_eq (id x) (id y)) (x ∷ xs) (y ∷ put_by_id id x xs) (bytes_apart (id y) (id x) both.0) ∙ ap (λ l. y ∷ l) rest
            ∙ ap (λ k. insert (y ∷ xs) k x) next
      ]

  -- what stands at an index has another id than what stands before it
  pub absent_before : (xs : List X) (n : ℕ) (x : X) → AreDistinct id xs → slice_get xs n ≡ Some x → has_id id (take n xs) (id x) ≡ false
  absent_before [] zero x d h = refl
  absent_before [] (suc n) x d h = refl
  absent_before (y ∷ xs) zero x d h = refl
  absent_before (y ∷ xs) (suc n) x d h =
      ap (λ b. b || has_id id (take n xs) (id x)) (each_got (λ z. bytes_eq (id y) (id z) ≡ false) xs n x d.0 h)
      ∙ absent_before xs n x d.1 h

  -- an id that is not there is not among those that pass
  pub absent-filter : (p : X → Bool) (xs : List X) (c : List ℕ) → has_id id xs c ≡ false → has_id id (filter p xs) c ≡ false
  absent-filter p [] c h = refl
  absent-filter p (y ∷ xs) c h =
      let both : (bytes_eq (id y) c ≡ false) × (has_id id xs c ≡ false) = neither (bytes_eq (id y) c) (has_id id xs c) h in
      elim (p y) as (λ b. has_id id (cond b (y ∷ filter p xs) (filter p xs)) c ≡ false) [
        | true ↦ ap (λ b. b || has_id id (filter p xs) c) both.0 ∙ absent-filter p xs c both.1
        | false ↦ absent-filter p xs c both.1
      ]

  -- what stands at an index is what its id finds
  pub found_at : (xs : List X) (n : ℕ) (x : X) → AreDistinct id xs → slice_get xs n ≡ Some x → find_id id (id x) xs ≡ Some x
  found_at [] zero x d h = absurd (cc)
  found_at [] (suc n) x d h = absurd (cc)
  found_at (y ∷ xs) zero x d h = let same : y ≡ x = cc in cond_true (bytes_eq (id y) (id x)) (Some y) (find_id id (id x) xs) (ap (λ z. bytes_eq (id z) (id x)) same ∙ bytes_itself (id x)) ∙ ap Some same
  found_at (y ∷ xs) (suc n) x d h =
      cond_false (bytes_eq (id y) (id x)) (Some y) (find_id id (id x) xs) (each_got (λ z. bytes_eq (id y) (id z) ≡ false) xs n x d.0 h)
      ∙ found_at xs n x d.1 h

  -- the index that a search answers, or the end
  pub goes_at : (x : X) (xs seen : List X) (o : Option ℕ) (long n : ℕ) → seen ≡ xs → length seen ≡ long → o ≡ position (λ y. precedes (id x) (id y)) seen → n ≡ unwrap_or o long
      → (n ≤ long) × (n ≡ position_or_len (λ y. precedes (id x) (id y)) xs)
  goes_at x xs seen o long n same counts found is =
      let p : X → Bool = λ y. precedes (id x) (id y) in
      let low : position_or_len p seen ≤ length seen = prefix_len-le-length (λ y. not (p y)) seen in
      let at : n ≡ unwrap_or (cond (ltb (position_or_len p seen) (length seen)) (Some (position_or_len p seen)) None) long = is ∙ ap (λ o. unwrap_or o long) found in
      let here : n ≡ position_or_len p seen = elim (ltb (position_or_len p seen) (length seen)) as (λ b. ltb (position_or_len p seen) (length seen) ≡ b → n ≡ unwrap_or (cond b (Some (position_or_len p seen)) None) long → n ≡ position_or_len p seen) [
        | true ↦ λ _ e. e
        | false ↦ λ no e. let above : length seen ≤ position_or_len p seen = ltb-false (position_or_len p seen) (length seen) no in omega (arith, e, low, above, counts)
      ] refl at in
      (omega (arith, here, low, counts), here ∙ ap (position_or_len p) same)

  pub put_there : (x : X) (xs seen ys : List X) (o : Option ℕ) (long n : ℕ) → has_id id xs (id x) ≡ false → seen ≡ xs → length seen ≡ long → o ≡ position (λ y. precedes (id x) (id y)) seen → n ≡ unwrap_or o long
      → ys ≡ insert xs n x → ys ≡ put_by_id id x xs
  put_there x xs seen ys o long n new same counts found is made =
      made ∙ ap (λ k. insert xs k x) (goes_at x xs seen o long n same counts found is).1 ∙ sym (put_by_id-insert x xs new)
