-- Lists of things with ids in the order of their rows, and things changed under their ids.
use Rattle.std.proofs.Common.{ℕ, suc, Bool, true, false, cond, not, ◌||◌, List, [], ◌∷◌, map, filter, ◌≡◌, ◌<◌, ◌≤◌, refl, sym, ap, subst, ◌∙◌, Option, Some, None, eqb, ltb, arith, option_map, is_some}
use Rattle.std.proofs.lemmas.Bool.{false≢true, true≢false, both_ways, ltb-true, ltb-false, lt-ltb, le-ltb, and_parts}
use Rattle.std.proofs.lemmas.Slice.Eq.{bytes_eq-Decides}
use Rattle.std.specs.List.{AllByRecursion}
use Rattle.std.specs.Str.{bytes_eq}
use Rattle.std.specs.Prelude.{insert, ◌+◌}
use Rattle.doc_model.specs.declared.column.ColDef.{ColDef}
use Rattle.doc_model.specs.ByIds.{find_id, has_id, AreDistinct, with_id, without_id}
use Rattle.doc_model.specs.Rows.{has, has_no_duplicates, IsAscending}
use Rattle.doc_model.specs.Column.{column_row}
use Rattle.doc_model.specs.Document.{put_by_row, by_row}
use Rattle.doc_model.specs.Indexes.{column_index}
use Rattle.doc_model.proofs.Choices.{cond_true, cond_false, each_weaker, filter_all, not_true, or_swap}
use Rattle.doc_model.proofs.ByIdsLaws.{has_id-find, find-without_id, bytes_itself, bytes_apart, has_apart, apart_has}
use Rattle.doc_model.proofs.RowsLaws.{number_itself}

-- a row that is not there is apart from each
pub apart_rows : (r : ℕ) (rows : List ℕ) → has rows r ≡ false → AllByRecursion (λ q. eqb q r ≡ false) rows
apart_rows r [] h = tt
apart_rows r (q ∷ rows) h =
    elim (eqb q r) as (λ b. eqb q r ≡ b → (b || has rows r) ≡ false → AllByRecursion (λ q. eqb q r ≡ false) (q ∷ rows)) [
      | true ↦ λ _ h. absurd (true≢false h)
      | false ↦ λ n h. (n, apart_rows r rows h)
    ] refl h

module _ {X : Type 0} (row : X → ℕ) where
  pub each_put : (P : X → Type 0) (x : X) (xs : List X) → P x → AllByRecursion P xs → AllByRecursion P (put_by_row row x xs)
  each_put P x [] p h = (p, tt)
  each_put P x (y ∷ ys) p h =
      elim (ltb (row x) (row y)) as (λ b. AllByRecursion P (cond b (x ∷ y ∷ ys) (y ∷ put_by_row row x ys))) [
        | true ↦ (p, h)
        | false ↦ (h.0, each_put P x ys p h.1)
      ]

  pub each_by_row : (P : X → Type 0) (xs : List X) → AllByRecursion P xs → AllByRecursion P (by_row row xs)
  each_by_row P [] h = tt
  each_by_row P (x ∷ xs) h = each_put P x (by_row row xs) h.0 (each_by_row P xs h.1)

  pub has-put_by_row : (x : X) (xs : List X) (r : ℕ) → has (map row (put_by_row row x xs)) r ≡ (eqb (row x) r || has (map row xs) r)
  has-put_by_row x [] r = refl
  has-put_by_row x (y ∷ ys) r =
      elim (ltb (row x) (row y)) as (λ b. has (map row (cond b (x ∷ y ∷ ys) (y ∷ put_by_row row x ys))) r ≡ (eqb (row x) r || (eqb (row y) r || has (map row ys) r))) [
        | true ↦ refl
        | false ↦ ap (λ b. eqb (row y) r || b) (has-put_by_row x ys r) ∙ or_swap (eqb (row y) r) (eqb (row x) r) (has (map row ys) r)
      ]

  pub has-by_row : (xs : List X) (r : ℕ) → has (map row (by_row row xs)) r ≡ has (map row xs) r
  has-by_row [] r = refl
  has-by_row (x ∷ xs) r = has-put_by_row x (by_row row xs) r ∙ ap (λ b. eqb (row x) r || b) (has-by_row xs r)

  below_put : (p : ℕ) (x : X) (xs : List X) → p < row x → AllByRecursion (λ q. p < q) (map row xs) → AllByRecursion (λ q. p < q) (map row (put_by_row row x xs))
  below_put p x [] l h = (l, tt)
  below_put p x (y ∷ ys) l h =
      elim (ltb (row x) (row y)) as (λ b. AllByRecursion (λ q. p < q) (map row (cond b (x ∷ y ∷ ys) (y ∷ put_by_row row x ys)))) [
        | true ↦ (l, h)
        | false ↦ (h.0, below_put p x ys l h.1)
      ]

  -- a new row keeps the order
  pub IsAscending-put_by_row : (x : X) (xs : List X) → IsAscending (map row xs) → has (map row xs) (row x) ≡ false → IsAscending (map row (put_by_row row x xs))
  IsAscending-put_by_row x [] a n = (tt, tt)
  IsAscending-put_by_row x (y ∷ ys) a n =
      elim (ltb (row x) (row y)) as (λ b. ltb (row x) (row y) ≡ b → IsAscending (map row (cond b (x ∷ y ∷ ys) (y ∷ put_by_row row x ys)))) [
        | true ↦ λ is. let lt : row x < row y = ltb-true (row x) (row y) is in
            ((lt, each_weaker (λ p. row y < p) (λ p. row x < p) (λ p l. omega arith) (map row ys) a.0), a)
        | false ↦ λ isnt.
            let apart : AllByRecursion (λ q. eqb q (row x) ≡ false) (row y ∷ map row ys) = apart_rows (row x) (row y ∷ map row ys) n in
            let le : row y ≤ row x = ltb-false (row x) (row y) isnt in
            let ne : row y ≡ row x → ⊥ = λ e. true≢false (sym (number_itself (row x)) ∙ ap (λ q. eqb q (row x)) (sym e) ∙ apart.0) in
            let lt : row y < row x = omega arith in
            (below_put (row y) x ys lt a.0, IsAscending-put_by_row x ys a.1 (later (eqb (row y) (row x)) (has (map row ys) (row x)) n))
      ] refl
    where
      later : (a b : Bool) → (a || b) ≡ false → b ≡ false
      later true b e = absurd (true≢false e)
      later false b e = e

  pub IsAscending-by_row : (xs : List X) → has_no_duplicates (map row xs) ≡ true → IsAscending (map row (by_row row xs))
  IsAscending-by_row [] h = tt
  IsAscending-by_row (x ∷ xs) h =
      let both : (not (has (map row xs) (row x)) ≡ true) × (has_no_duplicates (map row xs) ≡ true) = and_parts (not (has (map row xs) (row x))) (has_no_duplicates (map row xs)) h in
      IsAscending-put_by_row x (by_row row xs) (IsAscending-by_row xs both.1) (has-by_row xs (row x) ∙ not_true (has (map row xs) (row x)) both.0)

  put_low : (x : X) (xs : List X) → AllByRecursion (λ q. row x < q) (map row xs) → put_by_row row x xs ≡ x ∷ xs
  put_low x [] h = refl
  put_low x (y ∷ ys) h = cond_true (ltb (row x) (row y)) (x ∷ y ∷ ys) (y ∷ put_by_row row x ys) (lt-ltb (row x) (row y) h.0)

  -- what is in order stays as it is
  pub by_row_again : (xs : List X) → IsAscending (map row xs) → by_row row xs ≡ xs
  by_row_again [] a = refl
  by_row_again (x ∷ xs) a = ap (put_by_row row x) (by_row_again xs a.1) ∙ put_low x xs a.0

  below_filter : (p : X → Bool) (r : ℕ) (xs : List X) → AllByRecursion (λ q. r < q) (map row xs) → AllByRecursion (λ q. r < q) (map row (filter p xs))
  below_filter p r [] h = tt
  below_filter p r (x ∷ xs) h =
      elim (p x) as (λ b. AllByRecursion (λ q. r < q) (map row (cond b (x ∷ filter p xs) (filter p xs)))) [ true ↦ (h.0, below_filter p r xs h.1) | false ↦ below_filter p r xs h.1 ]

  pub IsAscending-filtered : (p : X → Bool) (xs : List X) → IsAscending (map row xs) → IsAscending (map row (filter p xs))
  IsAscending-filtered p [] a = tt
  IsAscending-filtered p (x ∷ xs) a =
      elim (p x) as (λ b. IsAscending (map row (cond b (x ∷ filter p xs) (filter p xs)))) [ true ↦ (below_filter p (row x) xs a.0, IsAscending-filtered p xs a.1) | false ↦ IsAscending-filtered p xs a.1 ]

  module _ (id : X → List ℕ) where
    pub has_id-put_by_row : (x : X) (xs : List X) (c : List ℕ) → has_id id (put_by_row row x xs) c ≡ (bytes_eq (id x) c || has_id id xs c)
    has_id-put_by_row x [] c = refl
    has_id-put_by_row x (y ∷ ys) c =
        elim (ltb (row x) (row y)) as (λ b. has_id id (cond b (x ∷ y ∷ ys) (y ∷ put_by_row row x ys)) c ≡ (bytes_eq (id x) c || (bytes_eq (id y) c || has_id id ys c))) [
          | true ↦ refl
          | false ↦ ap (λ b. bytes_eq (id y) c || b) (has_id-put_by_row x ys c) ∙ or_swap (bytes_eq (id y) c) (bytes_eq (id x) c) (has_id id ys c)
        ]

    pub has_id-by_row : (xs : List X) (c : List ℕ) → has_id id (by_row row xs) c ≡ has_id id xs c
    has_id-by_row [] c = refl
    has_id-by_row (x ∷ xs) c = has_id-put_by_row x (by_row row xs) c ∙ ap (λ b. bytes_eq (id x) c || b) (has_id-by_row xs c)

    pub AreDistinct-put_by_row : (x : X) (xs : List X) → AreDistinct id xs → has_id id xs (id x) ≡ false → AreDistinct id (put_by_row row x xs)
    AreDistinct-put_by_row x [] d n = (tt, tt)
    AreDistinct-put_by_row x (y ∷ ys) d n =
        let apart : AllByRecursion (λ z. bytes_eq (id x) (id z) ≡ false) (y ∷ ys) = apart_has id (id x) (y ∷ ys) n in
        elim (ltb (row x) (row y)) as (λ b. AreDistinct id (cond b (x ∷ y ∷ ys) (y ∷ put_by_row row x ys))) [
          | true ↦ (apart, d)
          | false ↦ (each_put (λ z. bytes_eq (id y) (id z) ≡ false) x ys (bytes_apart (id x) (id y) apart.0) d.0, AreDistinct-put_by_row x ys d.1 (has_apart id (id x) ys apart.1))
        ]

    pub AreDistinct-by_row : (xs : List X) → AreDistinct id xs → AreDistinct id (by_row row xs)
    AreDistinct-by_row [] d = tt
    AreDistinct-by_row (x ∷ xs) d = AreDistinct-put_by_row x (by_row row xs) (AreDistinct-by_row xs d.1) (has_id-by_row xs (id x) ∙ has_apart id (id x) xs d.0)

    -- what an id finds beside a new thing
    pub find-put_by_row : (x : X) (xs : List X) (c : List ℕ) → has_id id xs (id x) ≡ false → find_id id c (put_by_row row x xs) ≡ cond (bytes_eq (id x) c) (Some x) (find_id id c xs)
    find-put_by_row x [] c n = refl
    find-put_by_row x (y ∷ ys) c n =
        let apart : AllByRecursion (λ z. bytes_eq (id x) (id z) ≡ false) (y ∷ ys) = apart_has id (id x) (y ∷ ys) n in
        elim (ltb (row x) (row y)) as (λ b. find_id id c (cond b (x ∷ y ∷ ys) (y ∷ put_by_row row x ys)) ≡ cond (bytes_eq (id x) c) (Some x) (cond (bytes_eq (id y) c) (Some y) (find_id id c ys))) [
          | true ↦ refl
          | false ↦
              ap (λ o. cond (bytes_eq (id y) c) (Some y) o) (find-put_by_row x ys c (has_apart id (id x) ys apart.1))
              ∙ elim (bytes_eq (id x) c) as (λ b. bytes_eq (id x) c ≡ b → cond (bytes_eq (id y) c) (Some y) (cond b (Some x) (find_id id c ys)) ≡ cond b (Some x) (cond (bytes_eq (id y) c) (Some y) (find_id id c ys))) [
                | true ↦ λ is. cond_false (bytes_eq (id y) c) (Some y) (Some x) (ap (bytes_eq (id y)) (sym ((bytes_eq-Decides (id x) c).0 is)) ∙ bytes_apart (id x) (id y) apart.0)
                | false ↦ λ _. refl
              ] refl
        ]

    -- a new thing put in and taken out
    pub without-put_by_row : (x : X) (xs : List X) → has_id id xs (id x) ≡ false → without_id id (id x) (put_by_row row x xs) ≡ xs
    without-put_by_row x xs n = out xs (apart_has id (id x) xs n)
      where
        gone : (b : Bool) (ys : List X) → b ≡ true → cond (not b) (x ∷ ys) ys ≡ ys
        gone true ys e = refl
        gone false ys e = absurd (false≢true e)

        others : (ys : List X) → AllByRecursion (λ z. bytes_eq (id x) (id z) ≡ false) ys → without_id id (id x) ys ≡ ys
        others ys h = filter_all (λ z. not (bytes_eq (id z) (id x))) ys (each_weaker (λ z. bytes_eq (id x) (id z) ≡ false) (λ z. not (bytes_eq (id z) (id x)) ≡ true) (λ z e. ap not (bytes_apart (id x) (id z) e)) ys h)

        out : (ys : List X) → AllByRecursion (λ z. bytes_eq (id x) (id z) ≡ false) ys → without_id id (id x) (put_by_row row x ys) ≡ ys
        out [] h = gone (bytes_eq (id x) (id x)) [] (bytes_itself (id x))
        out (y ∷ ys) h =
            elim (ltb (row x) (row y)) as (λ b. without_id id (id x) (cond b (x ∷ y ∷ ys) (y ∷ put_by_row row x ys)) ≡ y ∷ ys) [
              | true ↦ gone (bytes_eq (id x) (id x)) (without_id id (id x) (y ∷ ys)) (bytes_itself (id x)) ∙ others (y ∷ ys) h
              | false ↦ cond_true (not (bytes_eq (id y) (id x))) (y ∷ without_id id (id x) (put_by_row row x ys)) (without_id id (id x) (put_by_row row x ys)) (ap not (bytes_apart (id x) (id y) h.0)) ∙ ap (λ zs. y ∷ zs) (out ys h.1)
            ]

    -- a thing taken out and put back
    pub put_by_row-without : (x : X) (xs : List X) → AreDistinct id xs → IsAscending (map row xs) → find_id id (id x) xs ≡ Some x → put_by_row row x (without_id id (id x) xs) ≡ xs
    put_by_row-without x [] d a f = absurd (cc)
    put_by_row-without x (y ∷ ys) d a f =
        elim (bytes_eq (id y) (id x)) as (λ b. bytes_eq (id y) (id x) ≡ b → cond b (Some y) (find_id id (id x) ys) ≡ Some x → put_by_row row x (cond (not b) (y ∷ without_id id (id x) ys) (without_id id (id x) ys)) ≡ y ∷ ys) [
          | true ↦ λ is f.
              let same : y ≡ x = cc in
              let apart : AllByRecursion (λ z. not (bytes_eq (id z) (id x)) ≡ true) ys = each_weaker (λ z. bytes_eq (id y) (id z) ≡ false) (λ z. not (bytes_eq (id z) (id x)) ≡ true) (λ z e. ap not (bytes_apart (id x) (id z) (ap (λ w. bytes_eq (id w) (id z)) (sym same) ∙ e))) ys d.0 in
              ap (put_by_row row x) (filter_all (λ z. not (bytes_eq (id z) (id x))) ys apart)
              ∙ put_low x ys (subst (λ w. AllByRecursion (λ q. row w < q) (map row ys)) same a.0)
              ∙ ap (λ w. w ∷ ys) (sym same)
          | false ↦ λ _ f.
              let lt : row y < row x = below ys x a.0 f in
              cond_false (ltb (row x) (row y)) (x ∷ y ∷ without_id id (id x) ys) (y ∷ put_by_row row x (without_id id (id x) ys)) (le-ltb (row x) (row y) (omega arith))
              ∙ ap (λ zs. y ∷ zs) (put_by_row-without x ys d.1 a.1 f)
        ] refl f
      where
        below : (zs : List X) (z : X) → AllByRecursion (λ q. row y < q) (map row zs) → find_id id (id x) zs ≡ Some z → row y < row z
        below [] z h f = absurd (cc)
        below (w ∷ zs) z h f =
            elim (bytes_eq (id w) (id x)) as (λ b. cond b (Some w) (find_id id (id x) zs) ≡ Some z → row y < row z) [
              | true ↦ λ f. let same : w ≡ z = cc in subst (λ v. row y < row v) same h.0
              | false ↦ λ f. below zs z h.1 f
            ] f

module _ {X : Type 0} (id : X → List ℕ) where
  pub AreDistinct-filter : (p : X → Bool) (xs : List X) → AreDistinct id xs → AreDistinct id (filter p xs)
  AreDistinct-filter p [] d = tt
  AreDistinct-filter p (x ∷ xs) d =
      elim (p x) as (λ b. AreDistinct id (cond b (x ∷ filter p xs) (filter p xs))) [ true ↦ (apart p x xs d.0, AreDistinct-filter p xs d.1) | false ↦ AreDistinct-filter p xs d.1 ]
    where
      apart : (p : X → Bool) (x : X) (ys : List X) → AllByRecursion (λ y. bytes_eq (id x) (id y) ≡ false) ys → AllByRecursion (λ y. bytes_eq (id x) (id y) ≡ false) (filter p ys)
      apart p x [] h = tt
      apart p x (y ∷ ys) h = elim (p y) as (λ b. AllByRecursion (λ y. bytes_eq (id x) (id y) ≡ false) (cond b (y ∷ filter p ys) (filter p ys))) [ true ↦ (h.0, apart p x ys h.1) | false ↦ apart p x ys h.1 ]

  -- things that are not there stay as they are
  pub with_id_absent : (c : List ℕ) (f : X → X) (xs : List X) → has_id id xs c ≡ false → with_id id c f xs ≡ xs
  with_id_absent c f [] h = refl
  with_id_absent c f (x ∷ xs) h =
      elim (bytes_eq (id x) c) as (λ b. (b || has_id id xs c) ≡ false → cond b (f x) x ∷ with_id id c f xs ≡ x ∷ xs) [
        | true ↦ λ h. absurd (true≢false h)
        | false ↦ λ h. ap (λ ys. x ∷ ys) (with_id_absent c f xs h)
      ] h

  -- a change that leaves the one thing of the id as it is leaves the list
  pub with_id_same : (c : List ℕ) (f : X → X) (xs : List X) (x : X) → AreDistinct id xs → find_id id c xs ≡ Some x → f x ≡ x → with_id id c f xs ≡ xs
  with_id_same c f [] x d found same = refl
  with_id_same c f (y ∷ ys) x d found same =
      elim (bytes_eq (id y) c) as (λ b. bytes_eq (id y) c ≡ b → cond b (Some y) (find_id id c ys) ≡ Some x → cond b (f y) y ∷ with_id id c f ys ≡ y ∷ ys) [
        | true ↦ λ is found.
            let here : y ≡ x = cc in
            ap (λ z. z ∷ with_id id c f ys) (ap f here ∙ same ∙ sym here)
            ∙ ap (λ zs. y ∷ zs) (with_id_absent c f ys (has_apart id c ys (subst (λ n. AllByRecursion (λ z. bytes_eq n (id z) ≡ false) ys) ((bytes_eq-Decides (id y) c).0 is) d.0)))
        | false ↦ λ _ found. ap (λ zs. y ∷ zs) (with_id_same c f ys x d.1 found same)
      ] refl found

  -- a second change that undoes the first of the thing under its new id leaves the list
  pub with_id_back : (c n : List ℕ) (f g : X → X) (xs : List X) → ((x : X) → id (f x) ≡ n) → ((x : X) → id x ≡ c → g (f x) ≡ x) → has_id id xs n ≡ false → with_id id n g (with_id id c f xs) ≡ xs
  with_id_back c n f g [] named back h = refl
  with_id_back c n f g (x ∷ xs) named back h =
      let apart : AllByRecursion (λ y. bytes_eq n (id y) ≡ false) (x ∷ xs) = apart_has id n (x ∷ xs) h in
      ap (λ y. y ∷ with_id id n g (with_id id c f xs))
      (elim (bytes_eq (id x) c) as (λ b. bytes_eq (id x) c ≡ b → cond (bytes_eq (id (cond b (f x) x)) n) (g (cond b (f x) x)) (cond b (f x) x) ≡ x) [
        | true ↦ λ is. cond_true (bytes_eq (id (f x)) n) (g (f x)) (f x) (ap (λ m. bytes_eq m n) (named x) ∙ bytes_itself n) ∙ back x ((bytes_eq-Decides (id x) c).0 is)
        | false ↦ λ _. cond_false (bytes_eq (id x) n) (g x) x (bytes_apart n (id x) apart.0)
      ] refl)
      ∙ ap (λ ys. x ∷ ys) (with_id_back c n f g xs named back (has_apart id n xs apart.1))

  -- two functions that agree on the things of the id
  pub with_id_agree : (c : List ℕ) (f g : X → X) (xs : List X) → ((x : X) → id x ≡ c → f x ≡ g x) → with_id id c f xs ≡ with_id id c g xs
  with_id_agree c f g [] h = refl
  with_id_agree c f g (x ∷ xs) h =
      ap (λ y. y ∷ with_id id c f xs) (elim (bytes_eq (id x) c) as (λ b. bytes_eq (id x) c ≡ b → cond b (f x) x ≡ cond b (g x) x) [ true ↦ λ is. h x ((bytes_eq-Decides (id x) c).0 is) | false ↦ λ _. refl ] refl)
      ∙ ap (λ ys. cond (bytes_eq (id x) c) (g x) x ∷ ys) (with_id_agree c f g xs h)

  -- what is made of each stays where the change keeps it
  pub map-with_id : {Y : Type 0} (h : X → Y) (c : List ℕ) (f : X → X) (xs : List X) → ((x : X) → h (f x) ≡ h x) → map h (with_id id c f xs) ≡ map h xs
  map-with_id h c f [] k = refl
  map-with_id h c f (x ∷ xs) k =
      ap (λ y. y ∷ map h (with_id id c f xs)) (elim (bytes_eq (id x) c) as (λ b. h (cond b (f x) x) ≡ h x) [ true ↦ k x | false ↦ refl ])
      ∙ ap (λ ys. h x ∷ ys) (map-with_id h c f xs k)

  -- what holds of each holds after a change that keeps it
  pub each_with_id : (P : X → Type 0) (c : List ℕ) (f : X → X) (xs : List X) → ((x : X) → id x ≡ c → P x → P (f x)) → AllByRecursion P xs → AllByRecursion P (with_id id c f xs)
  each_with_id P c f [] k h = tt
  each_with_id P c f (x ∷ xs) k h = (
    elim (bytes_eq (id x) c) as (λ b. bytes_eq (id x) c ≡ b → P (cond b (f x) x)) [ true ↦ λ is. k x ((bytes_eq-Decides (id x) c).0 is) h.0 | false ↦ λ _. h.0 ] refl,
    each_with_id P c f xs k h.1,
  )

  -- the same, where the change keeps it of the one thing that is found
  pub each_with_id_found : (P : X → Type 0) (c : List ℕ) (f : X → X) (xs : List X) (x : X) → AreDistinct id xs → find_id id c xs ≡ Some x → P (f x) → AllByRecursion P xs → AllByRecursion P (with_id id c f xs)
  each_with_id_found P c f [] x d found p h = tt
  each_with_id_found P c f (y ∷ ys) x d found p h =
      elim (bytes_eq (id y) c) as (λ b. bytes_eq (id y) c ≡ b → cond b (Some y) (find_id id c ys) ≡ Some x → AllByRecursion P (cond b (f y) y ∷ with_id id c f ys)) [
        | true ↦ λ is found.
            let here : y ≡ x = cc in (
              subst (λ z. P (f z)) (sym here) p,
              subst (AllByRecursion P) (sym (with_id_absent c f ys (has_apart id c ys (subst (λ n. AllByRecursion (λ z. bytes_eq n (id z) ≡ false) ys) ((bytes_eq-Decides (id y) c).0 is) d.0)))) h.1,
            )
        | false ↦ λ _ found. (h.0, each_with_id_found P c f ys x d.1 found p h.1)
      ] refl found

  module _ (c : List ℕ) (f : X → X) (keeps : (x : X) → id (f x) ≡ id x) where
    pub has_id-with_id : (xs : List X) (e : List ℕ) → has_id id (with_id id c f xs) e ≡ has_id id xs e
    has_id-with_id [] e = refl
    has_id-with_id (x ∷ xs) e =
        ap (λ b. b || has_id id (with_id id c f xs) e) (elim (bytes_eq (id x) c) as (λ b. bytes_eq (id (cond b (f x) x)) e ≡ bytes_eq (id x) e) [ true ↦ ap (λ n. bytes_eq n e) (keeps x) | false ↦ refl ])
        ∙ ap (λ b. bytes_eq (id x) e || b) (has_id-with_id xs e)

    pub AreDistinct-with_id : (xs : List X) → AreDistinct id xs → AreDistinct id (with_id id c f xs)
    AreDistinct-with_id [] d = tt
    AreDistinct-with_id (x ∷ xs) d =
        let same : id (cond (bytes_eq (id x) c) (f x) x) ≡ id x = elim (bytes_eq (id x) c) as (λ b. id (cond b (f x) x) ≡ id x) [ true ↦ keeps x | false ↦ refl ] in (
          apart_has id (id (cond (bytes_eq (id x) c) (f x) x)) (with_id id c f xs) (has_id-with_id xs (id (cond (bytes_eq (id x) c) (f x) x)) ∙ ap (has_id id xs) same ∙ has_apart id (id x) xs d.0),
          AreDistinct-with_id xs d.1,
        )

    -- what an id finds after a change that keeps ids
    pub find-with_id : (xs : List X) (e : List ℕ) → find_id id e (with_id id c f xs) ≡ cond (bytes_eq c e) (option_map f (find_id id e xs)) (find_id id e xs)
    find-with_id [] e = elim (bytes_eq c e) as (λ b. ◌≡◌ {A = Option X} None (cond b None None)) [ true ↦ refl | false ↦ refl ]
    find-with_id (x ∷ xs) e =
        elim (bytes_eq (id x) c) as (λ a. bytes_eq (id x) c ≡ a → cond (bytes_eq (id (cond a (f x) x)) e) (Some (cond a (f x) x)) (find_id id e (with_id id c f xs))
        ≡ cond (bytes_eq c e) (option_map f (cond (bytes_eq (id x) e) (Some x) (find_id id e xs))) (cond (bytes_eq (id x) e) (Some x) (find_id id e xs))) [
          | true ↦ λ is. let same : id x ≡ c = (bytes_eq-Decides (id x) c).0 is in
              ap (λ n. cond (bytes_eq n e) (Some (f x)) (find_id id e (with_id id c f xs))) (keeps x)
              ∙ elim (bytes_eq (id x) e) as (λ b. bytes_eq (id x) e ≡ b → cond b (Some (f x)) (find_id id e (with_id id c f xs)) ≡ cond (bytes_eq c e) (option_map f (cond b (Some x) (find_id id e xs))) (cond b (Some x) (find_id id e xs))) [
                | true ↦ λ here. sym (cond_true (bytes_eq c e) (Some (f x)) (Some x) (ap (λ n. bytes_eq n e) (sym same) ∙ here))
                | false ↦ λ _. find-with_id xs e
              ] refl
          | false ↦ λ apart.
              elim (bytes_eq (id x) e) as (λ b. bytes_eq (id x) e ≡ b → cond b (Some x) (find_id id e (with_id id c f xs)) ≡ cond (bytes_eq c e) (option_map f (cond b (Some x) (find_id id e xs))) (cond b (Some x) (find_id id e xs))) [
                | true ↦ λ here. sym (cond_false (bytes_eq c e) (Some (f x)) (Some x) (ap (bytes_eq c) (sym ((bytes_eq-Decides (id x) e).0 here)) ∙ bytes_apart (id x) c apart))
                | false ↦ λ _. find-with_id xs e
              ] refl
        ] refl

    -- one change after another of the things of one id
    pub with_id-with_id : (g : X → X) (xs : List X) → with_id id c g (with_id id c f xs) ≡ with_id id c (λ x. g (f x)) xs
    with_id-with_id g [] = refl
    with_id-with_id g (x ∷ xs) =
        ap (λ y. y ∷ with_id id c g (with_id id c f xs))
        (elim (bytes_eq (id x) c) as (λ b. bytes_eq (id x) c ≡ b → cond (bytes_eq (id (cond b (f x) x)) c) (g (cond b (f x) x)) (cond b (f x) x) ≡ cond b (g (f x)) x) [
          | true ↦ λ is. cond_true (bytes_eq (id (f x)) c) (g (f x)) (f x) (ap (λ n. bytes_eq n c) (keeps x) ∙ is)
          | false ↦ λ apart. cond_false (bytes_eq (id x) c) (g x) x apart
        ] refl)
        ∙ ap (λ ys. cond (bytes_eq (id x) c) (g (f x)) x ∷ ys) (with_id-with_id g xs)

  -- a thing that got a new id is found under it, and nothing under the old one
  pub find-new_id : (c new : List ℕ) (f : X → X) (xs : List X) (x : X) → ((x : X) → id (f x) ≡ new) → find_id id c xs ≡ Some x → has_id id xs new ≡ false → find_id id new (with_id id c f xs) ≡ Some (f x)
  find-new_id c new f [] x named found fresh = absurd (cc)
  find-new_id c new f (y ∷ ys) x named found fresh =
      let apart : AllByRecursion (λ z. bytes_eq new (id z) ≡ false) (y ∷ ys) = apart_has id new (y ∷ ys) fresh in
      elim (bytes_eq (id y) c) as (λ b. cond b (Some y) (find_id id c ys) ≡ Some x → cond (bytes_eq (id (cond b (f y) y)) new) (Some (cond b (f y) y)) (find_id id new (with_id id c f ys)) ≡ Some (f x)) [
        | true ↦ λ found. let same : y ≡ x = cc in
            cond_true (bytes_eq (id (f y)) new) (Some (f y)) (find_id id new (with_id id c f ys)) (ap (λ n. bytes_eq n new) (named y) ∙ bytes_itself new) ∙ ap (λ z. let o : Option X = Some (f z) in o) same
        | false ↦ λ found. cond_false (bytes_eq (id y) new) (Some y) (find_id id new (with_id id c f ys)) (bytes_apart new (id y) apart.0) ∙ find-new_id c new f ys x named found (has_apart id new ys apart.1)
      ] found

  pub has-old_id : (c new : List ℕ) (f : X → X) (xs : List X) → ((x : X) → id (f x) ≡ new) → bytes_eq new c ≡ false → has_id id (with_id id c f xs) c ≡ false
  has-old_id c new f [] named apart = refl
  has-old_id c new f (y ∷ ys) named apart =
      ap (λ b. b || has_id id (with_id id c f ys) c)
      (elim (bytes_eq (id y) c) as (λ b. bytes_eq (id y) c ≡ b → bytes_eq (id (cond b (f y) y)) c ≡ false) [ true ↦ λ _. ap (λ n. bytes_eq n c) (named y) ∙ apart | false ↦ λ no. no ] refl)
      ∙ has-old_id c new f ys named apart

  -- an id that is there is apart from one that is not
  pub apart_ids : (c new : List ℕ) (xs : List X) → has_id id xs c ≡ true → has_id id xs new ≡ false → bytes_eq new c ≡ false
  apart_ids c new xs there fresh =
      elim (bytes_eq new c) as (λ b. bytes_eq new c ≡ b → b ≡ false) [
        | true ↦ λ is. absurd (both_ways (has_id id xs c) (ap (has_id id xs) (sym ((bytes_eq-Decides new c).0 is)) ∙ fresh) there)
        | false ↦ λ _. refl
      ] refl

  pub has_id-without_id : (c : List ℕ) (xs : List X) → has_id id (without_id id c xs) c ≡ false
  has_id-without_id c xs =
      has_id-find id c (without_id id c xs)
      ∙ ap is_some (find-without_id id c xs c ∙ cond_true (bytes_eq c c) None (find_id id c xs) (bytes_itself c))

-- a thing put in and then changed
pub with_id-put_by_row : {X : Type 0} (id : X → List ℕ) (row : X → ℕ) (f : X → X) (x : X) (xs : List X) → row (f x) ≡ row x → has_id id xs (id x) ≡ false → with_id id (id x) f (put_by_row row x xs) ≡ put_by_row row (f x) xs
with_id-put_by_row id row f x [] same fresh = ap (λ y. y ∷ []) (cond_true (bytes_eq (id x) (id x)) (f x) x (bytes_itself (id x)))
with_id-put_by_row id row f x (y ∷ ys) same fresh =
    let apart : AllByRecursion (λ z. bytes_eq (id x) (id z) ≡ false) (y ∷ ys) = apart_has id (id x) (y ∷ ys) fresh in
    elim (ltb (row x) (row y)) as (λ b. with_id id (id x) f (cond b (x ∷ y ∷ ys) (y ∷ put_by_row row x ys)) ≡ cond b (f x ∷ y ∷ ys) (y ∷ put_by_row row (f x) ys)) [
      | true ↦ ap (λ z. z ∷ with_id id (id x) f (y ∷ ys)) (cond_true (bytes_eq (id x) (id x)) (f x) x (bytes_itself (id x))) ∙ ap (λ zs. f x ∷ zs) (with_id_absent id (id x) f (y ∷ ys) fresh)
      | false ↦ ap (λ z. z ∷ with_id id (id x) f (put_by_row row x ys)) (cond_false (bytes_eq (id y) (id x)) (f y) y (bytes_apart (id x) (id y) apart.0))
          ∙ ap (λ zs. y ∷ zs) (with_id-put_by_row id row f x ys same (has_apart id (id x) ys apart.1))
    ]
    ∙ ap (λ n. cond (ltb n (row y)) (f x ∷ y ∷ ys) (y ∷ put_by_row row (f x) ys)) (sym same)

-- a column goes to its place
pub put_by_row-column_index : (d : ColDef) (cs : List ColDef) → put_by_row column_row d cs ≡ insert cs (column_index d.row cs) d
put_by_row-column_index d [] = refl
put_by_row-column_index d (e ∷ cs) =
    let next : suc (column_index d.row cs) ≡ column_index d.row cs + 1 = omega arith in
    elim (ltb d.row e.row) as (λ b. cond b (d ∷ e ∷ cs) (e ∷ put_by_row column_row d cs) ≡ insert (e ∷ cs) (cond b 0 (column_index d.row cs + 1)) d) [
      | true ↦ refl
      | false ↦ ap (λ xs. e ∷ xs) (put_by_row-column_index d cs) ∙ ap (λ n. insert (e ∷ cs) n d) next
    ]
