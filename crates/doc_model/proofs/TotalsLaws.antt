-- Totals over lists of things with ids and over rows.
use Rattle.std.proofs.Common.{ℕ, Bool, true, false, cond, not, ◌||◌, ◌+◌, List, [], ◌∷◌, map, ◌≡◌, length, refl, sym, ap, subst, ◌∙◌, Some, eqb, ltb, arith}
use Rattle.std.proofs.lemmas.Bool.{false≢true, true≢false, and_parts}
use Rattle.std.proofs.lemmas.Slice.Eq.{bytes_eq-Decides}
use Rattle.std.specs.List.{AllByRecursion}
use Rattle.std.specs.Str.{bytes_eq}
use Rattle.doc_model.specs.ByIds.{find_id, has_id, AreDistinct, with_id, without_id}
use Rattle.doc_model.specs.Rows.{has, insert_row, insert_rows, without, has_no_duplicates, all_in, none_in, IsAscending}
use Rattle.doc_model.specs.Document.{put_by_row}
use Rattle.doc_model.specs.Counts.{total}
use Rattle.doc_model.proofs.Choices.{not_true, each_weaker, filter_all, map_each}
use Rattle.doc_model.proofs.ByIdsLaws.{bytes_apart, has_apart}
use Rattle.doc_model.proofs.RowsLaws.{has-insert_rows, insert_rows-again, none_in-without}
use Rattle.doc_model.proofs.ByRowLaws.{with_id_absent}

abbrev pub sum_of : {X : Type 0} → (X → ℕ) → List X → ℕ
sum_of m xs = total (map m xs)

module _ {X : Type 0} where
  pub total-same : (f g : X → ℕ) (xs : List X) → AllByRecursion (λ x. f x ≡ g x) xs → sum_of f xs ≡ sum_of g xs
  total-same f g xs h = ap total (map_each f g xs h)

  pub total-plus : (f g : X → ℕ) (xs : List X) → sum_of (λ x. f x + g x) xs ≡ sum_of f xs + sum_of g xs
  total-plus f g [] = omega arith
  total-plus f g (x ∷ xs) = let later : sum_of (λ x. f x + g x) xs ≡ sum_of f xs + sum_of g xs = total-plus f g xs in omega arith

  pub total-zero : (f : X → ℕ) (xs : List X) → AllByRecursion (λ x. f x ≡ 0) xs → sum_of f xs ≡ 0
  total-zero f [] h = refl
  total-zero f (x ∷ xs) h = let here : f x ≡ 0 = h.0 in let later : sum_of f xs ≡ 0 = total-zero f xs h.1 in omega arith

  pub length-total : (xs : List X) → sum_of (λ _. 1) xs ≡ length xs
  length-total [] = refl
  length-total (x ∷ xs) = let later : sum_of (λ _. 1) xs ≡ length xs = length-total xs in omega arith

zeros : {Y : Type 0} (ys : List Y) → AllByRecursion (λ y. ◌≡◌ {A = ℕ} 0 0) ys
zeros [] = tt
zeros (y ∷ ys) = (refl, zeros ys)

pub total-swap : {X Y : Type 0} (f : X → Y → ℕ) (xs : List X) (ys : List Y) → sum_of (λ x. sum_of (f x) ys) xs ≡ sum_of (λ y. sum_of (λ x. f x y) xs) ys
total-swap f [] ys = sym (total-zero (λ y. 0) ys (zeros ys))
total-swap f (x ∷ xs) ys =
    ap (λ n. sum_of (f x) ys + n) (total-swap f xs ys) ∙ sym (total-plus (f x) (λ y. sum_of (λ x. f x y) xs) ys)

module _ {X : Type 0} (id : X → List ℕ) (m : X → ℕ) where
  pub total-with_id : (c : List ℕ) (f : X → X) (xs : List X) (x : X) → AreDistinct id xs → find_id id c xs ≡ Some x → sum_of m (with_id id c f xs) + m x ≡ sum_of m xs + m (f x)
  total-with_id c f [] x d e = absurd (cc)
  total-with_id c f (y ∷ ys) x d e =
      elim (bytes_eq (id y) c) as (λ b. bytes_eq (id y) c ≡ b → cond b (Some y) (find_id id c ys) ≡ Some x → m (cond b (f y) y) + sum_of m (with_id id c f ys) + m x ≡ (m y + sum_of m ys) + m (f x)) [
        | true ↦ λ is e.
            let same : y ≡ x = cc in
            let rest : sum_of m (with_id id c f ys) ≡ sum_of m ys = ap (sum_of m) (with_id_absent id c f ys (has_apart id c ys (subst (λ n. AllByRecursion (λ z. bytes_eq n (id z) ≡ false) ys) ((bytes_eq-Decides (id y) c).0 is) d.0))) in
            let mine : m y ≡ m x = ap m same in
            let made : m (f y) ≡ m (f x) = ap (λ z. m (f z)) same in
            omega arith
        | false ↦ λ _ e. let later : sum_of m (with_id id c f ys) + m x ≡ sum_of m ys + m (f x) = total-with_id c f ys x d.1 e in omega arith
      ] refl e

  pub total-without_id : (c : List ℕ) (xs : List X) (x : X) → AreDistinct id xs → find_id id c xs ≡ Some x → sum_of m (without_id id c xs) + m x ≡ sum_of m xs
  total-without_id c [] x d e = absurd (cc)
  total-without_id c (y ∷ ys) x d e =
      elim (bytes_eq (id y) c) as (λ b. bytes_eq (id y) c ≡ b → cond b (Some y) (find_id id c ys) ≡ Some x → sum_of m (cond (not b) (y ∷ without_id id c ys) (without_id id c ys)) + m x ≡ m y + sum_of m ys) [
        | true ↦ λ is e.
            let same : y ≡ x = cc in
            let apart : AllByRecursion (λ z. not (bytes_eq (id z) c) ≡ true) ys = each_weaker (λ z. bytes_eq c (id z) ≡ false) (λ z. not (bytes_eq (id z) c) ≡ true) (λ z e. ap not (bytes_apart c (id z) e)) ys (subst (λ n. AllByRecursion (λ z. bytes_eq n (id z) ≡ false) ys) ((bytes_eq-Decides (id y) c).0 is) d.0) in
            let rest : sum_of m (without_id id c ys) ≡ sum_of m ys = ap (sum_of m) (filter_all (λ z. not (bytes_eq (id z) c)) ys apart) in
            let mine : m y ≡ m x = ap m same in
            omega arith
        | false ↦ λ _ e. let later : sum_of m (without_id id c ys) + m x ≡ sum_of m ys = total-without_id c ys x d.1 e in omega arith
      ] refl e

  pub total-put_by_row : (row : X → ℕ) (x : X) (xs : List X) → sum_of m (put_by_row row x xs) ≡ m x + sum_of m xs
  total-put_by_row row x [] = refl
  total-put_by_row row x (y ∷ ys) =
      elim (ltb (row x) (row y)) as (λ b. sum_of m (cond b (x ∷ y ∷ ys) (y ∷ put_by_row row x ys)) ≡ m x + (m y + sum_of m ys)) [
        | true ↦ refl
        | false ↦ let later : sum_of m (put_by_row row x ys) ≡ m x + sum_of m ys = total-put_by_row row x ys in omega arith
      ]

  -- what is counted of the things of one id
  pub total-none : (c : List ℕ) (xs : List X) → has_id id xs c ≡ false → sum_of (λ y. cond (bytes_eq (id y) c) (m y) 0) xs ≡ 0
  total-none c [] h = refl
  total-none c (y ∷ ys) h =
      elim (bytes_eq (id y) c) as (λ b. (b || has_id id ys c) ≡ false → cond b (m y) 0 + sum_of (λ y. cond (bytes_eq (id y) c) (m y) 0) ys ≡ 0) [
        | true ↦ λ h. absurd (true≢false h)
        | false ↦ λ h. let later : sum_of (λ y. cond (bytes_eq (id y) c) (m y) 0) ys ≡ 0 = total-none c ys h in omega arith
      ] h

  pub total-one : (c : List ℕ) (xs : List X) (x : X) → AreDistinct id xs → find_id id c xs ≡ Some x → sum_of (λ y. cond (bytes_eq (id y) c) (m y) 0) xs ≡ m x
  total-one c [] x d e = absurd (cc)
  total-one c (y ∷ ys) x d e =
      elim (bytes_eq (id y) c) as (λ b. bytes_eq (id y) c ≡ b → cond b (Some y) (find_id id c ys) ≡ Some x → cond b (m y) 0 + sum_of (λ y. cond (bytes_eq (id y) c) (m y) 0) ys ≡ m x) [
        | true ↦ λ is e.
            let same : y ≡ x = cc in
            let none : sum_of (λ y. cond (bytes_eq (id y) c) (m y) 0) ys ≡ 0 = total-none c ys (has_apart id c ys (subst (λ n. AllByRecursion (λ z. bytes_eq n (id z) ≡ false) ys) ((bytes_eq-Decides (id y) c).0 is) d.0)) in
            let mine : m y ≡ m x = ap m same in
            omega arith
        | false ↦ λ _ e. let later : sum_of (λ y. cond (bytes_eq (id y) c) (m y) 0) ys ≡ m x = total-one c ys x d.1 e in omega arith
      ] refl e

module _ (h : ℕ → ℕ) where
  pub total-insert_row : (r : ℕ) (rows : List ℕ) → has rows r ≡ false → sum_of h (insert_row r rows) ≡ h r + sum_of h rows
  total-insert_row r [] n = refl
  total-insert_row r (q ∷ rows) n =
      elim (ltb r q) as (λ b. sum_of h (cond b (r ∷ q ∷ rows) (cond (eqb r q) (q ∷ rows) (q ∷ insert_row r rows))) ≡ h r + (h q + sum_of h rows)) [
        | true ↦ refl
        | false ↦ elim (eqb r q) as (λ b. eqb r q ≡ b → sum_of h (cond b (q ∷ rows) (q ∷ insert_row r rows)) ≡ h r + (h q + sum_of h rows)) [
          | true ↦ λ is. absurd (true≢false (sym (turned is) ∙ n))
          | false ↦ λ _. let later : sum_of h (insert_row r rows) ≡ h r + sum_of h rows = total-insert_row r rows (second (eqb q r) (has rows r) n) in omega arith
        ] refl
      ]
    where
      turned : eqb r q ≡ true → (eqb q r || has rows r) ≡ true
      turned is = ap (λ b. b || has rows r) (Rattle.std.proofs.lemmas.Bool.eq-eqb q r (sym (Rattle.std.proofs.lemmas.Bool.eqb-true r q is)))

      second : (a b : Bool) → (a || b) ≡ false → b ≡ false
      second true b e = absurd (true≢false e)
      second false b e = e

  pub total-insert_rows : (qs rows : List ℕ) → has_no_duplicates qs ≡ true → none_in qs rows ≡ true → sum_of h (insert_rows qs rows) ≡ sum_of h qs + sum_of h rows
  total-insert_rows [] rows o n = omega arith
  total-insert_rows (q ∷ qs) rows o n =
      let once : (not (has qs q) ≡ true) × (has_no_duplicates qs ≡ true) = and_parts (not (has qs q)) (has_no_duplicates qs) o in
      let fresh : (not (has rows q) ≡ true) × (none_in qs rows ≡ true) = and_parts (not (has rows q)) (none_in qs rows) n in
      let later : sum_of h (insert_rows qs rows) ≡ sum_of h qs + sum_of h rows = total-insert_rows qs rows once.1 fresh.1 in
      let here : sum_of h (insert_row q (insert_rows qs rows)) ≡ h q + sum_of h (insert_rows qs rows)
      = total-insert_row q (insert_rows qs rows) (has-insert_rows qs rows q ∙ ap (λ b. b || has rows q) (not_true (has qs q) once.0) ∙ not_true (has rows q) fresh.0) in
      omega arith

  -- rows that stand in a list, and the others
  pub total-without : (qs rows : List ℕ) → IsAscending rows → has_no_duplicates qs ≡ true → all_in qs rows ≡ true → sum_of h (without qs rows) + sum_of h qs ≡ sum_of h rows
  total-without qs rows a o t =
      let all : sum_of h (insert_rows qs (without qs rows)) ≡ sum_of h qs + sum_of h (without qs rows) = total-insert_rows qs (without qs rows) o (none_in-without qs rows) in
      let same : sum_of h (insert_rows qs (without qs rows)) ≡ sum_of h rows = ap (sum_of h) (insert_rows-again qs rows a t) in
      omega arith
