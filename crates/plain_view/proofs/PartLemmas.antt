-- Rows in which two tables agree, and lists of which only some things pass.
use Rattle.std.proofs.Common.{ℕ, Bool, true, false, cond, ◌&&◌, List, [], ◌∷◌, ◌++◌, map, filter, ◌≡◌, refl, sym, ap, ◌∙◌, Option, Some, None, option_map}
use Rattle.std.specs.List.{AllByRecursion}
use Rattle.std.specs.Str.{bytes_eq}
use Rattle.doc_model.specs.ByIds.{find_id}
use Rattle.doc_model.specs.Changes.{for_each}
use Rattle.doc_model.specs.Grid.{Grid}
use Rattle.doc_model.proofs.Choices.{keep}
use Rattle.doc_model.specs.SameRows.{Both, SameRow}

module _ {C : Type 0} (id : C → List ℕ) where
  pub SameRow-trans : (r : ℕ) (f g h : Grid C) → SameRow id r f g → SameRow id r g h → SameRow id r f h
  SameRow-trans r f g h a b = record {
    columns = a.columns ∙ b.columns;
    rows = a.rows ∙ b.rows;
    cells = λ d found here. a.cells d found here ∙ b.cells d (ap (find_id id (id d)) (sym a.columns) ∙ found) (sym a.rows ∙ here);
  }

module _ {X : Type 0} (R : X → X → Type 0) where
  pub both_trans : ((x y z : X) → R x y → R y z → R x z) → (o p q : Option X) → Both R o p → Both R p q → Both R o q
  both_trans trans None None q a b = b
  both_trans trans None (Some y) q a b = absurd a
  both_trans trans (Some x) None q a b = absurd a
  both_trans trans (Some x) (Some y) None a b = absurd b
  both_trans trans (Some x) (Some y) (Some z) a b = trans x y z a b

pub both_mapped : {X Y : Type 0} (R : X → X → Type 0) (S : Y → Y → Type 0) (f : X → Y) → ((x y : X) → R x y → S (f x) (f y)) → (o p : Option X) → Both R o p → Both S (option_map f o) (option_map f p)
both_mapped R S f step None None a = tt
both_mapped R S f step None (Some y) a = absurd a
both_mapped R S f step (Some x) None a = absurd a
both_mapped R S f step (Some x) (Some y) a = step x y a

-- ---- lists

pub map_every : {X Y : Type 0} (f g : X → Y) → ((x : X) → f x ≡ g x) → (xs : List X) → map f xs ≡ map g xs
map_every f g same [] = refl
map_every f g same (x ∷ xs) = ap (λ y. y ∷ map f xs) (same x) ∙ ap (λ ys. g x ∷ ys) (map_every f g same xs)

pub each_passes : {X : Type 0} (p : X → Bool) (xs : List X) → AllByRecursion (λ x. p x ≡ true) (filter p xs)
each_passes p [] = tt
each_passes p (x ∷ xs) =
    elim (p x) as (λ b. p x ≡ b → AllByRecursion (λ x. p x ≡ true) (cond b (x ∷ filter p xs) (filter p xs))) [
      | true ↦ λ is. (is, each_passes p xs)
      | false ↦ λ _. each_passes p xs
    ] refl

-- what passes one test after another
pub filter_again : {X : Type 0} (p q k : X → Bool) (xs : List X) → AllByRecursion (λ x. (p x && q x) ≡ k x) xs → filter q (filter p xs) ≡ filter k xs
filter_again p q k [] h = refl
filter_again p q k (x ∷ xs) h =
    elim (p x) as (λ b. (b && q x) ≡ k x → filter q (cond b (x ∷ filter p xs) (filter p xs)) ≡ cond (k x) (x ∷ filter k xs) (filter k xs)) [
      | true ↦ λ e. ap (λ b. cond b (x ∷ filter q (filter p xs)) (filter q (filter p xs))) e ∙ ap (λ ys. cond (k x) (x ∷ ys) ys) (filter_again p q k xs h.1)
      | false ↦ λ e. filter_again p q k xs h.1 ∙ ap (λ b. cond b (x ∷ filter k xs) (filter k xs)) e
    ] h.0

filter-map : {X Y : Type 0} (f : X → Y) (q : Y → Bool) (xs : List X) → filter q (map f xs) ≡ map f (filter (λ x. q (f x)) xs)
filter-map f q [] = refl
filter-map f q (x ∷ xs) =
    elim (q (f x)) as (λ b. cond b (f x ∷ filter q (map f xs)) (filter q (map f xs)) ≡ map f (cond b (x ∷ filter (λ x. q (f x)) xs) (filter (λ x. q (f x)) xs))) [
      | true ↦ ap (λ ys. f x ∷ ys) (filter-map f q xs)
      | false ↦ filter-map f q xs
    ]

-- the same of things made of those that passed the first
pub filter_through : {X Y : Type 0} (f : X → Y) (p : X → Bool) (q : Y → Bool) (k : X → Bool) (xs : List X) → AllByRecursion (λ x. (p x && q (f x)) ≡ k x) xs
    → filter q (map f (filter p xs)) ≡ map f (filter k xs)
filter_through f p q k xs h = filter-map f q (filter p xs) ∙ ap (map f) (filter_again p (λ x. q (f x)) k xs h)

pub for_each_through : {X Y Z : Type 0} (f : X → Y) (p : X → Bool) (g : Y → List Z) (k : X → List Z) (xs : List X) → AllByRecursion (λ x. cond (p x) (g (f x)) [] ≡ k x) xs
    → for_each g (map f (filter p xs)) ≡ for_each k xs
for_each_through f p g k [] h = refl
for_each_through f p g k (x ∷ xs) h =
    elim (p x) as (λ b. cond b (g (f x)) [] ≡ k x → for_each g (map f (cond b (x ∷ filter p xs) (filter p xs))) ≡ k x ++ for_each k xs) [
      | true ↦ λ e. ap (λ zs. zs ++ for_each g (map f (filter p xs))) e ∙ ap (λ zs. k x ++ zs) (for_each_through f p g k xs h.1)
      | false ↦ λ e. for_each_through f p g k xs h.1 ∙ ap (λ zs. zs ++ for_each k xs) e
    ] h.0

pub for_each_mapped : {X Y Z : Type 0} (f : X → Y) (g : Y → List Z) (k : X → List Z) (xs : List X) → AllByRecursion (λ x. g (f x) ≡ k x) xs → for_each g (map f xs) ≡ for_each k xs
for_each_mapped f g k [] h = refl
for_each_mapped f g k (x ∷ xs) h = ap (λ zs. zs ++ for_each g (map f xs)) h.0 ∙ ap (λ zs. k x ++ zs) (for_each_mapped f g k xs h.1)

-- ---- what is found among things that are made

-- things made of others under their ids are found as these are
pub find-mapped : {X Y : Type 0} (of : X → List ℕ) (id : Y → List ℕ) (f : X → Y) → ((x : X) → id (f x) ≡ of x) → (c : List ℕ) (xs : List X) → find_id id c (map f xs) ≡ option_map f (find_id of c xs)
find-mapped of id f same c [] = refl
find-mapped of id f same c (x ∷ xs) =
    ap (λ n. cond (bytes_eq n c) (Some (f x)) (find_id id c (map f xs))) (same x)
    ∙ ap (λ o. cond (bytes_eq (of x) c) (Some (f x)) o) (find-mapped of id f same c xs)
    ∙ elim (bytes_eq (of x) c) as (λ b. cond b (Some (f x)) (option_map f (find_id of c xs)) ≡ option_map f (cond b (Some x) (find_id of c xs))) [ true ↦ refl | false ↦ refl ]

-- what is kept by its id alone
pub keep_by_id : {X : Type 0} (id : X → List ℕ) (p : List ℕ → Bool) (c : List ℕ) (o : Option X) → ((x : X) → o ≡ Some x → id x ≡ c) → keep (λ x. p (id x)) o ≡ cond (p c) o None
keep_by_id {X = X} id p c None named = elim (p c) as (λ b. ◌≡◌ {A = Option X} None (cond b None None)) [ true ↦ refl | false ↦ refl ]
keep_by_id id p c (Some x) named = ap (λ n. cond (p n) (Some x) None) (named x refl)
