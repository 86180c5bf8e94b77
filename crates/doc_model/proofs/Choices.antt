-- Choices by a truth value, and facts of each element of a list.
use Rattle.std.proofs.Common.{Bool, true, false, cond, not, ◌||◌, ◌&&◌, List, [], ◌∷◌, map, filter, ◌≡◌, refl, ap, ◌∙◌, Option, Some, None, length, suc}
use Rattle.std.proofs.lemmas.Bool.{false≢true, true≢false, and_parts}
use Rattle.std.specs.List.{AllByRecursion, list_all}

pub cond_true : {X : Type 0} (b : Bool) (x y : X) → b ≡ true → cond b x y ≡ x
cond_true true x y e = refl
cond_true false x y e = absurd (false≢true e)

pub cond_false : {X : Type 0} (b : Bool) (x y : X) → b ≡ false → cond b x y ≡ y
cond_false false x y e = refl
cond_false true x y e = absurd (true≢false e)

-- a test that is not true is false
pub false_from : (b : Bool) → (b ≡ true → ⊥) → b ≡ false
false_from true h = absurd (h refl)
false_from false h = refl

pub not_true : (b : Bool) → not b ≡ true → b ≡ false
not_true true e = absurd (false≢true e)
not_true false e = refl

-- the parts of tests that are all true, and the tests of them
pub both_true : (a b : Bool) → a ≡ true → b ≡ true → (a && b) ≡ true
both_true true b p q = q
both_true false b p q = absurd (false≢true p)

pub parts_3 : (a b c : Bool) → ((a && b) && c) ≡ true → (a ≡ true) × (b ≡ true) × (c ≡ true)
parts_3 a b c e =
    let two : ((a && b) ≡ true) × (c ≡ true) = and_parts (a && b) c e in
    let one : (a ≡ true) × (b ≡ true) = and_parts a b two.0 in
    (one.0, one.1, two.1)

pub parts_4 : (a b c d : Bool) → (((a && b) && c) && d) ≡ true → (a ≡ true) × (b ≡ true) × (c ≡ true) × (d ≡ true)
parts_4 a b c d e =
    let two : (((a && b) && c) ≡ true) × (d ≡ true) = and_parts ((a && b) && c) d e in
    let three : (a ≡ true) × (b ≡ true) × (c ≡ true) = parts_3 a b c two.0 in
    (three.0, three.1, three.2, two.1)

pub parts_6 : (a b c d e f : Bool) → (((((a && b) && c) && d) && e) && f) ≡ true → (a ≡ true) × (b ≡ true) × (c ≡ true) × (d ≡ true) × (e ≡ true) × (f ≡ true)
parts_6 a b c d e f h =
    let two : (((((a && b) && c) && d) && e) ≡ true) × (f ≡ true) = and_parts ((((a && b) && c) && d) && e) f h in
    let four : ((((a && b) && c) && d) ≡ true) × (e ≡ true) = and_parts (((a && b) && c) && d) e two.0 in
    let rest : (a ≡ true) × (b ≡ true) × (c ≡ true) × (d ≡ true) = parts_4 a b c d four.0 in
    (rest.0, rest.1, rest.2, rest.3, four.1, two.1)

-- a test of each element, from a fact of each
pub true_each : {X : Type 0} (p : X → Bool) (xs : List X) → AllByRecursion (λ x. p x ≡ true) xs → list_all p xs ≡ true
true_each p [] h = refl
true_each p (x ∷ xs) h = both_true (p x) (list_all p xs) h.0 (true_each p xs h.1)

-- what a thing is kept by, where there is one
abbrev pub keep : {X : Type 0} → (X → Bool) → Option X → Option X
keep p None = None
keep p (Some x) = cond (p x) (Some x) None

pub each_weaker : {X : Type 0} (P Q : X → Type 0) → ((x : X) → P x → Q x) → (xs : List X) → AllByRecursion P xs → AllByRecursion Q xs
each_weaker P Q f [] h = tt
each_weaker P Q f (x ∷ xs) h = (f x h.0, each_weaker P Q f xs h.1)

pub each_both : {X : Type 0} (P Q : X → Type 0) (xs : List X) → AllByRecursion P xs → AllByRecursion Q xs → AllByRecursion (λ x. P x × Q x) xs
each_both P Q [] h k = tt
each_both P Q (x ∷ xs) h k = ((h.0, k.0), each_both P Q xs h.1 k.1)

pub each_map : {X Y : Type 0} (P : Y → Type 0) (f : X → Y) (xs : List X) → ((x : X) → P (f x)) → AllByRecursion P (map f xs)
each_map P f [] h = tt
each_map P f (x ∷ xs) h = (h x, each_map P f xs h)

pub each_mapped : {X Y : Type 0} (P : Y → Type 0) (f : X → Y) (xs : List X) → AllByRecursion (λ x. P (f x)) xs → AllByRecursion P (map f xs)
each_mapped P f [] h = tt
each_mapped P f (x ∷ xs) h = (h.0, each_mapped P f xs h.1)

pub each_unmapped : {X Y : Type 0} (P : Y → Type 0) (f : X → Y) (xs : List X) → AllByRecursion P (map f xs) → AllByRecursion (λ x. P (f x)) xs
each_unmapped P f [] h = tt
each_unmapped P f (x ∷ xs) h = (h.0, each_unmapped P f xs h.1)

-- what passes passes
pub each_passed : {X : Type 0} (P : X → Type 0) (p : X → Bool) (xs : List X) → AllByRecursion P xs → AllByRecursion (λ x. P x × (p x ≡ true)) (filter p xs)
each_passed P p [] h = tt
each_passed P p (x ∷ xs) h =
    elim (p x) as (λ b. p x ≡ b → AllByRecursion (λ x. P x × (p x ≡ true)) (cond b (x ∷ filter p xs) (filter p xs))) [ true ↦ λ is. ((h.0, is), each_passed P p xs h.1) | false ↦ λ _. each_passed P p xs h.1 ] refl

pub each_filter : {X : Type 0} (P : X → Type 0) (p : X → Bool) (xs : List X) → AllByRecursion P xs → AllByRecursion P (filter p xs)
each_filter P p [] h = tt
each_filter P p (x ∷ xs) h =
    elim (p x) as (λ b. AllByRecursion P (cond b (x ∷ filter p xs) (filter p xs))) [ true ↦ (h.0, each_filter P p xs h.1) | false ↦ each_filter P p xs h.1 ]

-- each element passes the test
pub each_true : {X : Type 0} (p : X → Bool) (xs : List X) → list_all p xs ≡ true → AllByRecursion (λ x. p x ≡ true) xs
each_true p [] h = tt
each_true p (x ∷ xs) h = let both : (p x ≡ true) × (list_all p xs ≡ true) = and_parts (p x) (list_all p xs) h in (both.0, each_true p xs both.1)

-- two functions that agree at each element make one list
pub map_each : {X Y : Type 0} (f g : X → Y) (xs : List X) → AllByRecursion (λ x. f x ≡ g x) xs → map f xs ≡ map g xs
map_each f g [] h = refl
map_each f g (x ∷ xs) h = ap (λ y. y ∷ map f xs) h.0 ∙ ap (λ ys. g x ∷ ys) (map_each f g xs h.1)

pub map-map : {X Y Z : Type 0} (g : Y → Z) (f : X → Y) (xs : List X) → map (λ x. g (f x)) xs ≡ map g (map f xs)
map-map g f [] = refl
map-map g f (x ∷ xs) = ap (λ ys. g (f x) ∷ ys) (map-map g f xs)

pub length_map : {X Y : Type 0} (f : X → Y) (xs : List X) → length (map f xs) ≡ length xs
length_map f [] = refl
length_map f (x ∷ xs) = ap suc (length_map f xs)

-- nothing is kept where nothing passes
pub filter_none : {X : Type 0} (p : X → Bool) (xs : List X) → AllByRecursion (λ x. p x ≡ false) xs → filter p xs ≡ []
filter_none p [] h = refl
filter_none p (x ∷ xs) h = cond_false (p x) (x ∷ filter p xs) (filter p xs) h.0 ∙ filter_none p xs h.1

pub filter_all : {X : Type 0} (p : X → Bool) (xs : List X) → AllByRecursion (λ x. p x ≡ true) xs → filter p xs ≡ xs
filter_all p [] h = refl
filter_all p (x ∷ xs) h = cond_true (p x) (x ∷ filter p xs) (filter p xs) h.0 ∙ ap (λ r. x ∷ r) (filter_all p xs h.1)

pub or_swap : (a b c : Bool) → (a || (b || c)) ≡ (b || (a || c))
or_swap true true c = refl
or_swap true false c = refl
or_swap false b c = refl

pub or_assoc : (a b c : Bool) → (a || (b || c)) ≡ ((a || b) || c)
or_assoc true b c = refl
or_assoc false b c = refl

pub or_false : (a : Bool) → (a || false) ≡ a
or_false true = refl
or_false false = refl
