-- One step of a loop that goes over a list.
use Rattle.std.specs.Prelude.{find}
use Rattle.std.proofs.Common.{◌||◌, drop, drop-cons, Option, Some, ℕ, zero, suc, Bool, true, false, cond, not, List, [], ◌∷◌, ◌++◌, map, filter, take, ◌≡◌, ◌<◌, ◌+◌, length, get_or, refl, sym, ap, subst, ◌∙◌, append_assoc, arith}
use Rattle.std.proofs.lemmas.List.Elements.{filter_more}
use Rattle.std.specs.List.{AllByRecursion, list_any}
use Rattle.doc_model.specs.ViewEdits.{if_any}
use Rattle.std.proofs.lemmas.List.{take_more}
use Rattle.doc_model.specs.Changes.{for_each}

pub take_next : {X : Type 0} (xs : List X) (i : ℕ) (x y : X) (ys zs : List X) → i < length xs → x ≡ get_or xs i x → ys ≡ take i xs → y ≡ x → zs ≡ ys ++ y ∷ [] → zs ≡ take (i + 1) xs
take_next xs i x y ys zs lt is before same next =
    next ∙ ap (λ l. l ++ y ∷ []) before ∙ ap (λ z. take i xs ++ z ∷ []) (same ∙ is) ∙ sym (take_more xs i x lt)

pub for_each-append : {X Y : Type 0} (f : X → List Y) (xs ys : List X) → for_each f (xs ++ ys) ≡ for_each f xs ++ for_each f ys
for_each-append f [] ys = refl
for_each-append f (x ∷ xs) ys = ap (λ l. f x ++ l) (for_each-append f xs ys) ∙ sym (append_assoc (f x) (for_each f xs) (for_each f ys))

pub append_none : {X : Type 0} (xs : List X) → xs ++ [] ≡ xs
append_none [] = refl
append_none (x ∷ xs) = ap (λ l. x ∷ l) (append_none xs)

-- what each thing adds is added behind what was there
pub each_next : {X Y : Type 0} (f : X → List Y) (xs : List X) (i : ℕ) (x : X) (front ys zs : List Y) → i < length xs → x ≡ get_or xs i x → ys ≡ front ++ for_each f (take i xs) → zs ≡ ys ++ f x → zs ≡ front ++ for_each f (take (i + 1) xs)
each_next f xs i x front ys zs lt is before next =
    next ∙ ap (λ l. l ++ f x) before
    ∙ append_assoc front (for_each f (take i xs)) (f x)
    ∙ ap (λ l. front ++ l) (ap (λ l. for_each f (take i xs) ++ l) (ap f is ∙ sym (append_none (f (get_or xs i x))))
    ∙ sym (for_each-append f (take i xs) (get_or xs i x ∷ []))
    ∙ ap (for_each f) (sym (take_more xs i x lt)))

-- a number that passes is kept behind what was kept
pub filter_next : (p : ℕ → Bool) (items xs : List ℕ) (i : ℕ) (b : Bool) (ys zs : List ℕ) → items ≡ xs → i < length items → ys ≡ filter p (take i xs) → b ≡ p (get_or items i 0)
    → zs ≡ ys ++ cond b (get_or items i 0 ∷ []) [] → zs ≡ filter p (take (i + 1) xs)
filter_next p items xs i b ys zs e lt before is next =
    next ∙ ap (λ l. l ++ cond b (get_or items i 0 ∷ []) []) (before ∙ ap (λ l. filter p (take i l)) (sym e))
    ∙ ap (λ b. filter p (take i items) ++ cond b (get_or items i 0 ∷ []) []) is
    ∙ sym (filter_more p items i 0 lt)
    ∙ ap (λ l. filter p (take (i + 1) l)) e

-- lists of one item or none are a map over a filter
pub each_when : {X Y : Type 0} (p : X → Bool) (f : X → Y) (xs : List X) → for_each (λ x. cond (p x) (f x ∷ []) []) xs ≡ map f (filter p xs)
each_when p f [] = refl
each_when {X} {Y} p f (x ∷ xs) =
    elim (p x) as (λ b. cond b (f x ∷ []) [] ++ for_each (λ x. cond (p x) (f x ∷ []) []) xs ≡ map f (cond b (x ∷ filter p xs) (filter p xs))) [
      | true ↦ ap (λ l. f x ∷ l) (each_when p f xs)
      | false ↦ each_when p f xs
    ]

pub each_unless : {X Y : Type 0} (p : X → Bool) (f : X → List Y) (xs : List X) → for_each (λ x. cond (p x) [] (f x)) xs ≡ for_each f (filter (λ x. not (p x)) xs)
each_unless p f [] = refl
each_unless {X} {Y} p f (x ∷ xs) =
    elim (p x) as (λ b. cond b [] (f x) ++ for_each (λ x. cond (p x) [] (f x)) xs ≡ for_each f (cond (not b) (x ∷ filter (λ x. not (p x)) xs) (filter (λ x. not (p x)) xs))) [
      | true ↦ each_unless p f xs
      | false ↦ ap (λ l. f x ++ l) (each_unless p f xs)
    ]

pub each_one : {X Y : Type 0} (f : X → Y) (xs : List X) → for_each (λ x. f x ∷ []) xs ≡ map f xs
each_one f [] = refl
each_one f (x ∷ xs) = ap (λ l. f x ∷ l) (each_one f xs)

pub each_same : {X Y : Type 0} (f g : X → List Y) (xs : List X) → AllByRecursion (λ x. f x ≡ g x) xs → for_each f xs ≡ for_each g xs
each_same f g [] h = refl
each_same f g (x ∷ xs) h = ap (λ l. l ++ for_each f xs) h.0 ∙ ap (λ l. g x ++ l) (each_same f g xs h.1)

pub map-append : {X Y : Type 0} (f : X → Y) (xs ys : List X) → map f (xs ++ ys) ≡ map f xs ++ map f ys
map-append f [] ys = refl
map-append f (x ∷ xs) ys = ap (λ l. f x ∷ l) (map-append f xs ys)

pub map-if_any : {X Y : Type 0} (f : X → Y) (rows : List ℕ) (x : X) → map f (if_any rows x) ≡ if_any rows (f x)
map-if_any f [] x = refl
map-if_any f (r ∷ rows) x = refl

-- what holds of each holds of the one at an index
pub each_item : {X : Type 0} (P : X → Type 0) (xs : List X) (i : ℕ) (x : X) → AllByRecursion P xs → i < length xs → x ≡ get_or xs i x → P x
each_item P [] i x h lt is = absurd (omega arith)
each_item P (y ∷ xs) zero x h lt is = subst P (sym is) h.0
each_item P (y ∷ xs) (suc i) x h lt is = each_item P xs i x h.1 (omega arith) is

-- the rest begins with the thing at the index
rest_at : {X : Type 0} (xs : List X) (i : ℕ) (x : X) → i < length xs → x ≡ get_or xs i x → drop i xs ≡ x ∷ drop (suc i) xs
rest_at xs i x lt is = drop-cons xs i x lt ∙ ap (λ z. z ∷ drop (suc i) xs) (sym is)

-- a thing that passes decides whether one does
pub any_here : {X : Type 0} (test : X → Bool) (xs : List X) (i : ℕ) (x : X) (b : Bool) → i < length xs → x ≡ get_or xs i x → list_any test (drop i xs) ≡ b → true ≡ test x → true ≡ b
any_here test xs i x b lt is e t = ap (λ v. v || list_any test (drop (suc i) xs)) t ∙ sym (ap (list_any test) (rest_at xs i x lt is)) ∙ e

-- and one that does not leaves it to the rest
pub any_later : {X : Type 0} (test : X → Bool) (xs : List X) (i : ℕ) (x : X) (b : Bool) → i < length xs → x ≡ get_or xs i x → list_any test (drop i xs) ≡ b → false ≡ test x → list_any test (drop (i + 1) xs) ≡ b
any_later test xs i x b lt is e f =
    let one : i + 1 ≡ suc i = omega arith in
    ap (λ k. list_any test (drop k xs)) one ∙ ap (λ v. v || list_any test (drop (suc i) xs)) f ∙ sym (ap (list_any test) (rest_at xs i x lt is)) ∙ e

-- the first thing that passes is the one found
pub find_here : {X : Type 0} (test : X → Bool) (xs : List X) (i : ℕ) (x : X) (o : Option X) → i < length xs → x ≡ get_or xs i x → find test (drop i xs) ≡ o → true ≡ test x → Some x ≡ o
find_here test xs i x o lt is e t = ap (λ v. cond v (Some x) (find test (drop (suc i) xs))) t ∙ sym (ap (find test) (rest_at xs i x lt is)) ∙ e

pub find_later : {X : Type 0} (test : X → Bool) (xs : List X) (i : ℕ) (x : X) (o : Option X) → i < length xs → x ≡ get_or xs i x → find test (drop i xs) ≡ o → false ≡ test x → find test (drop (i + 1) xs) ≡ o
find_later test xs i x o lt is e f =
    let one : i + 1 ≡ suc i = omega arith in
    ap (λ k. find test (drop k xs)) one ∙ ap (λ v. cond v (Some x) (find test (drop (suc i) xs))) f ∙ sym (ap (find test) (rest_at xs i x lt is)) ∙ e
