-- Sums and greatest numbers as a walk finds them, and sums as far as 64 bits can tell.
use Rattle.std.proofs.Common.{ℕ, Bool, true, false, cond, not, ◌+◌, ◌-◌, ◌^◌, ◌<◌, ◌≤◌, min, max, List, [], ◌∷◌, ◌++◌, map, filter, length, take, get_or, ◌≡◌, refl, sym, ap, ◌∙◌, arith, ltb}
use Rattle.std.proofs.lemmas.Bool.{ltb-true, ltb-false}
use Rattle.std.proofs.lemmas.List.{take_more}
use Rattle.doc_model.specs.Counts.{greatest, total}
use Rattle.doc_model.proofs.MaximaSums.{total-append}
use Rattle.doc_model.proofs.TotalsLaws.{sum_of}
use Rattle.action_limits.specs.Capped.{capped}

-- a sum of capped numbers
pub capped-plus : (a b : ℕ) → min (capped a + capped b) (2 ^ 64 - 1) ≡ capped (a + b)
capped-plus a b = grind arith

-- one more number
pub capped_step : {X : Type 0} (f : X → ℕ) (xs : List X) (i : ℕ) (d x : X) (sum next w : ℕ) → i < length xs → get_or xs i d ≡ x
    → sum ≡ capped (sum_of f (take i xs)) → w ≡ capped (f x) → next ≡ min (sum + w) (2 ^ 64 - 1) → next ≡ capped (sum_of f (take (i + 1) xs))
capped_step f xs i d x sum next w within at so is made =
    let more : sum_of f (take (i + 1) xs) ≡ sum_of f (take i xs) + (f x + 0) =
    ap (sum_of f) (take_more xs i d within) ∙ total-append f (take i xs) (get_or xs i d ∷ []) ∙ ap (λ y. sum_of f (take i xs) + (f y + 0)) at in
    made
    ∙ ap (λ n. min (n + w) (2 ^ 64 - 1)) so
    ∙ ap (λ n. min (capped (sum_of f (take i xs)) + n) (2 ^ 64 - 1)) is
    ∙ capped-plus (sum_of f (take i xs)) (f x)
    ∙ ap capped (omega (arith, more))

-- what is greatest among those of two lists
pub greatest-cons : (n : ℕ) (ns : List ℕ) → greatest (n ∷ ns) ≡ max n (greatest ns)
greatest-cons n ns = elim (ltb n (greatest ns)) as (λ b. ltb n (greatest ns) ≡ b → cond b (greatest ns) n ≡ max n (greatest ns)) [
  | true ↦ λ is. let lt : n < greatest ns = ltb-true n (greatest ns) is in grind arith
  | false ↦ λ is. let ge : greatest ns ≤ n = ltb-false n (greatest ns) is in grind arith
] refl

pub greatest-append : (ms ns : List ℕ) → greatest (ms ++ ns) ≡ max (greatest ms) (greatest ns)
greatest-append [] ns = grind arith
greatest-append (m ∷ ms) ns =
    let later : greatest (ms ++ ns) ≡ max (greatest ms) (greatest ns) = greatest-append ms ns in
    let here : greatest (m ∷ (ms ++ ns)) ≡ max m (greatest (ms ++ ns)) = greatest-cons m (ms ++ ns) in
    let alone : greatest (m ∷ ms) ≡ max m (greatest ms) = greatest-cons m ms in
    grind arith

pub map-append : {X Y : Type 0} (f : X → Y) (xs ys : List X) → map f (xs ++ ys) ≡ map f xs ++ map f ys
map-append f [] ys = refl
map-append f (x ∷ xs) ys = ap (λ zs. f x ∷ zs) (map-append f xs ys)

pub greatest_step : {X : Type 0} (f : X → ℕ) (xs : List X) (i : ℕ) (d x : X) (most next n : ℕ) → i < length xs → get_or xs i d ≡ x
    → most ≡ greatest (map f (take i xs)) → n ≡ f x → next ≡ max most n → next ≡ greatest (map f (take (i + 1) xs))
greatest_step f xs i d x most next n within at so is made =
    made ∙ ap (λ k. max k n) so ∙ ap (max (greatest (map f (take i xs)))) (is ∙ sym (ap f at) ∙ alone (f (get_or xs i d)))
    ∙ sym (greatest-append (map f (take i xs)) (f (get_or xs i d) ∷ []))
    ∙ ap greatest (sym (map-append f (take i xs) (get_or xs i d ∷ [])))
    ∙ ap (λ l. greatest (map f l)) (sym (take_more xs i d within))
  where
    alone : (k : ℕ) → k ≡ greatest (k ∷ [])
    alone k = let e : greatest (k ∷ []) ≡ max k 0 = greatest-cons k [] in grind arith

-- those that pass, and the others as nothing
pub sum_passing : {X : Type 0} (p : X → Bool) (f : X → ℕ) (xs : List X) → sum_of (λ x. cond (p x) 0 (f x)) xs ≡ total (map f (filter (λ x. not (p x)) xs))
sum_passing p f [] = refl
sum_passing p f (x ∷ xs) =
    elim (p x) as (λ b. cond b 0 (f x) + sum_of (λ x. cond (p x) 0 (f x)) xs ≡ total (map f (cond (not b) (x ∷ filter (λ x. not (p x)) xs) (filter (λ x. not (p x)) xs)))) [
      | true ↦ let later : sum_of (λ x. cond (p x) 0 (f x)) xs ≡ total (map f (filter (λ x. not (p x)) xs)) = sum_passing p f xs in omega arith
      | false ↦ ap (λ n. f x + n) (sum_passing p f xs)
    ]
