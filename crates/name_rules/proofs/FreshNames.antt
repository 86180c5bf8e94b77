-- The id that is made of a wanted one is free, and a name.
use Rattle.std.proofs.Common.{◌≡◌, ℕ, zero, suc, ◌+◌, ◌*◌, ◌<◌, ◌≤◌, Bool, true, false, cond, List, length, refl, subst, ◌⊎◌, inl, inr, ⊎_elim, arith}
use Rattle.std.proofs.lemmas.Bool.{cases_lt}
use Rattle.cell_types.specs.NameRule.{is_name}
use Rattle.name_rules.specs.FreeName.{AreFew, free_name, is_taken, least_free, numbered}
use Rattle.name_rules.specs.FreshLaw.{FreshLaw}
use Rattle.name_rules.proofs.FreeNumbers.{not_all_taken}
use Rattle.name_rules.proofs.NumberedNames.{is_name-numbered}

-- a number makes the text free, and is one of so many
record IsFree (taken : List (List ℕ)) (text : List ℕ) (start count number : ℕ) : Type 0 where
  free : is_taken taken (numbered text number) ≡ false
  from : start ≤ number
  to : number < start + count

abbrev AreAllTaken : List (List ℕ) → List ℕ → ℕ → ℕ → Type 0
AreAllTaken taken text start count = (j : ℕ) → start ≤ j → j < start + count → is_taken taken (numbered text j) ≡ true

one_more : (taken : List (List ℕ)) (text : List ℕ) (start count : ℕ) → is_taken taken (numbered text start) ≡ true
    → IsFree taken text (suc start) count (least_free taken text (suc start) count) ⊎ AreAllTaken taken text (suc start) count
    → IsFree taken text start (suc count) (least_free taken text (suc start) count) ⊎ AreAllTaken taken text start (suc count)
one_more taken text start count here (inl found) = inl (record { free = found.free; from = omega (arith, found.from); to = omega (arith, found.to) })
one_more taken text start count here (inr all) = inr (λ j from to. ⊎_elim
    (λ later. all j (omega (arith, later)) (omega (arith, to)))
    (λ same. let is : start ≡ j = omega (arith, same, from) in subst (λ k. is_taken taken (numbered text k) ≡ true) is here)
    (cases_lt start j))

-- the least number makes the text free, where one of so many does
least_free-found : (taken : List (List ℕ)) (text : List ℕ) (start count : ℕ) → IsFree taken text start count (least_free taken text start count) ⊎ AreAllTaken taken text start count
unfolding least_free
least_free-found taken text start zero = inr (λ j from to. absurd (omega (arith, from, to)))
least_free-found taken text start (suc count) =
    elim (is_taken taken (numbered text start)) as (λ b. is_taken taken (numbered text start) ≡ b → IsFree taken text start (suc count) (cond b (least_free taken text (suc start) count) start) ⊎ AreAllTaken taken text start (suc count)) [
      | true ↦ λ here. one_more taken text start count here (least_free-found taken text (suc start) count)
      | false ↦ λ free. inl (record { free = free; from = omega arith; to = omega arith })
    ] refl

numbered_fresh : (taken : List (List ℕ)) (text : List ℕ) (number : ℕ) → AreFew taken → is_name text ≡ true
    → IsFree taken text 2 (12 * length taken + 100) number ⊎ AreAllTaken taken text 2 (12 * length taken + 100)
    → (is_taken taken (numbered text number) ≡ false) × (is_name (numbered text number) ≡ true)
numbered_fresh taken text number few good (inl found) = (found.free, is_name-numbered text number (omega (arith, few, found.to)) good)
numbered_fresh taken text number few good (inr all) = absurd (not_all_taken taken text few (λ j from to. all j from (omega (arith, to))))

-- the text or the numbered one, by whether it is taken
abbrev IsFreshBy : List (List ℕ) → List ℕ → ℕ → Bool → Type 0
IsFreshBy taken text number b =
    let name : List ℕ = cond b (numbered text number) text in (is_taken taken name ≡ false) × (is_name name ≡ true)

pub free_name-fresh : FreshLaw
unfolding free_name
free_name-fresh taken text few good =
    let number : ℕ = least_free taken text 2 (12 * length taken + 100) in
    elim (is_taken taken text) as (λ b. is_taken taken text ≡ b → IsFreshBy taken text number b) [
      | true ↦ λ _. numbered_fresh taken text number few good (least_free-found taken text 2 (12 * length taken + 100))
      | false ↦ λ free. (free, good)
    ] refl
