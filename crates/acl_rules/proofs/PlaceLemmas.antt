-- Things by their places, and rules beside resources.
use Rattle.std.proofs.Common.{◌≡◌, ◌∙◌, ap, refl, sym, ℕ, zero, suc, ◌+◌, ◌<◌, ◌==◌, arith, take, get_or, Bool, true, false, cond, List, [], ◌∷◌, ◌++◌, length, filter, Option, Some, None, Vec, Global, bytes_eq}
use Rattle.std.specs.List.{slice_get}
use Rattle.std.proofs.lemmas.Bool.{eqb-true, false_from_ne_true}
use Rattle.std.proofs.lemmas.Slice.Eq.{bytes_eq-Decides}
use Rattle.std.proofs.lemmas.Grind.{common_steps, take_at_read}
use Rattle.acl_rules.specs.declared.resource.Resource.{Resource}
use Rattle.acl_rules.specs.declared.rule.Rule.{Rule}
use Rattle.acl_rules.specs.Places.{listed, picked, places_from, places_of}
use Rattle.acl_rules.specs.RuleBook.{BookRule, has_no_rules, paired, rules_in}

module _ {X : Type 0} (f : X → Bool) where
  -- one more at the end
  places_push : (n : ℕ) (xs : List X) (y : X) → places_from f n (xs ++ y ∷ []) ≡ cond (f y) (places_from f n xs ++ (n + length xs) ∷ []) (places_from f n xs)
  places_push n [] y = elim (f y) as (λ b. cond b (n ∷ []) [] ≡ cond b ((n + 0) ∷ []) []) [ true ↦ ap (λ (m : ℕ). m ∷ []) (omega arith) | false ↦ refl ]
  places_push n (x ∷ xs) y =
      let rest = places_push (suc n) xs y ∙ ap (λ (m : ℕ). cond (f y) (places_from f (suc n) xs ++ m ∷ []) (places_from f (suc n) xs)) (omega arith) in
      elim (f x) as (λ b. cond b (n ∷ places_from f (suc n) (xs ++ y ∷ [])) (places_from f (suc n) (xs ++ y ∷ [])) ≡ cond (f y) (cond b (n ∷ places_from f (suc n) xs) (places_from f (suc n) xs) ++ (n + suc (length xs)) ∷ []) (cond b (n ∷ places_from f (suc n) xs) (places_from f (suc n) xs))) [
        | true ↦ ap (λ (ms : List ℕ). n ∷ ms) rest ∙ elim (f y) as (λ c. n ∷ cond c (places_from f (suc n) xs ++ (n + suc (length xs)) ∷ []) (places_from f (suc n) xs) ≡ cond c (n ∷ (places_from f (suc n) xs ++ (n + suc (length xs)) ∷ [])) (n ∷ places_from f (suc n) xs)) [ true ↦ refl | false ↦ refl ]
        | false ↦ rest
      ]

  pub places_step : (xs : List X) (k : ℕ) (y : X) → k < length xs → y ≡ get_or xs k y → places_of f (take (k + 1) xs) ≡ cond (f y) (places_of f (take k xs) ++ k ∷ []) (places_of f (take k xs))
  places_step xs k y within is =
      let read : take (k + 1) xs ≡ take k xs ++ y ∷ [] = (take_at_read xs k y within).1 ∙ ap (λ (z : X). take k xs ++ z ∷ []) (sym is) in
      let long : length (take k xs) ≡ k = grind (arith, common_steps) in
      ap (places_from f 0) read ∙ places_push 0 (take k xs) y
      ∙ ap (λ (m : ℕ). cond (f y) (places_from f 0 (take k xs) ++ m ∷ []) (places_from f 0 (take k xs))) (let zero_less : 0 + length (take k xs) ≡ length (take k xs) = omega arith in zero_less ∙ long)

  -- what stands at the places of those that pass
  picked_from : (all : List X) (n : ℕ) (xs : List X) → ((k : ℕ) → slice_get all (n + k) ≡ slice_get xs k) → picked all (places_from f n xs) ≡ filter f xs
  picked_from all n [] same = refl
  picked_from all n (x ∷ xs) same =
      let here : slice_get all n ≡ Some x = ap (slice_get all) (omega arith) ∙ same 0 in
      let rest = picked_from all (suc n) xs (λ k. ap (slice_get all) (omega arith) ∙ same (suc k)) in
      elim (f x) as (λ b. picked all (cond b (n ∷ places_from f (suc n) xs) (places_from f (suc n) xs)) ≡ cond b (x ∷ filter f xs) (filter f xs)) [
        | true ↦ cc
        | false ↦ rest
      ]

  pub picked_places : (xs : List X) → picked xs (places_of f xs) ≡ filter f xs
  picked_places xs = picked_from xs 0 xs (λ k. ap (slice_get xs) (omega arith))

-- those that pass a test stand among those that pass a wider one
pub filter_wider : {X : Type 0} (narrow wide : X → Bool) → ((x : X) → narrow x ≡ true → wide x ≡ true) → (xs : List X) → filter narrow (filter wide xs) ≡ filter narrow xs
filter_wider narrow wide within [] = refl
filter_wider {X} narrow wide within (x ∷ xs) =
    let rest = filter_wider narrow wide within xs in
    by (narrow x) (wide x) refl refl rest
  where
    by : (a b : Bool) → narrow x ≡ a → wide x ≡ b → filter narrow (filter wide xs) ≡ filter narrow xs → filter narrow (filter wide (x ∷ xs)) ≡ filter narrow (x ∷ xs)
    by true true n w rest = cc
    by true false n w rest = let same = within x n in absurd (cc)
    by false true n w rest = cc
    by false false n w rest = cc

pub rules_paired : (rules : List Rule) (resources : List (Option Resource)) → length rules ≡ length resources → rules_in (paired rules resources) ≡ rules
rules_paired [] resources same = refl
rules_paired (r ∷ rules) [] same = absurd (omega arith)
rules_paired (r ∷ rules) (q ∷ resources) same = ap (λ (rest : List Rule). r ∷ rest) (rules_paired rules resources (omega arith))

-- no rules make no book
pub none_paired : (rules : List Rule) (resources : List (Option Resource)) → length rules ≡ length resources → (length rules == 0) ≡ has_no_rules (paired rules resources)
none_paired [] resources same = refl
none_paired (r ∷ rules) [] same = absurd (omega arith)
none_paired (r ∷ rules) (q ∷ resources) same = false_from_ne_true (length (r ∷ rules) == 0) (λ e. let none = eqb-true (length (r ∷ rules)) 0 e in omega (arith, none))

pub places_paired : (f : Option Resource → Bool) (n : ℕ) (rules : List Rule) (resources : List (Option Resource)) → length rules ≡ length resources
    → places_from (λ (b : BookRule). f b.resource) n (paired rules resources) ≡ places_from f n resources
places_paired f n [] [] same = refl
places_paired f n [] (q ∷ resources) same = absurd (omega arith)
places_paired f n (r ∷ rules) [] same = absurd (omega arith)
places_paired f n (r ∷ rules) (q ∷ resources) same =
    ap (λ (rest : List ℕ). cond (f q) (n ∷ rest) rest) (places_paired f (suc n) rules resources (omega arith))

pub paired_at : (rules : List Rule) (resources : List (Option Resource)) (k : ℕ) (r : Rule) (q : Option Resource)
    → slice_get rules k ≡ Some r → slice_get resources k ≡ Some q → slice_get (paired rules resources) k ≡ Some (record { rule = r; resource = q })
paired_at [] resources k r q h i = absurd (cc)
paired_at (x ∷ rules) [] k r q h i = absurd (cc)
paired_at (x ∷ rules) (y ∷ resources) zero r q h i = cc
paired_at (x ∷ rules) (y ∷ resources) (suc k) r q h i = paired_at rules resources k r q h i

pub paired_past : (rules : List Rule) (resources : List (Option Resource)) (k : ℕ) → slice_get rules k ≡ None → slice_get (paired rules resources) k ≡ None
paired_past [] resources k h = refl
paired_past (x ∷ rules) [] k h = refl
paired_past (x ∷ rules) (y ∷ resources) zero h = absurd (cc)
paired_past (x ∷ rules) (y ∷ resources) (suc k) h = paired_past rules resources k h

pub paired_past_resources : (rules : List Rule) (resources : List (Option Resource)) (k : ℕ) → slice_get resources k ≡ None → slice_get (paired rules resources) k ≡ None
paired_past_resources [] resources k h = refl
paired_past_resources (x ∷ rules) [] k h = refl
paired_past_resources (x ∷ rules) (y ∷ resources) zero h = absurd (cc)
paired_past_resources (x ∷ rules) (y ∷ resources) (suc k) h = paired_past_resources rules resources k h

-- one more place under a text, and all others as before
pub noted_more : (old new : List ℕ → Option (Vec ℕ Global)) (text other : List ℕ) (place : ℕ) (w : Vec ℕ Global)
    → new other ≡ cond (bytes_eq text other) (Some w) (old other) → w.items ≡ listed (old text) ++ place ∷ []
    → listed (new other) ≡ cond (bytes_eq text other) (listed (old other) ++ place ∷ []) (listed (old other))
noted_more old new text other place w is items = by (bytes_eq text other) refl
  where
    by : (b : Bool) → bytes_eq text other ≡ b → listed (new other) ≡ cond (bytes_eq text other) (listed (old other) ++ place ∷ []) (listed (old other))
    by true e =
        let same : text ≡ other = (bytes_eq-Decides text other).0 e in
        let there : new other ≡ Some w = is ∙ ap (λ (b : Bool). cond b (Some w) (old other)) e in
        ap listed there ∙ items ∙ ap (λ (t : List ℕ). listed (old t) ++ place ∷ []) same
        ∙ sym (ap (λ (b : Bool). cond b (listed (old other) ++ place ∷ []) (listed (old other))) e)
    by false e =
        ap listed (is ∙ ap (λ (b : Bool). cond b (Some w) (old other)) e)
        ∙ sym (ap (λ (b : Bool). cond b (listed (old other) ++ place ∷ []) (listed (old other))) e)
