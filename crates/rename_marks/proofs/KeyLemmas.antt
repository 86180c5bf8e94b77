-- Items and keys one after the other.
use Rattle.std.proofs.Common.{◌≡◌, ◌<◌, ◌≤◌, ◌+◌, ◌-◌, arith, take, ap, refl, ℕ, zero, suc, List, [], ◌∷◌, length, get_or, drop}
use Rattle.std.proofs.lemmas.List.{take_all}
use Rattle.formula_parse.specs.declared.tree.LookupKey.{LookupKey}
use Rattle.formula_parse.specs.Seen.{keys_of}
use Rattle.formula_parse.specs.Tree.{one_key, keys_from}
use Rattle.formula_parse.specs.TreeSize.{keys_size, tree_size}
use Rattle.formula_records.proofs.ItemLemmas.{drop_next}

pub none_left : {X : Type 0} (xs : List X) (i : ℕ) → length xs ≤ i → drop i xs ≡ []
none_left [] zero h = refl
none_left [] (suc i) h = refl
none_left (x ∷ xs) zero h = absurd (omega arith)
none_left (x ∷ xs) (suc i) h = none_left xs i (omega arith)

-- all behind the first
pub others : {X : Type 0} (xs : List X) → take (length xs - 1) (drop 1 xs) ≡ drop 1 xs
others [] = refl
others (x ∷ xs) = take_all (length (x ∷ xs) - 1) xs (omega arith)

-- each value is smaller than the keys
pub key_smaller : (ks : List LookupKey) (i : ℕ) (k : LookupKey) → i < length ks → k ≡ get_or ks i k → tree_size k.value < keys_size (keys_from (keys_of ks))
key_smaller [] i k h e = absurd (omega arith)
key_smaller (j ∷ js) zero k h e = omega (arith, ap (λ (l : LookupKey). tree_size l.value) e)
key_smaller (j ∷ js) (suc i) k h e = omega (arith, key_smaller js i k (omega arith) e)

-- what is left of them begins with one
pub keys_drop : (ks : List LookupKey) (i : ℕ) (k : LookupKey) → i < length ks → k ≡ get_or ks i k
    → keys_from (keys_of (drop i ks)) ≡ one_key k.name k.value (keys_from (keys_of (drop (i + 1) ks)))
keys_drop ks i k h e = ap (λ (ls : List LookupKey). keys_from (keys_of ls)) (drop_next ks i k h e)
