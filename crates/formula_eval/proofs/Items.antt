-- The items of a list of formulas.
use Rattle.std.specs.Prelude.{ℕ, zero, suc, ◌+◌, ◌<◌, ◌≤◌, ◌≡◌, List, [], ◌∷◌, length, get_or, drop, map}
use Rattle.std.proofs.Common.{arith, ap, refl, sym, subst}
use Rattle.cell_types.specs.declared.value.CellValue.TheVariants as value
use Rattle.cell_types.specs.declared.value.RowRef.{RowRef}
use Rattle.formula_parse.specs.declared.tree.LookupKey.{LookupKey}
use Rattle.formula_parse.specs.Seen.{keys_of}
use Rattle.formula_parse.specs.Tree.{Tree, from_list, keys_from, Keys, no_keys, one_key}
use Rattle.formula_parse.specs.TreeSize.{tree_size, trees_size, keys_size}
use Rattle.formula_eval.specs.Reader.{Reader}
use Rattle.formula_eval.specs.Run.{gives, done}
use Rattle.formula_eval.specs.Call.{argument}
use Rattle.formula_eval.specs.Eval.{ev, ev_each, ev_key, ev_keys, form_of, forms_of, count_of}
use Rattle.formula_eval.specs.Lookup.{columns_of, item_run, item_runs}
use Rattle.formula_eval.proofs.Lookups.{IsEven}

-- each is smaller than the list
pub item_smaller : (ts : List Tree) (i : ℕ) (t : Tree) → i < length ts → t ≡ get_or ts i t → tree_size t < trees_size (from_list ts)
item_smaller [] i t h e = absurd (omega arith)
item_smaller (u ∷ us) zero t h e = omega (arith, ap tree_size e)
item_smaller (u ∷ us) (suc i) t h e = omega (arith, item_smaller us i t (omega arith) e)

-- what is left of them begins with it
each_left : (rd : Reader) (at : RowRef) (ts : List Tree) (i : ℕ) (t : Tree) → i < length ts → t ≡ get_or ts i t → ev_each rd at (from_list (drop i ts)) ≡ ev rd at t ∷ ev_each rd at (from_list (drop (suc i) ts))
each_left rd at [] i t h e = absurd (omega arith)
each_left rd at (u ∷ us) zero t h e = ap (λ (w : Tree). ev rd at w ∷ ev_each rd at (from_list us)) (sym e)
each_left rd at (u ∷ us) (suc i) t h e = each_left rd at us i t (omega arith) e

pub each_drop : (rd : Reader) (at : RowRef) (ts : List Tree) (i : ℕ) (t : Tree) → i < length ts → t ≡ get_or ts i t → ev_each rd at (from_list (drop i ts)) ≡ ev rd at t ∷ ev_each rd at (from_list (drop (i + 1) ts))
each_drop rd at ts i t h e =
    let one : suc i ≡ i + 1 = omega arith in
    subst (λ (n : ℕ). ev_each rd at (from_list (drop i ts)) ≡ ev rd at t ∷ ev_each rd at (from_list (drop n ts))) one (each_left rd at ts i t h e)

-- how many there are
pub count_of_from_list : (ts : List Tree) → count_of (from_list ts) ≡ length ts
count_of_from_list [] = refl
count_of_from_list (t ∷ ts) = omega (arith, count_of_from_list ts)

-- the argument at a place that is there
pub argument-there : (rd : Reader) (at : RowRef) (ts : List Tree) (i : ℕ) (t : Tree) → i < length ts → t ≡ get_or ts i t → argument (ev_each rd at (from_list ts)) i ≡ ev rd at t
argument-there rd at [] i t h e = absurd (omega arith)
argument-there rd at (u ∷ us) zero t h e = ap (ev rd at) (sym e)
argument-there rd at (u ∷ us) (suc i) t h e = argument-there rd at us i t (omega arith) e

-- and at one that is not
pub argument-absent : (rd : Reader) (at : RowRef) (ts : List Tree) (i : ℕ) → length ts ≤ i → argument (ev_each rd at (from_list ts)) i ≡ done (gives (value.Text []))
argument-absent rd at [] i h = refl
argument-absent rd at (u ∷ us) zero h = absurd (omega arith)
argument-absent rd at (u ∷ us) (suc i) h = argument-absent rd at us i (omega arith)

keys_left : (rd : Reader) (at : RowRef) (ks : List LookupKey) (i : ℕ) (k : LookupKey) → i < length ks → k ≡ get_or ks i k
    → item_runs (forms_of (keys_from (keys_of (drop i ks)))) (ev_keys rd at (keys_from (keys_of (drop i ks)))) ≡ item_run (form_of k.name k.value) (ev_key rd at k.value) ∷ item_runs (forms_of (keys_from (keys_of (drop (suc i) ks)))) (ev_keys rd at (keys_from (keys_of (drop (suc i) ks))))
keys_left rd at [] i k h e = absurd (omega arith)
keys_left rd at (u ∷ us) zero k h e = ap (λ (w : LookupKey). item_run (form_of w.name w.value) (ev_key rd at w.value) ∷ item_runs (forms_of (keys_from (keys_of us))) (ev_keys rd at (keys_from (keys_of us)))) (sym e)
keys_left rd at (u ∷ us) (suc i) k h e = keys_left rd at us i k (omega arith) e

-- what is left of keys begins with one
pub keys_drop : (rd : Reader) (at : RowRef) (ks : List LookupKey) (i : ℕ) (k : LookupKey) → i < length ks → k ≡ get_or ks i k
    → item_runs (forms_of (keys_from (keys_of (drop i ks)))) (ev_keys rd at (keys_from (keys_of (drop i ks)))) ≡ item_run (form_of k.name k.value) (ev_key rd at k.value) ∷ item_runs (forms_of (keys_from (keys_of (drop (i + 1) ks)))) (ev_keys rd at (keys_from (keys_of (drop (i + 1) ks))))
keys_drop rd at ks i k h e =
    let one : suc i ≡ i + 1 = omega arith in
    subst (λ (n : ℕ). item_runs (forms_of (keys_from (keys_of (drop i ks)))) (ev_keys rd at (keys_from (keys_of (drop i ks)))) ≡ item_run (form_of k.name k.value) (ev_key rd at k.value) ∷ item_runs (forms_of (keys_from (keys_of (drop n ks)))) (ev_keys rd at (keys_from (keys_of (drop n ks))))) one (keys_left rd at ks i k h e)

-- each value is smaller than the keys
pub key_smaller : (ks : List LookupKey) (i : ℕ) (k : LookupKey) → i < length ks → k ≡ get_or ks i k → tree_size k.value + 1 < keys_size (keys_from (keys_of ks))
key_smaller [] i k h e = absurd (omega arith)
key_smaller (u ∷ us) zero k h e = omega (arith, ap (λ (w : LookupKey). tree_size w.value) e)
key_smaller (u ∷ us) (suc i) k h e = omega (arith, key_smaller us i k (omega arith) e)

-- the columns of keys
pub columns-keys : (ks : List LookupKey) → columns_of (forms_of (keys_from (keys_of ks))) ≡ map (λ k. k.name) ks
columns-keys [] = refl
columns-keys (k ∷ ks) = ap (λ (cs : List (List ℕ)). k.name ∷ cs) (columns-keys ks)

-- as many values as keys
pub keys_even : (rd : Reader) (at : RowRef) (ks : Keys) → IsEven (forms_of ks) (ev_keys rd at ks)
keys_even rd at no_keys = tt
keys_even rd at (one_key n t ks) = keys_even rd at ks
