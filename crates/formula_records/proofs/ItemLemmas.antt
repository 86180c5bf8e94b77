-- The items of a written list, one after the other.
use Rattle.std.proofs.Common.{◌≡◌, ◌<◌, ◌≤◌, ◌+◌, arith, ap, refl, ℕ, zero, suc, List, [], ◌∷◌, length, get_or, drop, add-one, drop-cons, sym}
use Rattle.formula_parse.specs.Tree.{Tree, one_more, from_list}
use Rattle.formula_parse.specs.TreeSize.{tree_size, trees_size}
use Rattle.formula_records.specs.declared.tables.RecordTables.{RecordTables}
use Rattle.formula_records.specs.RecordTables.{none, union}
use Rattle.formula_records.specs.Recs.{Columns, by_if, by_if_error, recs, recs_each}
use Rattle.formula_records.proofs.UnionLemmas.{union_none}

-- each is smaller than the list
pub item_smaller : (ts : List Tree) (i : ℕ) (t : Tree) → i < length ts → t ≡ get_or ts i t → tree_size t < trees_size (from_list ts)
item_smaller [] i t h e = absurd (omega arith)
item_smaller (u ∷ us) zero t h e = omega (arith, ap tree_size e)
item_smaller (u ∷ us) (suc i) t h e = omega (arith, item_smaller us i t (omega arith) e)

pub drop_next : {X : Type 0} (xs : List X) (i : ℕ) (x : X) → i < length xs → x ≡ get_or xs i x → drop i xs ≡ x ∷ drop (i + 1) xs
drop_next xs i x h e = rw (add-one, drop-cons xs i x h) (ap (λ y. y ∷ drop (suc i) xs) (sym e))

-- what is left of them begins with one
pub items_drop : (ts : List Tree) (i : ℕ) (t : Tree) → i < length ts → t ≡ get_or ts i t → from_list (drop i ts) ≡ one_more t (from_list (drop (i + 1) ts))
items_drop ts i t h e = ap from_list (drop_next ts i t h e)

-- ---- IF and IFERROR with another number of arguments

pub if_short : (k : Columns) (own : List ℕ) (ts : List Tree) → length ts < 3 → by_if (recs_each k own (from_list ts)) ≡ none
if_short k own [] h = refl
if_short k own (a ∷ []) h = refl
if_short k own (a ∷ b ∷ []) h = refl
if_short k own (a ∷ b ∷ c ∷ ts) h = absurd (omega arith)

pub if_long : (k : Columns) (own : List ℕ) (ts : List Tree) → 4 ≤ length ts → by_if (recs_each k own (from_list ts)) ≡ none
if_long k own [] h = refl
if_long k own (a ∷ []) h = refl
if_long k own (a ∷ b ∷ []) h = refl
if_long k own (a ∷ b ∷ c ∷ []) h = absurd (omega arith)
if_long k own (a ∷ b ∷ c ∷ d ∷ ts) h = refl

pub error_none : (k : Columns) (own : List ℕ) (ts : List Tree) → length ts < 1 → by_if_error (recs_each k own (from_list ts)) ≡ none
error_none k own [] h = refl
error_none k own (a ∷ ts) h = absurd (omega arith)

pub error_long : (k : Columns) (own : List ℕ) (ts : List Tree) → 3 ≤ length ts → by_if_error (recs_each k own (from_list ts)) ≡ none
error_long k own [] h = refl
error_long k own (a ∷ []) h = absurd (omega arith)
error_long k own (a ∷ b ∷ []) h = absurd (omega arith)
error_long k own (a ∷ b ∷ c ∷ ts) h = refl

pub ruleset if_of_others = (union_none, if_short, if_long)

pub ruleset if_error_of_others = (union_none, error_none, error_long)

-- ---- three arguments, two and one

module _ (k : Columns) (own : List ℕ) where
  pub record HandsTwo (f : List RecordTables → RecordTables) (ts : List Tree) (a b : Tree) : Type 0 where
    pub gives : f (recs_each k own (from_list ts)) ≡ union (recs k own a) (recs k own b)
    pub smaller : tree_size a + tree_size b < trees_size (from_list ts)

  pub record HandsOne (ts : List Tree) (a : Tree) : Type 0 where
    pub gives : by_if_error (recs_each k own (from_list ts)) ≡ recs k own a
    pub smaller : tree_size a < trees_size (from_list ts)

  pub of_three : (ts : List Tree) (a b : Tree) → 3 ≤ length ts → length ts < 4 → a ≡ get_or ts 1 a → b ≡ get_or ts 2 b → HandsTwo by_if ts a b
  of_three [] a b h i e f = absurd (omega arith)
  of_three (x ∷ []) a b h i e f = absurd (omega arith)
  of_three (x ∷ y ∷ []) a b h i e f = absurd (omega arith)
  of_three (x ∷ y ∷ z ∷ []) a b h i e f = record {
    gives = λ j. union (recs k own (sym e j)) (recs k own (sym f j));
    smaller = omega (arith, ap tree_size e, ap tree_size f);
  }
  of_three (x ∷ y ∷ z ∷ u ∷ ts) a b h i e f = absurd (omega arith)

  pub of_two : (ts : List Tree) (a b : Tree) → 2 ≤ length ts → length ts < 3 → a ≡ get_or ts 0 a → b ≡ get_or ts 1 b → HandsTwo by_if_error ts a b
  of_two [] a b h i e f = absurd (omega arith)
  of_two (x ∷ []) a b h i e f = absurd (omega arith)
  of_two (x ∷ y ∷ []) a b h i e f = record {
    gives = λ j. union (recs k own (sym e j)) (recs k own (sym f j));
    smaller = omega (arith, ap tree_size e, ap tree_size f);
  }
  of_two (x ∷ y ∷ z ∷ ts) a b h i e f = absurd (omega arith)

  pub of_one : (ts : List Tree) (a : Tree) → 1 ≤ length ts → length ts < 2 → a ≡ get_or ts 0 a → HandsOne ts a
  of_one [] a h i e = absurd (omega arith)
  of_one (x ∷ []) a h i e = record {
    gives = λ j. recs k own (sym e j);
    smaller = omega (arith, ap tree_size e);
  }
  of_one (x ∷ y ∷ ts) a h i e = absurd (omega arith)
