-- The items of a written list, one after the other.
use Rattle.std.proofs.Common.{◌≡◌, ◌<◌, ◌+◌, arith, ap, sym, ℕ, zero, suc, List, [], ◌∷◌, length, get_or, drop}
use Rattle.formula_parse.specs.Tree.{Tree, Trees, one_more, from_list}
use Rattle.formula_parse.specs.TreeSize.{tree_size, trees_size}
use Rattle.agreeing_contexts.proofs.FieldLemmas.{drop_next}

-- each is smaller than the list
pub item_smaller : (ts : List Tree) (i : ℕ) (t : Tree) → i < length ts → t ≡ get_or ts i t → tree_size t < trees_size (from_list ts)
item_smaller [] i t h e = absurd (omega arith)
item_smaller (u ∷ us) zero t h e = omega (arith, ap tree_size e)
item_smaller (u ∷ us) (suc i) t h e = omega (arith, item_smaller us i t (omega arith) e)

-- what is left of them begins with one
pub items_drop : (ts : List Tree) (i : ℕ) (t : Tree) → i < length ts → t ≡ get_or ts i t → from_list (drop i ts) ≡ one_more t (from_list (drop (i + 1) ts))
items_drop ts i t h e = ap from_list (drop_next ts i t h e)
