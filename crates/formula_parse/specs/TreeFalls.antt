-- Each part of a formula is smaller than the formula.
use Rattle.std.specs.Prelude.{ℕ, ◌+◌, ◌≤◌, List, [], ◌∷◌, ◌≡◌, refl}
use Rattle.std.proofs.Common.{arith, ap}
use denote.Param.Weighed.{most}
use Rattle.formula_parse.specs.declared.tree.LookupKey.{LookupKey}
use Rattle.formula_parse.specs.declared.tree.Node.{Node}
use Rattle.formula_parse.specs.declared.tree.Node.TheVariants as node
use Rattle.formula_parse.specs.declared.tree.ArgumentList.TheDeep as deep
use Rattle.formula_parse.specs.Tree.{Tree, from_list, keys_from}
use Rattle.formula_parse.specs.TreeSize.{tree_size, list_size, trees_size, keys_size, key_list_size}
use Rattle.formula_parse.specs.Seen.{tree_of, keys_of}

pub most_le-list_size : (ts : List Tree) → most (λ t. tree_size t + 1) ts ≤ list_size ts
most_le-list_size [] = omega arith
most_le-list_size (t ∷ ts) = omega (arith, most_le-list_size ts)

list_size-trees : (ts : List Tree) → list_size ts ≡ trees_size (from_list ts)
list_size-trees [] = refl
list_size-trees (t ∷ ts) = ap (λ n. tree_size t + 1 + n) (list_size-trees ts)

key_list_size-keys : (ks : List (List ℕ × Tree)) → key_list_size ks ≡ keys_size (keys_from ks)
key_list_size-keys [] = refl
key_list_size-keys (k ∷ ks) = ap (λ n. tree_size k.1 + 2 + n) (key_list_size-keys ks)

pub keys_fall : (ks : List LookupKey) → most (λ k. deep.deep-LookupKey k) ks ≤ key_list_size
    (keys_of ks)
keys_fall [] = omega arith
keys_fall (k ∷ ks) = omega (arith, keys_fall ks)

pub tree_falls : (n : Node) → deep.deep-Node n ≤ tree_size (tree_of n)
tree_falls (node.Number n) = omega arith
tree_falls (node.Text s) = omega arith
tree_falls (node.Constant c) = omega arith
tree_falls (node.Dollar n) = omega arith
tree_falls (node.Binary o a b) = omega arith
tree_falls (node.Prefix o a) = omega arith
tree_falls (node.Conditional a c b) = omega arith
tree_falls (node.Parentheses a) = omega arith
tree_falls (node.List ts) = omega (arith, list_size-trees ts)
tree_falls (node.Call n ts) = omega (arith, list_size-trees ts)
tree_falls (node.Attribute a n) = omega arith
tree_falls (node.All n) = omega arith
tree_falls (node.Lookup k n ks) = omega (arith, key_list_size-keys ks)
tree_falls (node.Rule a) = omega arith
