-- What the nodes of a formula stand for.
use Rattle.std.specs.Prelude.{ℕ, List, map}
use Rattle.formula_parse.specs.declared.tree.LookupKey.{LookupKey}
use Rattle.formula_parse.specs.declared.tree.Node.{Node}
use Rattle.formula_parse.specs.declared.tree.Node.TheVariants as node
use Rattle.formula_parse.specs.Tree.{Tree, number, text, constant, dollar, binary, prefix, conditional, parentheses, list, call, attribute, every, lookup, atom, from_list, keys_from}

-- keys as pairs of a name and a tree
abbrev pub keys_of : List LookupKey → List (List ℕ × Tree)
keys_of ks = map (λ k. (k.name, k.value)) ks

-- each variant of the code is one of the tree
abbrev pub tree_of : Node → Tree
tree_of (node.Number n) = number n
tree_of (node.Text s) = text s
tree_of (node.Constant c) = constant c
tree_of (node.Dollar n) = dollar n
tree_of (node.Binary o a b) = binary o a b
tree_of (node.Prefix o a) = prefix o a
tree_of (node.Conditional a c b) = conditional a c b
tree_of (node.Parentheses a) = parentheses a
tree_of (node.List ts) = list (from_list ts)
tree_of (node.Call n ts) = call n (from_list ts)
tree_of (node.Attribute a n) = attribute a n
tree_of (node.All n) = every n
tree_of (node.Lookup k n ks) = lookup k n (keys_from ks)
tree_of (node.Rule a) = atom a
