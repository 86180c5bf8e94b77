-- A number for each tree that is larger than that of each of its parts: the measure of walks.
use Rattle.std.specs.Prelude.{ℕ, ◌+◌, List, [], ◌∷◌}
use Rattle.formula_parse.specs.Tree.{Tree, number, text, constant, dollar, binary, prefix, conditional, parentheses, list, call, attribute, every, lookup, atom, Trees, no_trees, one_more, Keys, no_keys, one_key}

-- leaves have 0, and each other form more than its parts together
abbrev mutual
  pub tree_size : Tree → ℕ
  tree_size (number n) = 0
  tree_size (text s) = 0
  tree_size (constant c) = 0
  tree_size (dollar n) = 0
  tree_size (binary o a b) = tree_size a + tree_size b + 1
  tree_size (prefix o a) = tree_size a + 1
  tree_size (conditional a c b) = tree_size a + tree_size c + tree_size b + 1
  tree_size (parentheses a) = tree_size a + 1
  tree_size (list ts) = trees_size ts + 1
  tree_size (call n ts) = trees_size ts + 1
  tree_size (attribute a n) = tree_size a + 1
  tree_size (every n) = 0
  tree_size (lookup k n ks) = keys_size ks + 1
  tree_size (atom a) = 0

  pub trees_size : Trees → ℕ
  trees_size no_trees = 0
  trees_size (one_more t ts) = tree_size t + 1 + trees_size ts

  pub keys_size : Keys → ℕ
  keys_size no_keys = 0
  keys_size (one_key n t ks) = tree_size t + 2 + keys_size ks

-- the same of a list of trees
abbrev pub list_size : List Tree → ℕ
list_size [] = 0
list_size (t ∷ ts) = tree_size t + 1 + list_size ts

-- the same of a list of keys
abbrev pub key_list_size : List (List ℕ × Tree) → ℕ
key_list_size [] = 0
key_list_size (k ∷ ks) = tree_size k.1 + 2 + key_list_size ks
