-- Formulas as plain trees.
use Rattle.std.specs.Prelude.{ℕ, ◌+◌, max, List, [], ◌∷◌}
use Rattle.formula_parse.specs.declared.operator.BinaryOp.{BinaryOp}
use Rattle.formula_parse.specs.declared.operator.PrefixOp.{PrefixOp}
use Rattle.formula_parse.specs.declared.operator.Constant.{Constant}
use Rattle.formula_parse.specs.declared.operator.LookupKind.{LookupKind}
use Rattle.formula_parse.specs.declared.rule.RuleAtom.{RuleAtom}

mutual
  -- names and texts are their bytes
  pub data Tree : Type 0 where
    number : ℕ → Tree
    text : List ℕ → Tree
    constant : Constant → Tree
    dollar : List ℕ → Tree
    binary : BinaryOp → Tree → Tree → Tree
    prefix : PrefixOp → Tree → Tree
    conditional : Tree → Tree → Tree → Tree
    parentheses : Tree → Tree
    list : Trees → Tree
    call : List ℕ → Trees → Tree
    attribute : Tree → List ℕ → Tree
    every : List ℕ → Tree
    lookup : LookupKind → List ℕ → Keys → Tree
    atom : RuleAtom → Tree

  -- the items of a list or the arguments of a call
  pub data Trees : Type 0 where
    no_trees : Trees
    one_more : Tree → Trees → Trees

  -- the keys of a lookup, each with its name
  pub data Keys : Type 0 where
    no_keys : Keys
    one_key : List ℕ → Tree → Keys → Keys

-- the trees of a list
abbrev pub from_list : List Tree → Trees
from_list [] = no_trees
from_list (t ∷ ts) = one_more t (from_list ts)

-- the list of trees
abbrev pub to_list : Trees → List Tree
to_list no_trees = []
to_list (one_more t ts) = t ∷ to_list ts

-- the keys of a list
abbrev pub keys_from : List (List ℕ × Tree) → Keys
keys_from [] = no_keys
keys_from (k ∷ ks) = one_key k.0 k.1 (keys_from ks)

-- the list of keys
abbrev pub keys_to : Keys → List (List ℕ × Tree)
keys_to no_keys = []
keys_to (one_key n t ks) = (n, t) ∷ keys_to ks

-- how many constructs stand within one another: a leaf is one, and each form round it one more
abbrev mutual
  pub height_of : Tree → ℕ
  height_of (number n) = 1
  height_of (text s) = 1
  height_of (constant c) = 1
  height_of (dollar n) = 1
  height_of (binary o a b) = max (height_of a) (height_of b) + 1
  height_of (prefix o a) = height_of a + 1
  height_of (conditional a c b) = max (height_of a) (max (height_of c) (height_of b)) + 1
  height_of (parentheses a) = height_of a + 1
  height_of (list ts) = heights ts + 1
  height_of (call n ts) = heights ts + 1
  height_of (attribute a n) = height_of a + 1
  height_of (every n) = 1
  height_of (lookup k n ks) = key_heights ks + 1
  height_of (atom a) = 1

  pub heights : Trees → ℕ
  heights no_trees = 0
  heights (one_more t ts) = max (height_of t) (heights ts)

  pub key_heights : Keys → ℕ
  key_heights no_keys = 0
  key_heights (one_key n t ks) = max (height_of t) (key_heights ks)
