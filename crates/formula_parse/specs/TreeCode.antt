-- What tells trees apart: each tree as a tree of numbers, and back.
use Rattle.std.specs.Prelude.{ℕ, ◌≡◌, List, refl, nat_eq, cond}
use Rattle.std.specs.Coded.{Coded, code_by, coded_list, coded×, coded_ℕ}
use Rattle.std.proofs.Common.{ap}
use base.Stored.{Gv, gnil, gnum, gcons, num}
use denote.Struct.Codes.{itself}
use Rattle.formula_parse.specs.NameCode.{name_code, name_in, name_back, left_of, right_of}
use Rattle.formula_parse.specs.RuleCode.{atom_code, atom_in, atom_back}
use Rattle.formula_parse.specs.OperatorCode.{op_number, op_at, op_back, pre_number, pre_at, pre_back, con_number, con_at, con_back, kind_number, kind_at, kind_back}
use Rattle.formula_parse.specs.Tree.{Tree, number, text, constant, dollar, binary, prefix, conditional, parentheses, list, call, attribute, every, lookup, atom, Trees, no_trees, one_more, Keys, no_keys, one_key}

-- the names of keys
abbrev names_code : Keys → Gv
names_code no_keys = gnil
names_code (one_key n t ks) = gcons (name_code n) (names_code ks)

-- the names and the trees together
abbrev zipped : Gv → Trees → Keys
zipped (gcons n ns) (one_more t ts) = one_key (name_in n) t (zipped ns ts)
zipped _ _ = no_keys

-- a tree's code is what it is, and the codes of its parts
abbrev mutual
  tree_code : Tree → Gv
  tree_code (number n) = gcons (gcons (gnum 0) (gnum n)) gnil
  tree_code (text s) = gcons (gcons (gnum 1) (name_code s)) gnil
  tree_code (constant c) = gcons (gcons (gnum 2) (gnum (con_number c))) gnil
  tree_code (dollar n) = gcons (gcons (gnum 3) (name_code n)) gnil
  tree_code (binary o a b) =
      gcons (gcons (gnum 4) (gnum (op_number o))) (gcons (tree_code a) (gcons (tree_code b) gnil))
  tree_code (prefix o a) = gcons (gcons (gnum 5) (gnum (pre_number o))) (gcons (tree_code a) gnil)
  tree_code (conditional a c b) =
      gcons (gcons (gnum 6) gnil)
      (gcons (tree_code a) (gcons (tree_code c) (gcons (tree_code b) gnil)))
  tree_code (parentheses a) = gcons (gcons (gnum 7) gnil) (gcons (tree_code a) gnil)
  tree_code (list ts) = gcons (gcons (gnum 8) gnil) (trees_code ts)
  tree_code (call n ts) = gcons (gcons (gnum 9) (name_code n)) (trees_code ts)
  tree_code (attribute a n) = gcons (gcons (gnum 10) (name_code n)) (gcons (tree_code a) gnil)
  tree_code (every n) = gcons (gcons (gnum 11) (name_code n)) gnil
  tree_code (lookup k n ks) =
      gcons (gcons (gnum 12) (gcons (gnum (kind_number k)) (gcons (name_code n) (names_code ks))))
      (keys_code ks)
  tree_code (atom a) = gcons (gcons (gnum 13) (atom_code a)) gnil

  keys_code : Keys → Gv
  keys_code no_keys = gnil
  keys_code (one_key n t ks) = gcons (tree_code t) (keys_code ks)

  trees_code : Trees → Gv
  trees_code no_trees = gnil
  trees_code (one_more t ts) = gcons (tree_code t) (trees_code ts)

-- the first tree, and the others
abbrev first : Trees → Tree
first no_trees = number 0
first (one_more t ts) = t

abbrev rest : Trees → Trees
rest no_trees = no_trees
rest (one_more t ts) = ts

-- the tree with that tag
abbrev made_at : ℕ → Gv → Trees → Tree
made_at tag g ts =
    cond (nat_eq tag 0) (number (num g))
    (cond (nat_eq tag 1) (text (name_in g))
    (cond (nat_eq tag 2) (constant (con_at (num g)))
    (cond (nat_eq tag 3) (dollar (name_in g))
    (cond (nat_eq tag 4) (binary (op_at (num g)) (first ts) (first (rest ts)))
    (cond (nat_eq tag 5) (prefix (pre_at (num g)) (first ts))
    (cond (nat_eq tag 6) (conditional (first ts) (first (rest ts)) (first (rest (rest ts))))
    (cond (nat_eq tag 7) (parentheses (first ts))
    (cond (nat_eq tag 8) (list ts)
    (cond (nat_eq tag 9) (call (name_in g) ts)
    (cond (nat_eq tag 10) (attribute (first ts) (name_in g))
    (cond (nat_eq tag 11) (every (name_in g))
    (cond (nat_eq tag 12)
    (lookup (kind_at (num (left_of g))) (name_in (left_of (right_of g)))
    (zipped (right_of (right_of g)) ts)) (atom (atom_in g))))))))))))))

-- the tree with that root and those parts
abbrev made : Gv → Trees → Tree
made gnil ts = number 0
made (gnum n) ts = number 0
made (gcons a g) ts = made_at (num a) g ts

-- the tree of a code
abbrev mutual
  tree_in : Gv → Tree
  tree_in gnil = number 0
  tree_in (gnum n) = number 0
  tree_in (gcons g gs) = made g (trees_in gs)

  trees_in : Gv → Trees
  trees_in gnil = no_trees
  trees_in (gnum n) = no_trees
  trees_in (gcons g gs) = one_more (tree_in g) (trees_in gs)

-- which is the one that has it
mutual
  pub tree_back : (t : Tree) → tree_in (tree_code t) ≡ t
  tree_back (number n) = refl
  tree_back (text s) = ap text (name_back s)
  tree_back (constant c) = ap constant (con_back c)
  tree_back (dollar n) = ap dollar (name_back n)
  tree_back (binary o a b) = λ i. binary (op_back o i) (tree_back a i) (tree_back b i)
  tree_back (prefix o a) = λ i. prefix (pre_back o i) (tree_back a i)
  tree_back (conditional a c b) = λ i. conditional (tree_back a i) (tree_back c i) (tree_back b i)
  tree_back (parentheses a) = ap parentheses (tree_back a)
  tree_back (list ts) = ap list (trees_back ts)
  tree_back (call n ts) = λ i. call (name_back n i) (trees_back ts i)
  tree_back (attribute a n) = λ i. attribute (tree_back a i) (name_back n i)
  tree_back (every n) = ap every (name_back n)
  tree_back (lookup k n ks) = λ i. lookup (kind_back k i) (name_back n i) (keys_back ks i)
  tree_back (atom a) = ap atom (atom_back a)

  keys_back : (ks : Keys) → zipped (names_code ks) (trees_in (keys_code ks)) ≡ ks
  keys_back no_keys = refl
  keys_back (one_key n t ks) = λ i. one_key (name_back n i) (tree_back t i) (keys_back ks i)

  trees_back : (ts : Trees) → trees_in (trees_code ts) ≡ ts
  trees_back no_trees = refl
  trees_back (one_more t ts) = λ i. one_more (tree_back t i) (trees_back ts i)

-- the codes tell trees apart
abbrev pub coded_tree : Coded Tree
coded_tree = code_by Gv itself tree_code tree_in tree_back

abbrev pub coded_trees : Coded (List Tree)
coded_trees = coded_list coded_tree

abbrev pub coded_keys : Coded (List (List ℕ × Tree))
coded_keys = coded_list (coded× (coded_list coded_ℕ) coded_tree)
