-- What a rule comes to where it asks for the same under other names.
use Rattle.std.specs.Prelude.{◌≡◌, ⊤}
use Rattle.acl_formula.specs.Asked.{Asked}
use Rattle.acl_formula.specs.RuleValue.{atom_value, value_of}
use Rattle.formula_parse.specs.Tree.{Tree, atom, binary, list, parentheses, prefix, Trees, no_trees, one_more}
use Rattle.rename_texts.specs.Renamed.{Rename, renamed, renamed_atom}

-- each part that asks gets the same
abbrev mutual
  pub AtomsSame : Rename → Asked → Asked → Tree → Type 0
  AtomsSame r x y (binary o a b) = AtomsSame r x y a × AtomsSame r x y b
  AtomsSame r x y (prefix o a) = AtomsSame r x y a
  AtomsSame r x y (parentheses a) = AtomsSame r x y a
  AtomsSame r x y (list ts) = AllAtomsSame r x y ts
  AtomsSame r x y (atom a) = atom_value y (renamed_atom r a) ≡ atom_value x a
  AtomsSame r x y _ = ⊤

  pub AllAtomsSame : Rename → Asked → Asked → Trees → Type 0
  AllAtomsSame r x y no_trees = ⊤
  AllAtomsSame r x y (one_more t ts) = AtomsSame r x y t × AllAtomsSame r x y ts

-- then the renamed rule comes to the same
abbrev pub RuleValueLaw : Type 0
RuleValueLaw = (r : Rename) (x y : Asked) (t : Tree) → AtomsSame r x y t
    → value_of y (renamed r t) ≡ value_of x t
