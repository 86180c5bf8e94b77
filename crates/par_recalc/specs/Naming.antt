-- The ids that a formula names.
use Rattle.std.specs.Prelude.{ℕ, Bool, List, [], ◌∷◌, ◌++◌, bytes_eq}
use Rattle.std.specs.List.{list_any}
use Rattle.formula_parse.specs.Tree.{Tree, number, text, constant, dollar, binary, prefix, conditional, parentheses, list, call, attribute, every, lookup, atom, Trees, no_trees, one_more, Keys, no_keys, one_key}
use Rattle.par_recalc.specs.declared.plan.ColumnFormula.{ColumnFormula}

abbrev mutual
  -- those that stand in it as an attribute or as a key of a lookup, in the order of the text
  pub named : Tree → List (List ℕ)
  named (dollar n) = n ∷ []
  named (binary o a b) = named a ++ named b
  named (prefix o a) = named a
  named (conditional a c b) = named a ++ named c ++ named b
  named (parentheses a) = named a
  named (list ts) = named_by_all ts
  named (call n ts) = named_by_all ts
  named (attribute a n) = named a ++ n ∷ []
  named (lookup k t ks) = named_by_keys ks
  named _ = []

  -- and those of the items of a list
  pub named_by_all : Trees → List (List ℕ)
  named_by_all no_trees = []
  named_by_all (one_more t ts) = named t ++ named_by_all ts

  -- and of keys, each with its own
  pub named_by_keys : Keys → List (List ℕ)
  named_by_keys no_keys = []
  named_by_keys (one_key n t ks) = n ∷ named t ++ named_by_keys ks

-- whether a formula column names another, of whichever table
abbrev pub names : ColumnFormula → ColumnFormula → Bool
names f g = list_any (λ n. bytes_eq n g.column) (named f.formula)
