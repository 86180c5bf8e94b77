-- The names that a formula uses, in the order of its text.
use Rattle.std.specs.Prelude.{ℕ, List, [], ◌∷◌, ◌++◌}
use Rattle.formula_parse.specs.declared.rule.RuleAtom.{RuleAtom}
use Rattle.formula_parse.specs.declared.rule.RuleAtom.TheVariants as rule
use Rattle.formula_parse.specs.Tree.{Tree, binary, prefix, conditional, dollar, parentheses, list, call, attribute, lookup, atom, Trees, no_trees, one_more, Keys, no_keys, one_key}
use Rattle.formula_records.specs.RecordTables.{only}
use Rattle.rename_marks.specs.Scope.{Scope}
use Rattle.rename_marks.specs.Uses.{Use, use_of}

-- those of an atom of a rule
abbrev pub atom_uses : Scope → RuleAtom → List Use
atom_uses s (rule.Rec n) = use_of s.row n ∷ []
atom_uses s (rule.NewRec n) = use_of s.row n ∷ []
atom_uses s (rule.UserAttribute p n) = use_of (s.found p) n ∷ []
atom_uses s a = []

abbrev mutual
  -- those of a formula: the key of a lookup is asked of the table where it looks
  pub uses : Scope → Tree → List Use
  uses s (dollar n) = use_of s.own n ∷ []
  uses s (binary o a b) = uses s a ++ uses s b
  uses s (prefix o a) = uses s a
  uses s (conditional a c b) = uses s a ++ (uses s c ++ uses s b)
  uses s (parentheses a) = uses s a
  uses s (list ts) = uses_each s ts
  uses s (call n ts) = uses_each s ts
  uses s (attribute a n) = uses s a ++ use_of (s.value a) n ∷ []
  uses s (lookup l t ks) = key_uses s t ks
  uses s (atom a) = atom_uses s a
  uses s _ = []

  -- those of each formula
  pub uses_each : Scope → Trees → List Use
  uses_each s no_trees = []
  uses_each s (one_more t ts) = uses s t ++ uses_each s ts

  -- those of keys and their values
  pub key_uses : Scope → List ℕ → Keys → List Use
  key_uses s t no_keys = []
  key_uses s t (one_key n a ks) = use_of (only t) n ∷ (uses s a ++ key_uses s t ks)
