-- Which fields of the rows that attributes found the rules of a book ask for.
use Rattle.std.specs.Prelude.{Bool, ◌&&◌, cond, List, [], ◌∷◌, ◌++◌, Option, Some, None, bytes_eq}
use Rattle.std.specs.List.{list_any}
use Rattle.formula_parse.specs.declared.rule.RuleAtom.{RuleAtom}
use Rattle.formula_parse.specs.declared.rule.RuleAtom.TheVariants as rule
use Rattle.formula_parse.specs.Tree.{Tree, binary, prefix, parentheses, list, atom, Trees, no_trees, one_more}
use Rattle.acl_rules.specs.RuleBook.{BookRule}
use Rattle.agreeing_contexts.specs.declared.field.UserField.{UserField}

-- what an atom asks for
abbrev pub atom_fields : RuleAtom → List UserField
atom_fields (rule.UserAttribute n m) = record { attribute = n; name = m } ∷ []
atom_fields _ = []

abbrev mutual
  -- in the order of the text, also in parts that are never evaluated
  pub tree_fields : Tree → List UserField
  tree_fields (binary o a b) = tree_fields a ++ tree_fields b
  tree_fields (prefix o a) = tree_fields a
  tree_fields (parentheses a) = tree_fields a
  tree_fields (list ts) = item_fields ts
  tree_fields (atom a) = atom_fields a
  tree_fields _ = []

  -- and in the items of a list
  pub item_fields : Trees → List UserField
  item_fields no_trees = []
  item_fields (one_more t ts) = tree_fields t ++ item_fields ts

-- of a text: one without tokens asks for nothing, and so does one that is no formula
abbrev pub formula_fields : Option (Option Tree) → List UserField
formula_fields None = []
formula_fields (Some None) = []
formula_fields (Some (Some t)) = tree_fields t

-- of a rule
abbrev pub rule_fields : BookRule → List UserField
rule_fields b = formula_fields b.rule.formula

-- of rules, one after another
abbrev pub all_fields : List BookRule → List UserField
all_fields [] = []
all_fields (b ∷ rules) = rule_fields b ++ all_fields rules

-- whether both are the same field
abbrev pub same_field : UserField → UserField → Bool
same_field f g = bytes_eq f.attribute g.attribute && bytes_eq f.name g.name

-- with one more at the end, where it is new
abbrev pub with_field : List UserField → UserField → List UserField
with_field seen f = cond (list_any (λ g. same_field g f) seen) seen (seen ++ f ∷ [])

-- with those that are new, each once
abbrev pub gathered : List UserField → List UserField → List UserField
gathered seen [] = seen
gathered seen (f ∷ fs) = gathered (with_field seen f) fs

-- of a book, each once
abbrev pub mentioned_fields : List BookRule → List UserField
mentioned_fields book = gathered [] (all_fields book)
