-- The attributes that a document's rules say.
use Rattle.std.specs.Prelude.{ℕ, ℤ, codes, List, [], ◌∷◌, Option, Some, None, option_and_then}
use Rattle.doc_model.specs.Document.{Document}
use Rattle.acl_rules.specs.Loaded.{by_place, rule_cell, rule_rows, text_in}
use Rattle.user_attrs.specs.AttributeText.{attribute_of}
use Rattle.user_attrs.specs.declared.attribute_rule.AttributeRule.{AttributeRule}

-- the attribute that the rule in a row says, where it says one
abbrev pub attribute_at : Document → ℕ → Option AttributeRule
attribute_at s r = option_and_then attribute_of (text_in (rule_cell s (codes "userAttributes") r))

-- an attribute before others, where there is one
abbrev pub with_attribute : Option AttributeRule → List AttributeRule → List AttributeRule
with_attribute None rules = rules
with_attribute (Some a) rules = a ∷ rules

-- those of the rules in these rows
abbrev pub attributes_at : Document → List ℕ → List AttributeRule
attributes_at s [] = []
attributes_at s (r ∷ rows) = with_attribute (attribute_at s r) (attributes_at s rows)

-- the same of rows with their places
abbrev pub attributes_placed : Document → List (ℤ × ℕ) → List AttributeRule
attributes_placed s [] = []
attributes_placed s (p ∷ rows) = with_attribute (attribute_at s p.1) (attributes_placed s rows)

-- those of all rules, in the order in which the rules are asked
abbrev pub attributes_of : Document → List AttributeRule
attributes_of s = attributes_at s (by_place s (rule_rows s))
