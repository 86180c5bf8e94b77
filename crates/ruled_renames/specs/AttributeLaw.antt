-- The text of an attribute of users is read back.
use Rattle.std.specs.Prelude.{ℕ, true, List, Some, ◌≡◌}
use Rattle.std.specs.Str.{IsUtf8}
use Rattle.rename_flow.specs.AttributeTexts.{attribute_text}
use Rattle.user_attrs.specs.AttributeText.{are_names, attribute_of}
use Rattle.user_attrs.specs.declared.attribute_rule.AttributeRule.{AttributeRule}

-- an attribute that looks in another column
abbrev pub looking_in : AttributeRule → List ℕ → AttributeRule
looking_in a column =
    record { name = a.name; table = a.table; column = column; property = a.property }

-- its names, and that of the column, are names in UTF-8
pub record HasNames (a : AttributeRule) (column : List ℕ) : Type 0 where
  pub names : are_names a.name a.table column ≡ true
  pub name : IsUtf8 a.name
  pub table : IsUtf8 a.table
  pub column_is : IsUtf8 column

-- what is written of it with another column says it with that column
abbrev pub AttributeReadLaw : Type 0
AttributeReadLaw = (a : AttributeRule) (column : List ℕ) → HasNames a column
    → attribute_of (attribute_text a column) ≡ Some (looking_in a column)
