-- Which texts say an attribute of users, and how they are read.
use Rattle.std.specs.Prelude.{◌≡◌, ℕ, Bool, true, ◌&&◌, cond, codes, List, Option, Some, None, option_and_then, bytes_eq, if◌then◌else◌}
use Rattle.serde_json.specs.Data.{Data, object, string, member, no_members}
use Rattle.serde_json.specs.Find.{as_object}
use Rattle.serde_json.specs.Read.{read}
use Rattle.cell_types.specs.NameRule.{is_name}
use Rattle.action_lines.specs.Steps.{◌>>=◌}
use Rattle.action_lines.specs.Fields.{field_text, is_done}
use Rattle.user_attrs.specs.declared.attribute_rule.AttributeRule.{AttributeRule}
use Rattle.user_attrs.specs.declared.attribute_rule.UserProperty.{UserProperty}
use Rattle.user_attrs.specs.declared.attribute_rule.UserProperty.TheVariants as property

-- how a property is named
abbrev pub property_text : UserProperty → List ℕ
property_text property.Email = codes "Email"
property_text property.Name = codes "Name"
property_text property.UserId = codes "UserID"

-- {"charId":property,"lookupColId":column,"name":name,"tableId":table}
abbrev pub attribute_data : AttributeRule → Data
attribute_data a =
    object (member (codes "charId") (string (property_text a.property))
    (member (codes "lookupColId") (string a.column)
    (member (codes "name") (string a.name)
    (member (codes "tableId") (string a.table) no_members))))

-- whether all three are names
abbrev pub are_names : List ℕ → List ℕ → List ℕ → Bool
are_names name table column = is_name name && (is_name table && is_name column)

-- the text is JSON that stands for the attribute; its keys may come in any order
abbrev pub IsTextOf : AttributeRule → List ℕ → Type 0
IsTextOf a text = (are_names a.name a.table a.column ≡ true) × (read text ≡ Some (attribute_data a))

-- what a text says: an attribute, or none
abbrev pub Tells : Option AttributeRule → List ℕ → Type 0
Tells (Some a) text = IsTextOf a text
Tells None text = (a : AttributeRule) → IsTextOf a text → ⊥

-- ---- reading

-- the property of that name
abbrev pub property_of : List ℕ → Option UserProperty
property_of t =
    cond (bytes_eq t (codes "Email")) (Some property.Email)
    (cond (bytes_eq t (codes "Name")) (Some property.Name)
    (cond (bytes_eq t (codes "UserID")) (Some property.UserId) None))

-- the attribute of these parts, where they may be its
abbrev pub rule_of : Option UserProperty → List ℕ → List ℕ → List ℕ → Option AttributeRule
rule_of None name table column = None
rule_of (Some p) name table column =
    cond (are_names name table column)
    (Some (record { name = name; table = table; column = column; property = p })) None

-- of an object, its members one after the other
unfoldable pub attribute_from : Data → Option AttributeRule
attribute_from d = do
  fields ← as_object d
  property ← field_text (codes "charId") fields
  column ← field_text (codes "lookupColId") property.1
  name ← field_text (codes "name") column.1
  table ← field_text (codes "tableId") name.1
  if is_done table.1 then rule_of (property_of property.0) name.0 table.0 column.0 else None

-- of a text
abbrev pub attribute_of : List ℕ → Option AttributeRule
attribute_of text = option_and_then attribute_from (read text)
