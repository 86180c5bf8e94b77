-- The text of an attribute of users, and what the rename of a column makes of it.
use Rattle.std.specs.Prelude.{ℕ, cond, codes, List, ◌++◌, Option, Some, None}
use Rattle.user_attrs.specs.AttributeText.{property_text}
use Rattle.user_attrs.specs.declared.attribute_rule.AttributeRule.{AttributeRule}
use Rattle.formula_records.specs.RecordTables.{only}
use Rattle.rename_marks.specs.declared.column_rename.ColumnRename.{ColumnRename}
use Rattle.rename_marks.specs.Uses.{Use, is_replaced, is_unresolved, use_of}
use Rattle.rename_flow.specs.declared.text_change.TextChange.{TextChange}
use Rattle.rename_flow.specs.Changes.{kept}

-- JSON without blanks, its keys sorted, with another column
unfoldable pub attribute_text : AttributeRule → List ℕ → List ℕ
attribute_text a column =
    codes "{\"charId\":\"" ++ property_text a.property
    ++ codes "\",\"lookupColId\":\"" ++ column
    ++ codes "\",\"name\":\"" ++ a.name
    ++ codes "\",\"tableId\":\"" ++ a.table ++ codes "\"}"

-- the column in which it looks is one that is asked of records of its table
abbrev pub lookup_use : AttributeRule → Use
lookup_use a = use_of (only a.table) a.column

abbrev pub attribute_change : ColumnRename → Option AttributeRule → TextChange
attribute_change r None = kept 0
attribute_change r (Some a) = record {
  text = cond (is_replaced r (lookup_use a)) (Some (attribute_text a r.new)) None;
  unresolved = cond (is_unresolved r (lookup_use a)) 1 0;
}
