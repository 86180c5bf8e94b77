-- What a view shows of access rules: what rules are about, and the attributes of users.
use Rattle.std.specs.Prelude.{ℕ, Bool, false, ◌&&◌, cond, nat_eq, codes, List, [], ◌∷◌, Option, Some, None, option_and_then, bytes_eq}
use Rattle.cell_types.specs.Reference.{row_number}
use Rattle.cell_types.specs.declared.value.CellValue.{CellValue}
use Rattle.doc_model.specs.declared.view.ViewCol.{ViewCol}
use Rattle.doc_model.specs.declared.view.ViewTable.{ViewTable}
use Rattle.doc_model.specs.MetadataIds.{resources_id, rules_id}
use Rattle.acl_rules.specs.declared.resource.Resource.{Resource}
use Rattle.acl_rules.specs.declared.resource.Resource.TheVariants as resource
use Rattle.acl_rules.specs.Chain.{names_column}
use Rattle.acl_rules.specs.Loaded.{resource_from}
use Rattle.user_attrs.specs.AttributeText.{attribute_of}
use Rattle.user_attrs.specs.declared.attribute_rule.AttributeRule.{AttributeRule}
use Rattle.formula_records.specs.declared.tables.RecordTables.{RecordTables}
use Rattle.formula_records.specs.declared.tables.RecordTables.TheVariants.{Any}
use Rattle.formula_records.specs.RecordTables.{only}
use Rattle.rename_marks.specs.declared.column_rename.ColumnRename.{ColumnRename}
use Rattle.rename_marks.specs.declared.formula_place.AttributeTable.{AttributeTable}
use Rattle.rename_flow.specs.declared.shown_rules.RuleAbout.{RuleAbout}
use Rattle.rename_flow.specs.ShownRows.{ShownRow, number_shown, rows_of, text_shown}

-- what the row of a resource says, where its texts read
abbrev pub resource_shown : List ViewCol → List CellValue → Option Resource
resource_shown ds vs =
    resource_from (text_shown ds vs (codes "tableId")) (text_shown ds vs (codes "colIds"))

-- the tables that rules about it are about
abbrev pub tables_in : Resource → RecordTables
tables_in resource.Document = Any
tables_in (resource.Table t cs) = only t

-- the rows of resources that read, each with these tables
abbrev pub about_before : ℕ → Option Resource → List RuleAbout → List RuleAbout
about_before r None as' = as'
about_before r (Some q) as' = record { row = r; tables = tables_in q } ∷ as'

abbrev pub abouts_in : List ShownRow → List RuleAbout
abouts_in [] = []
abouts_in (w ∷ ws) = about_before w.row (resource_shown w.columns w.cells) (abouts_in ws)

-- the one of a row
abbrev pub about_at : List RuleAbout → ℕ → Option RecordTables
about_at [] r = None
about_at (a ∷ as') r = cond (nat_eq a.row r) (Some a.tables) (about_at as' r)

-- the tables that a rule is about, where it is about any
abbrev pub about_of : List RuleAbout → List ViewCol → List CellValue → Option RecordTables
about_of as' ds vs =
    option_and_then (about_at as') (row_number (number_shown ds vs (codes "resource")))

-- whether a resource is of the renamed table and names the new column
abbrev pub claims_new : ColumnRename → Option Resource → Bool
claims_new r (Some (resource.Table t cs)) = bytes_eq t r.table && names_column cs r.new
claims_new r q = false

-- the attribute that a rule says, where it says one
abbrev pub attribute_shown : List ViewCol → List CellValue → Option AttributeRule
attribute_shown ds vs = option_and_then attribute_of (text_shown ds vs (codes "userAttributes"))

-- the tables of all attributes, in the order of the rows
abbrev pub attribute_before : Option AttributeRule → List AttributeTable → List AttributeTable
attribute_before None as' = as'
attribute_before (Some a) as' = record { name = a.name; table = a.table } ∷ as'

abbrev pub attributes_in : List ShownRow → List AttributeTable
attributes_in [] = []
attributes_in (w ∷ ws) = attribute_before (attribute_shown w.columns w.cells) (attributes_in ws)

-- those of a view
abbrev pub resource_rows : List ViewTable → List ShownRow
resource_rows v = rows_of v resources_id

abbrev pub rule_rows : List ViewTable → List ShownRow
rule_rows v = rows_of v rules_id
