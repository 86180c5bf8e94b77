-- Which rows of the tables of access rules are good. A row is seen as the cell of each column.
use Rattle.std.specs.Prelude.{ℕ, Bool, true, false, ◌&&◌, ◌||◌, ◌==◌, codes, List, [], ◌∷◌, Option, Some, None, is_some}
use Rattle.cell_types.specs.declared.value.CellValue.{CellValue}
use Rattle.cell_types.specs.declared.value.CellValue.TheVariants as value
use Rattle.cell_types.specs.Reference.{row_number}
use Rattle.doc_model.specs.Rows.{has}
use Rattle.acl_formula.specs.FormulaText.{formula_of}
use Rattle.acl_formula.specs.Permissions.{permissions_of}
use Rattle.acl_rules.specs.RuleTexts.{resource_of}
use Rattle.user_attrs.specs.AttributeText.{attribute_of}

-- the text that a cell holds; Null is the empty one
abbrev pub text_in : CellValue → Option (List ℕ)
text_in value.Null = Some []
text_in (value.Text t) = Some t
text_in _ = None

-- whether the cell holds a text that passes the test
abbrev pub holds_text : (List ℕ → Bool) → CellValue → Bool
holds_text test v = elim (text_in v) [ None ↦ false | Some t ↦ test t ]

-- ---- resources

-- whether the texts of two cells say a resource
abbrev pub say_resource : CellValue → CellValue → Bool
say_resource table columns =
    holds_text (λ t. holds_text (λ cs. is_some (resource_of t cs)) columns) table

abbrev pub is_good_resource : (List ℕ → CellValue) → Bool
is_good_resource row = say_resource (row (codes "tableId")) (row (codes "colIds"))

-- ---- rules

-- whether the text is a rule's formula
abbrev pub is_formula : List ℕ → Bool
is_formula t = is_some (formula_of t)

-- whether a permission text reads
abbrev pub are_permissions : List ℕ → Bool
are_permissions t = is_some (permissions_of t)

-- whether rules may be ordered by it
abbrev pub is_position : CellValue → Bool
is_position value.Null = true
is_position (value.Int n) = true
is_position _ = false

-- whether it is 0 or one of the rows
abbrev pub is_zero_or : List ℕ → Option ℕ → Bool
is_zero_or rows None = false
is_zero_or rows (Some r) = r == 0 || has rows r

-- whether it is no row, or that of a resource
abbrev pub names_resource : List ℕ → CellValue → Bool
names_resource resources (value.Int n) = is_zero_or resources (row_number n)
names_resource resources _ = false

-- whether the text says an attribute of users, or nothing
abbrev pub is_attribute : List ℕ → Bool
is_attribute [] = true
is_attribute (c ∷ cs) = is_some (attribute_of (c ∷ cs))

-- any text will do
abbrev pub is_memo : List ℕ → Bool
is_memo t = true

-- the attribute and the memo of a rule
abbrev pub has_good_notes : (List ℕ → CellValue) → Bool
has_good_notes row =
    holds_text is_attribute (row (codes "userAttributes"))
    && holds_text is_memo (row (codes "memo"))

-- the texts of a rule
abbrev pub has_good_texts : (List ℕ → CellValue) → Bool
has_good_texts row =
    holds_text is_formula (row (codes "aclFormula"))
    && (holds_text are_permissions (row (codes "permissionsText")) && has_good_notes row)

-- a rule beside the rows of these resources
abbrev pub is_good_rule : List ℕ → (List ℕ → CellValue) → Bool
is_good_rule resources row =
    names_resource resources (row (codes "resource"))
    && (is_position (row (codes "rulePos")) && has_good_texts row)
