-- The rules of a document, as its two tables of access rules hold them. What does not read frees
-- nothing: permissions that do not read deny everything, a formula that does not read fails, and
-- only a rule about nothing is never asked.
use Rattle.std.specs.Prelude.{ℕ, ℤ, pos, int_lt, cond, codes, List, [], ◌∷◌, map, Option, Some, None, option_and_then}
use Rattle.cell_types.specs.Reference.{row_number}
use Rattle.cell_types.specs.declared.value.CellValue.{CellValue}
use Rattle.cell_types.specs.declared.value.CellValue.TheVariants as value
use Rattle.doc_model.specs.Document.{Document}
use Rattle.doc_model.specs.MetadataIds.{resources_id, rules_id}
use Rattle.doc_model.specs.Readers.{cell_at, rows_at}
use Rattle.acl_formula.specs.declared.permissions.PermSet.{PermSet}
use Rattle.acl_formula.specs.FormulaText.{formula_of}
use Rattle.acl_formula.specs.Permissions.{denies_all, permissions_of}
use Rattle.acl_rules.specs.declared.resource.Resource.{Resource}
use Rattle.acl_rules.specs.declared.rule.Rule.{Rule}
use Rattle.acl_rules.specs.RuleBook.{BookRule}
use Rattle.acl_rules.specs.RuleTexts.{resource_of}

-- the text that a cell holds; Null is the empty one
abbrev pub text_in : Option CellValue → Option (List ℕ)
text_in (Some value.Null) = Some []
text_in (Some (value.Text t)) = Some t
text_in _ = None

-- the number that a cell holds; anything else is 0
abbrev pub number_in : Option CellValue → ℤ
number_in (Some (value.Int n)) = n
number_in _ = pos 0

-- the cell of a rule in a column
abbrev pub rule_cell : Document → List ℕ → ℕ → Option CellValue
rule_cell s column r = cell_at s rules_id column r

-- what the two texts say, where both are there
abbrev pub resource_from : Option (List ℕ) → Option (List ℕ) → Option Resource
resource_from (Some table) (Some columns) = resource_of table columns
resource_from _ _ = None

-- the resource in that row of the table of resources
abbrev pub resource_at : Document → ℕ → Option Resource
resource_at s r = resource_from
    (text_in (cell_at s resources_id (codes "tableId") r))
    (text_in (cell_at s resources_id (codes "colIds") r))

-- what a rule is about: the resource in the row that it names
abbrev pub resource_named : Document → ℕ → Option Resource
resource_named s r =
    option_and_then (resource_at s) (row_number (number_in (rule_cell s (codes "resource") r)))

-- what does not read denies everything
abbrev pub or_none : Option PermSet → PermSet
or_none None = denies_all
or_none (Some p) = p

-- what is no text is the empty one
abbrev pub or_empty : Option (List ℕ) → List ℕ
or_empty None = []
or_empty (Some t) = t

-- the rule in a row
abbrev pub rule_in : Document → ℕ → Rule
rule_in s r = record {
  row = r;
  formula = option_and_then formula_of (text_in (rule_cell s (codes "aclFormula") r));
  permissions =
      or_none (option_and_then permissions_of (text_in (rule_cell s (codes "permissionsText") r)));
  memo = or_empty (text_in (rule_cell s (codes "memo") r));
}

-- the same with what it is about
abbrev pub book_rule : Document → ℕ → BookRule
book_rule s r = record { rule = rule_in s r; resource = resource_named s r }

-- where a rule stands among the others
abbrev pub place_of : Document → ℕ → ℤ
place_of s r = number_in (rule_cell s (codes "rulePos") r)

-- the row behind those with a lesser place
abbrev pub put_by_place : Document → ℕ → List ℕ → List ℕ
put_by_place s r [] = r ∷ []
put_by_place s r (q ∷ rows) =
    cond (int_lt (place_of s q) (place_of s r)) (q ∷ put_by_place s r rows) (r ∷ q ∷ rows)

-- rows by their places, and those of one place as they stood
abbrev pub by_place : Document → List ℕ → List ℕ
by_place s [] = []
by_place s (r ∷ rows) = put_by_place s r (by_place s rows)

-- the rows of the rules, none where their table is not there
abbrev pub rule_rows : Document → List ℕ
rule_rows s = elim (rows_at s rules_id) [ None ↦ [] | Some rows ↦ rows ]

-- the rules of a document in their order
unfoldable pub book_of : Document → List BookRule
book_of s = map (book_rule s) (by_place s (rule_rows s))
