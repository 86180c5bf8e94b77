-- What the rules of a document are depends on the two tables of access rules alone.
use Rattle.std.proofs.Common.{ℕ, cond, ◌&&◌, List, [], ◌∷◌, map, codes, ◌≡◌, refl, ap, ◌∙◌, Option, Some, None, option_and_then}
use Rattle.std.specs.Prelude.{int_lt}
use Rattle.cell_types.specs.Reference.{row_number}
use Rattle.cell_types.specs.declared.value.CellValue.{CellValue}
use Rattle.doc_model.specs.ByIds.{find_id, has_id}
use Rattle.doc_model.specs.Column.{column_id}
use Rattle.doc_model.specs.Document.{Document, Table, table_id}
use Rattle.doc_model.specs.Grid.{cell}
use Rattle.doc_model.specs.MetadataIds.{resources_id, rules_id}
use Rattle.doc_model.specs.Rows.{has}
use Rattle.acl_formula.specs.FormulaText.{formula_of}
use Rattle.acl_formula.specs.Permissions.{permissions_of}
use Rattle.acl_rules.specs.declared.resource.Resource.{Resource}
use Rattle.acl_rules.specs.Loaded.{book_of, book_rule, by_place, number_in, or_empty, or_none, place_of, put_by_place, resource_at, resource_from, rule_cell, rule_rows, text_in}
use Rattle.acl_rules.specs.RuleBook.{BookRule}
use Rattle.user_attrs.specs.AttributeText.{attribute_of}
use Rattle.user_attrs.specs.Attributes.{attribute_at, attributes_at, attributes_of, with_attribute}

abbrev Cells : Type 0
Cells = List ℕ → ℕ → Option CellValue

-- the cells of a table that may not be there
abbrev cells_in : Option Table → Cells
cells_in o c r = elim o as (λ _. Option CellValue) [ None ↦ None | Some t ↦ cond (has_id column_id t.grid.columns c && has t.grid.rows r) (Some (cell column_id t.grid c r)) None ]

-- what is read of these cells
abbrev resource_told : Cells → ℕ → Option Resource
resource_told f r = resource_from (text_in (f (codes "tableId") r)) (text_in (f (codes "colIds") r))

abbrev rule_told : (ℕ → Option Resource) → Cells → ℕ → BookRule
rule_told named f r = record {
  rule = record {
    row = r;
    formula = option_and_then formula_of (text_in (f (codes "aclFormula") r));
    permissions = or_none (option_and_then permissions_of (text_in (f (codes "permissionsText") r)));
    memo = or_empty (text_in (f (codes "memo") r));
  };
  resource = option_and_then named (row_number (number_in (f (codes "resource") r)));
}

module _ (s t : Document) (rules : find_id table_id rules_id s ≡ find_id table_id rules_id t) where
  cells_same : rule_cell s ≡ rule_cell t
  cells_same = ap cells_in rules

  put_same : (r : ℕ) (rows : List ℕ) → put_by_place s r rows ≡ put_by_place t r rows
  put_same r [] = refl
  put_same r (q ∷ rows) =
      ap (λ (f : Cells). cond (int_lt (number_in (f (codes "rulePos") q)) (number_in (f (codes "rulePos") r))) (q ∷ put_by_place s r rows) (r ∷ q ∷ rows)) cells_same
      ∙ ap (λ xs. cond (int_lt (place_of t q) (place_of t r)) (q ∷ xs) (r ∷ q ∷ rows)) (put_same r rows)

  by_same : (rows : List ℕ) → by_place s rows ≡ by_place t rows
  by_same [] = refl
  by_same (r ∷ rows) = put_same r (by_place s rows) ∙ ap (put_by_place t r) (by_same rows)

  rows_same : rule_rows s ≡ rule_rows t
  rows_same = ap (λ (o : Option Table). elim (elim o as (λ _. Option (List ℕ)) [ None ↦ None | Some u ↦ Some u.grid.rows ]) as (λ _. List ℕ) [ None ↦ [] | Some rows ↦ rows ]) rules

  order_same : by_place s (rule_rows s) ≡ by_place t (rule_rows t)
  order_same = by_same (rule_rows s) ∙ ap (by_place t) rows_same

  attributes_in : (rows : List ℕ) → attributes_at s rows ≡ attributes_at t rows
  attributes_in [] = refl
  attributes_in (r ∷ rows) =
      ap (λ (f : Cells). with_attribute (option_and_then attribute_of (text_in (f (codes "userAttributes") r))) (attributes_at s rows)) cells_same
      ∙ ap (with_attribute (attribute_at t r)) (attributes_in rows)

  pub attributes_same : attributes_of s ≡ attributes_of t
  attributes_same = attributes_in (by_place s (rule_rows s)) ∙ ap (attributes_at t) order_same

  module _ (resources : find_id table_id resources_id s ≡ find_id table_id resources_id t) where
    resources_same : resource_at s ≡ resource_at t
    resources_same = ap (λ (o : Option Table). resource_told (cells_in o)) resources

    rules_same : book_rule s ≡ book_rule t
    rules_same = ap (λ named. rule_told named (rule_cell s)) resources_same ∙ ap (rule_told (resource_at t)) cells_same

    pub book_same : book_of s ≡ book_of t
    unfolding book_of
    book_same = ap (λ f. map f (by_place s (rule_rows s))) rules_same ∙ ap (map (book_rule t)) order_same
