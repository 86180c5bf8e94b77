-- What a rule's formula comes to: true, false, or it fails.
use Rattle.std.specs.Prelude.{ℕ, Bool, true, cond, length, nat_le, Option, Some, None}
use Rattle.cell_types.specs.declared.value.CellValue.{CellValue}
use Rattle.cell_types.specs.declared.value.CellValue.TheVariants as value
use Rattle.formula_parse.specs.Tree.{Tree}
use Rattle.value_ops.specs.Truth.{truth_of}
use Rattle.acl_formula.specs.Asked.{Asked}
use Rattle.acl_formula.specs.RuleValue.{value_of}
use Rattle.acl_formula.specs.declared.truth.RuleTruth.{RuleTruth}
use Rattle.acl_formula.specs.declared.truth.RuleTruth.TheVariants as says

-- how many items or rows the value of a whole formula has at most
abbrev pub whole_bound : ℕ
whole_bound = 10000

-- whether a whole value has no more
abbrev pub is_kept : CellValue → Bool
is_kept (value.List items) = nat_le (length items) whole_bound
is_kept (value.RecSet s) = nat_le (length s.rows) whole_bound
is_kept v = true

-- what the whole value says
abbrev pub truth_from : Option CellValue → RuleTruth
truth_from None = says.Fails
truth_from (Some v) = cond (is_kept v) (cond (truth_of v) says.True says.False) says.Fails

-- what the formula comes to; a text without tokens is true
abbrev pub rule_truth : Asked → Option Tree → RuleTruth
rule_truth x None = says.True
rule_truth x (Some t) = truth_from (value_of x t)
