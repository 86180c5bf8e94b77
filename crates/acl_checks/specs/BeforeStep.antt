-- What is kept of the document before an action, so that the action can be checked behind it.
use Rattle.std.specs.Prelude.{ℕ, ◌≡◌, List, [], ◌∷◌, ◌++◌, Option, option_map}
use Rattle.doc_model.specs.declared.action.DocAction.{DocAction}
use Rattle.doc_model.specs.declared.action.DocAction.TheVariants.{BulkAdd, BulkUpdate}
use Rattle.doc_model.specs.declared.column.CellColumn.{CellColumn}
use Rattle.doc_model.specs.Document.{Document}
use Rattle.acl_formula.specs.RuleFields.{cell_in}
use Rattle.acl_formula.specs.RuleRow.{RuleRow}
use Rattle.acl_formula.specs.declared.user_info.AttributeRow.{AttributeRow}
use Rattle.acl_rules.specs.declared.decision.Ctx.{Ctx}
use Rattle.acl_rules.specs.declared.decision.RuleId.{RuleId}
use Rattle.acl_checks.specs.declared.before.BeforeStep.{BeforeStep}
use Rattle.acl_checks.specs.declared.before.BeforeStep.TheVariants as kept
use Rattle.acl_checks.specs.Checks.{Check, add_checks, cell_checks, checks_of, row_at}
use Rattle.acl_checks.specs.Denials.{first_denied}

-- the row of a rule
abbrev pub row_of : RuleId → ℕ
row_of r = r.row

-- a kept row as rules read it
abbrev pub kept_row : AttributeRow → RuleRow
kept_row k = record { id = k.row; cell = λ c. cell_in k.cells c }

-- changed rows: each as it was kept, and as it is in t
abbrev pub kept_checks : Document → List ℕ → List AttributeRow → List CellColumn → List Check
kept_checks t table [] columns = []
kept_checks t table (k ∷ rows) columns =
    cell_checks table (kept_row k) (row_at t table k.row) columns
    ++ kept_checks t table rows columns

-- the checks behind an action, with the rows that were kept
abbrev pub checks_behind : List AttributeRow → Document → DocAction → List Check
checks_behind rows t (BulkAdd table new columns) = add_checks t table new columns
checks_behind rows t (BulkUpdate table changed columns) = kept_checks t table rows columns
checks_behind rows t _ = []

-- the answer behind an action, where t is the evaluated document then
abbrev pub answer_behind : BeforeStep → Ctx → Document → DocAction → Option ℕ
answer_behind (kept.Decided d) x t a = option_map row_of d
answer_behind (kept.Rows rows) x t a = first_denied x (checks_behind rows t a)

-- what is kept is enough, where s is the evaluated document before the action
unfoldable pub Holds : BeforeStep → Ctx → Document → DocAction → Type 0
Holds b x s a = (t : Document) → first_denied x (checks_of s t a) ≡ answer_behind b x t a
