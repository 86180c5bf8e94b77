-- What an audit rests on.
use Rattle.std.specs.Prelude.{ℕ, Bool, true, List, Option, Some, None, ◌≡◌}
use Rattle.cell_types.specs.declared.value.CellValue.{CellValue}
use Rattle.acl_formula.specs.Asked.{Asked}
use Rattle.acl_formula.specs.RuleFields.{field_of}
use Rattle.acl_formula.specs.RuleRow.{RuleRow}
use Rattle.acl_formula.specs.declared.mention.Mention.{Mention}
use Rattle.acl_formula.specs.declared.mention.Mention.TheVariants as mention
use Rattle.acl_formula.specs.declared.permissions.Perm.{Perm}
use Rattle.acl_rules.specs.declared.decision.Ctx.{Ctx}
use Rattle.acl_rules.specs.Decided.{decision_in}
use Rattle.acl_rules.specs.RuleBook.{BookRule}
use Rattle.acl_reading.specs.Shown.{is_cell_shown, is_column_shown}
use Rattle.rule_audit.specs.Open.{is_open}
use Rattle.rule_audit.specs.Reached.{reach_stop}
use Rattle.rule_audit.specs.Stops.{bad_row, first_stop}

-- each row can be read in an open column
abbrev pub OpenLaw : Type 0
OpenLaw = (x : Ctx) (table column : List ℕ) (row : RuleRow) → is_open x table column ≡ true
    → is_cell_shown x table (Some column) row ≡ true

-- an open column is shown
abbrev pub ShownLaw : Type 0
ShownLaw = (x : Ctx) (table column : List ℕ) → is_open x table column ≡ true
    → is_column_shown x table column ≡ true

-- what a mention of a row comes to
abbrev pub mention_value : Asked → Mention → Option CellValue
mention_value x (mention.Rec n) = field_of x.before n
mention_value x (mention.NewRec n) = field_of x.after n
mention_value x (mention.User n) = None

-- the same user, and the same rows as far as is safe
pub record AgreeOn (safe : Mention → Bool) (x y : Asked) : Type 0 where
  pub user : x.user ≡ y.user
  pub mentions : (m : Mention) → safe m ≡ true → mention_value x m ≡ mention_value y m

-- where no rule that is reached mentions what is not safe, the decision is the same
abbrev pub DecisionLaw : Type 0
DecisionLaw = (safe : Mention → Bool) (x y : Asked) (p : Perm) (chain : List BookRule)
    → AgreeOn safe x y
    → bad_row (first_stop (reach_stop x.user p safe) chain) ≡ None
    → decision_in x p chain ≡ decision_in y p chain
