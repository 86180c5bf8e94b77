-- What may be relied on of contexts that agree.
use Rattle.std.specs.Prelude.{◌≡◌, ℕ, List, Option}
use Rattle.acl_formula.specs.Asked.{Asked}
use Rattle.acl_formula.specs.RuleRow.{RuleRow}
use Rattle.acl_formula.specs.declared.permissions.Perm.{Perm}
use Rattle.acl_rules.specs.declared.decision.Ctx.{Ctx}
use Rattle.acl_rules.specs.Chain.{chain_of}
use Rattle.acl_rules.specs.Decided.{decision_in}
use Rattle.acl_reading.specs.RulesLet.{rules_let}
use Rattle.agreeing_contexts.specs.Agreement.{Agree}

-- the user of a context, and a row before and after a change
abbrev pub asked_in : Ctx → Option RuleRow → Option RuleRow → Asked
asked_in x before after = record { user = x.user; before = before; after = after }

-- they decide the same of each row and permission
abbrev pub DecisionLaw : Type 0
DecisionLaw =
    (x y : Ctx) → Agree x y
    → (before after : Option RuleRow) (p : Perm) (table column : Option (List ℕ))
    → decision_in (asked_in x before after) p (chain_of x.book table column)
    ≡ decision_in (asked_in y before after) p (chain_of y.book table column)

-- they let the same be read: the same tables, columns, formulas, rows and cells
abbrev pub ReadingLaw : Type 0
ReadingLaw = (x y : Ctx) → Agree x y → rules_let x ≡ rules_let y
