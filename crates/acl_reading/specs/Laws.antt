-- What is let read of the document's own tables, where there are no rules, and of what is hidden.
use Rattle.std.specs.Prelude.{◌≡◌, ℕ, true, false, List, [], Some, None, unwrap_or}
use Rattle.doc_model.specs.MetadataIds.{is_schema_id}
use Rattle.acl_formula.specs.declared.permissions.Perm.TheVariants as perm
use Rattle.acl_formula.specs.RuleRow.{RuleRow}
use Rattle.acl_rules.specs.declared.decision.Ctx.{Ctx}
use Rattle.acl_rules.specs.Decided.{is_allowed_so}
use Rattle.censored_view.specs.Readable.{IsAsRow, by_rules, hidden, whole}
use Rattle.acl_reading.specs.RulesLet.{is_owner, rules_let, shown_of}
use Rattle.acl_reading.specs.Shown.{has_own_rules, is_bare_shown, is_cell_shown, is_column_shown, own_answer}

-- the schema tables are hidden from everybody
abbrev pub SchemaLaw : Type 0
SchemaLaw = (x : Ctx) (table : List ℕ) → is_schema_id table ≡ true → rules_let x table ≡ hidden

-- without rules, owners and editors read all tables that are none of the document's own
abbrev pub NoRulesLaw : Type 0
NoRulesLaw = (x : Ctx) → x.book ≡ [] → is_allowed_so x.user.user.access perm.S ≡ true
    → rules_let x ≡ by_rules (is_owner x) (λ table. whole)

-- a column that is not shown can be read in no row
abbrev pub HiddenLaw : Type 0
HiddenLaw = (x : Ctx) (table column : List ℕ) (row : RuleRow)
    → is_column_shown x table column ≡ false → is_cell_shown x table (Some column) row ≡ false

-- nor is any row of a table that is not shown without columns
abbrev pub BareLaw : Type 0
BareLaw = (x : Ctx) (table : List ℕ) (row : RuleRow)
    → is_bare_shown x table ≡ false → is_cell_shown x table None row ≡ false

-- where the rules that list a column decide nothing of a cell, it is read as its row alone is
abbrev pub OwnAnswerLaw : Type 0
OwnAnswerLaw = (x : Ctx) (table column : List ℕ) (row : RuleRow)
    → is_cell_shown x table (Some column) row
    ≡ unwrap_or (own_answer x table column row) (is_cell_shown x table None row)

-- where no rule about reading lists a column, its cells are read as their rows alone are
abbrev pub OwnLaw : Type 0
OwnLaw = (x : Ctx) (table column : List ℕ)
    → has_own_rules x table column ≡ false → IsAsRow (shown_of x table) column
