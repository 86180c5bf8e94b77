-- What the rules in force let a user read of each table.
use Rattle.std.specs.Prelude.{ℕ, Bool, cond, codes, List}
use Rattle.doc_model.specs.MetadataIds.{is_acl_id, is_schema_id}
use Rattle.acl_rules.specs.declared.decision.Ctx.{Ctx}
use Rattle.acl_rules.specs.Decided.{is_access}
use Rattle.censored_view.specs.Readable.{Readable, by_rules, hidden, whole}
use Rattle.acl_reading.specs.declared.letting.Reach.{Reach}
use Rattle.acl_reading.specs.declared.letting.Reach.TheVariants as reach
use Rattle.acl_reading.specs.Shown.{is_bare_shown, is_cell_shown, is_column_shown, is_formula_shown}

-- of a table that is none of the document's own
abbrev pub shown_of : Ctx → List ℕ → Readable
shown_of x table = record {
  bare = is_bare_shown x table;
  column = is_column_shown x table;
  formula = is_formula_shown x table;
  cell = is_cell_shown x table;
}

-- whether the user is an owner
abbrev pub is_owner : Ctx → Bool
is_owner x = is_access x.user.user.access (codes "owners")

-- of each table
abbrev pub rules_let : Ctx → List ℕ → Readable
rules_let x = by_rules (is_owner x) (shown_of x)

-- how far a table is shown, before its rules are asked
abbrev pub reach_of : Ctx → List ℕ → Reach
reach_of x table =
    cond (is_schema_id table) reach.Hidden
    (cond (is_acl_id table) (cond (is_owner x) reach.Whole reach.Hidden) reach.ByRules)

-- what may be read of a table that is shown so far
abbrev pub reached : Reach → Readable → Readable
reached reach.Hidden ruled = hidden
reached reach.Whole ruled = whole
reached reach.ByRules ruled = ruled
