-- Open columns: the walk over the rules about reading comes to a rule that uses no row, matches and
-- allows reading, and each rule before it allows reading, or uses no row and does not match. The
-- rule behind all others is one that uses no row and matches.
use Rattle.std.specs.Prelude.{ℕ, Bool, cond, List, filter, Option, Some, None}
use Rattle.doc_model.specs.declared.view.ViewCol.{ViewCol}
use Rattle.doc_model.specs.declared.view.ViewTable.{ViewTable}
use Rattle.acl_formula.specs.Permissions.{has_perm}
use Rattle.acl_formula.specs.declared.permissions.Perm.TheVariants as perm
use Rattle.acl_formula.specs.declared.user_info.UserInfo.{UserInfo}
use Rattle.acl_rules.specs.declared.decision.Ctx.{Ctx}
use Rattle.acl_rules.specs.declared.rule.Rule.{Rule}
use Rattle.acl_rules.specs.Chain.{chain_of}
use Rattle.acl_rules.specs.Decided.{decides}
use Rattle.acl_reading.specs.Walk.{asks_row, built_in_shows, without_row}
use Rattle.rule_audit.specs.declared.stop.Stop.{Stop}
use Rattle.rule_audit.specs.declared.stop.Stop.TheVariants as stop
use Rattle.rule_audit.specs.Stops.{first_stop, stops_well}

-- whether the rule denies reading
abbrev pub denies_reading : Rule → Bool
denies_reading r = has_perm perm.R r.permissions.denied

-- whether the rule ends the walk: one that uses a row where it denies reading, since some row may
-- then be hidden, and any other where it says something of reading and matches
abbrev pub ends_open : UserInfo → Rule → Bool
ends_open u r = cond (asks_row r) (denies_reading r) (decides (without_row u) perm.R r)

-- whether the walk stops at the rule, and badly where it denies
abbrev pub open_stop : UserInfo → Rule → Option Stop
open_stop u r =
    cond (ends_open u r) (Some (cond (denies_reading r) (stop.Badly r.row) stop.Well)) None

-- whether the column is open
abbrev pub is_open : Ctx → List ℕ → List ℕ → Bool
is_open x table column =
    stops_well (built_in_shows x.user.user.access)
    (first_stop (open_stop x.user) (chain_of x.book (Some table) (Some column)))

-- the open columns of a shown table
abbrev pub open_columns : Ctx → ViewTable → List ViewCol
open_columns x t = filter (λ (d : ViewCol). is_open x t.id d.id) t.columns
