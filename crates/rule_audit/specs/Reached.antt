-- Rules that are reached, and mentions that are safe.
use Rattle.std.specs.Prelude.{ℕ, Bool, true, false, cond, not, ◌&&◌, ◌||◌, List, [], ◌∷◌, Option, Some, None}
use Rattle.std.specs.List.{list_all, list_any}
use Rattle.std.specs.Str.{bytes_eq}
use Rattle.formula_parse.specs.Lexemes.{is_id}
use Rattle.doc_model.specs.declared.view.ViewCol.{ViewCol}
use Rattle.acl_formula.specs.Mentions.{mentioned}
use Rattle.acl_formula.specs.declared.mention.Mention.{Mention}
use Rattle.acl_formula.specs.declared.mention.Mention.TheVariants as mention
use Rattle.acl_formula.specs.declared.permissions.Perm.{Perm}
use Rattle.acl_formula.specs.declared.permissions.Perm.TheVariants as perm
use Rattle.acl_formula.specs.declared.user_info.UserInfo.{UserInfo}
use Rattle.acl_rules.specs.declared.rule.Rule.{Rule}
use Rattle.acl_rules.specs.Decided.{decides, mentions}
use Rattle.acl_reading.specs.Walk.{asks_row, without_row}
use Rattle.rule_audit.specs.declared.stop.Stop.{Stop}
use Rattle.rule_audit.specs.declared.stop.Stop.TheVariants as stop

-- rows that go are seen as they are
abbrev pub is_removal : Perm → Bool
is_removal perm.D = true
is_removal p = false

-- whether what an open column holds is told: of a row that goes always; of a new row and of a
-- changed one only where it is a data column, since a formula may read anything
abbrev pub is_given : Perm → ViewCol → Bool
is_given p d = is_removal p || not d.is_formula

-- whether it is one of the open columns, and what it holds is told
abbrev pub is_column_safe : Perm → List ViewCol → List ℕ → Bool
is_column_safe p opened n = list_any (λ (d : ViewCol). bytes_eq d.id n && is_given p d) opened

-- whether there is an open column: then each row is seen
abbrev pub has_open : List ViewCol → Bool
has_open [] = false
has_open (d ∷ ds) = true

-- the row's id is safe where each row is seen
abbrev pub is_field_safe : Perm → List ViewCol → List ℕ → Bool
is_field_safe p opened n = cond (is_id n) (has_open opened) (is_column_safe p opened n)

-- whether a mention is safe for the permission, by the open columns of the table
abbrev pub is_safe : Perm → List ViewCol → Mention → Bool
is_safe p opened (mention.Rec n) = is_field_safe p opened n
is_safe p opened (mention.NewRec n) = is_field_safe p opened n
is_safe p opened (mention.User n) = true

-- whether all that a rule mentions is safe
abbrev pub is_rule_safe : (Mention → Bool) → Rule → Bool
is_rule_safe safe r =
    elim r.formula [ None ↦ true | Some tree ↦ list_all safe (mentioned tree) ]

-- whether no rule behind this one is reached: it uses no row and decides
abbrev pub ends_reach : UserInfo → Perm → Rule → Bool
ends_reach u p r = not (asks_row r) && decides (without_row u) p r

-- of the rules that mention the permission, those up to the first that ends the reach: the walk
-- stops badly at one that mentions what is not safe
abbrev pub reach_stop : UserInfo → Perm → (Mention → Bool) → Rule → Option Stop
reach_stop u p safe r =
    cond (mentions p r.permissions)
    (cond (is_rule_safe safe r) (cond (ends_reach u p r) (Some stop.Well) None)
    (Some (stop.Badly r.row)))
    None
