-- Rules follow the plan of a rename.
use Rattle.std.specs.Prelude.{ℕ, List, Option, option_map, map, ◌≡◌}
use Rattle.std.specs.List.{AllByRecursion}
use Rattle.acl_checks.specs.Denials.{decided}
use Rattle.acl_formula.specs.declared.permissions.Perm.{Perm}
use Rattle.acl_formula.specs.RuleFields.{found_field}
use Rattle.acl_rules.specs.declared.decision.Ctx.{Ctx}
use Rattle.acl_rules.specs.Loaded.{book_of}
use Rattle.doc_model.specs.declared.user.User.{User}
use Rattle.doc_model.specs.declared.view.ViewTable.{ViewTable}
use Rattle.doc_model.specs.Apply.{apply_all}
use Rattle.doc_model.specs.Document.{Document}
use Rattle.planned_renames.specs.PlannedValues.{IsPlanned}
use Rattle.recalc.specs.Evaluated.{filled}
use Rattle.rename_flow.specs.Plan.{plan_of}
use Rattle.rename_flow.specs.ShownRules.{attributes_in, rule_rows}
use Rattle.rename_marks.specs.declared.column_rename.ColumnRename.{ColumnRename}
use Rattle.renamed_rules.specs.Decisions.{IsKeptColumn, check_of, in_force}
use Rattle.renamed_rules.specs.FollowingRows.{RowsFollow}
use Rattle.renamed_rules.specs.RenamedRules.{attribute_after}
use Rattle.renamed_values.specs.HeldRecords.{IsPlain}
use Rattle.renamed_values.specs.SameEv.{IsKept, moved}
use Rattle.renaming_bundles.specs.Expanded.{expanded}
use Rattle.user_attrs.specs.Attributes.{attributes_of}
use Rattle.user_attrs.specs.declared.attribute_rule.AttributeRule.{AttributeRule}
use Rattle.user_attrs.specs.UserInfos.{found_in}
use Rattle.ruled_renames.specs.ShownRules.{ShowsRules}

-- the document after the bundle that is planned by a view
abbrev pub after_plan : List ViewTable → ColumnRename → Document → Document
after_plan v m s = apply_all s (expanded s (plan_of v m).actions)

-- each row of the table of rules follows
abbrev pub PlannedRowsLaw : Type 0
PlannedRowsLaw = (v : List ViewTable) (m : ColumnRename) (s : Document) → IsPlanned v m s
    → ShowsRules v s → RowsFollow m (attributes_in (rule_rows v)) s (after_plan v m s)

-- the rules of a document and the attributes of a user, once all its cells are evaluated
abbrev pub rules_in_force : Document → User → Ctx
rules_in_force s user = in_force (book_of s) (attributes_of s) user (filled s)

-- what an attribute finds for a user is what it found: each field of the row, a column by its new
-- name
abbrev pub FindsTheSame : ColumnRename → Document → Document → User → AttributeRule → Type 0
FindsTheSame m s s' user a = (n : List ℕ) → IsKept m a.table n
    → found_field (found_in s' user (attribute_after m a)) (moved m a.table n)
    ≡ found_field (found_in s user a) n

-- each decision of the rules is the one before, a column taken by its new name; and attributes of
-- users are those before, their columns by the new name, and find the same rows
pub record KeepsRules (m : ColumnRename) (s s' : Document) : Type 0 where
  pub decisions : (user : User) (p : Perm) (t : List ℕ) (c : Option (List ℕ)) (r q : Option ℕ)
      → IsPlain t → IsKeptColumn m t c
      → decided (rules_in_force s' user) (check_of (filled s') p t (option_map (moved m t) c) r q)
      ≡ decided (rules_in_force s user) (check_of (filled s) p t c r q)
  pub attributes : attributes_of s' ≡ map (attribute_after m) (attributes_of s)
  pub found : (user : User)
      → AllByRecursion (FindsTheSame m (filled s) (filled s') user) (attributes_of s)

-- where a view shows a whole document with its rules, and its plan has nothing unresolved, the
-- bundle keeps all decisions
abbrev pub PlannedRulesLaw : Type 0
PlannedRulesLaw = (v : List ViewTable) (m : ColumnRename) (s : Document) → IsPlanned v m s
    → ShowsRules v s → KeepsRules m s (after_plan v m s)
