-- Rules that follow a column to its new name decide as they did.
use Rattle.std.specs.Prelude.{ℕ, List, Option, Some, None, option_map, ◌≡◌, ⊤}
use Rattle.acl_checks.specs.Checks.{Check, row_at}
use Rattle.acl_checks.specs.Denials.{decided}
use Rattle.acl_formula.specs.declared.permissions.Perm.{Perm}
use Rattle.acl_rules.specs.declared.decision.Ctx.{Ctx}
use Rattle.acl_rules.specs.RuleBook.{BookRule}
use Rattle.doc_model.specs.declared.user.User.{User}
use Rattle.doc_model.specs.Document.{Document}
use Rattle.rename_marks.specs.declared.column_rename.ColumnRename.{ColumnRename}
use Rattle.renamed_documents.specs.RenamedTables.{Rewriting}
use Rattle.renamed_values.specs.HeldRecords.{IsPlain}
use Rattle.renamed_values.specs.SameEv.{IsKept, moved}
use Rattle.user_attrs.specs.declared.attribute_rule.AttributeRule.{AttributeRule}
use Rattle.user_attrs.specs.UserInfos.{user_info}
use Rattle.renamed_rules.specs.RenamedCells.{HasMoved}
use Rattle.renamed_rules.specs.RenamedRules.{RulesFollow}

-- a permission that is asked of a table, or a column of it, with the rows before and after by their
-- numbers
abbrev pub check_of : Document → Perm → List ℕ → Option (List ℕ) → Option ℕ → Option ℕ → Check
check_of s p t c before after = record {
  perm = p;
  table = Some t;
  column = c;
  before = option_map (row_at s t) before;
  after = option_map (row_at s t) after;
}

-- rules in force for a user, in a document whose cells are evaluated
abbrev pub in_force : List BookRule → List AttributeRule → User → Document → Ctx
in_force book as' user s = record { book = book; user = user_info as' user s }

-- the column is named, and not by the new name, or none is
abbrev pub IsKeptColumn : ColumnRename → List ℕ → Option (List ℕ) → Type 0
IsKeptColumn m t None = ⊤
IsKeptColumn m t (Some c) = IsKept m t c

-- each decision is the one before, the column taken by its new name
abbrev pub RenamedDecisionLaw : Type 0
RenamedDecisionLaw = (m : ColumnRename) (w : Rewriting) (s s' : Document)
    (as' bs : List AttributeRule) (book after : List BookRule)
    → HasMoved m w s s' → RulesFollow m as' bs book after
    → (user : User) (p : Perm) (t : List ℕ) (c : Option (List ℕ)) (r q : Option ℕ)
    → IsPlain t → IsKeptColumn m t c
    → decided (in_force after bs user s') (check_of s' p t (option_map (moved m t) c) r q)
    ≡ decided (in_force book as' user s) (check_of s p t c r q)
