-- The law of renames through formulas and rules.
use Rattle.std.specs.Prelude.{ℕ, true, List, Option, option_map, ◌≡◌}
use Rattle.std.specs.Str.{IsUtf8}
use Rattle.acl_checks.specs.Denials.{decided}
use Rattle.acl_formula.specs.declared.permissions.Perm.{Perm}
use Rattle.acl_rules.specs.Loaded.{book_of}
use Rattle.doc_model.specs.declared.user.User.{User}
use Rattle.doc_model.specs.Document.{Document}
use Rattle.doc_model.specs.DocumentLaws.{IsWhole}
use Rattle.doc_model.specs.Readers.{cell_at}
use Rattle.planned_renames.specs.WholeView.{ShowsWhole}
use Rattle.recalc.specs.Evaluated.{filled}
use Rattle.rename_flow.specs.Plan.{is_shown, plan_of}
use Rattle.rename_marks.specs.declared.column_rename.ColumnRename.{ColumnRename}
use Rattle.renamed_rules.specs.Decisions.{IsKeptColumn, check_of}
use Rattle.renamed_rules.specs.RenamedRules.{RulesFollow}
use Rattle.renamed_values.specs.HeldRecords.{IsPlain}
use Rattle.renamed_values.specs.SameEv.{IsKept, moved}
use Rattle.rule_contexts.specs.Context.{context, view}
use Rattle.user_attrs.specs.Attributes.{attributes_of}
use Rattle.rename_law.specs.Judged.{IsAccepted}

-- what the user sees is the whole document, the plan has nothing unresolved, and its bundle is
-- accepted
pub record IsRename (user : User) (m : ColumnRename) (s s' : Document) : Type 0 where
  pub whole : IsWhole s
  pub shows : ShowsWhole (view user s) s
  pub new_is_utf8 : IsUtf8 m.new
  pub shown : is_shown (view user s) m.table m.old ≡ true
  pub resolved : (plan_of (view user s) m).unresolved ≡ 0
  pub accepted : IsAccepted user s (plan_of (view user s) m).actions s'

-- each cell outside the metadata has its value under the new name; and where rules follow, each
-- decision for a user on a table outside the metadata is the one before, a column taken by its new
-- name
pub record KeepsAll (m : ColumnRename) (s s' : Document) : Type 0 where
  pub whole : IsWhole s'
  pub values : (t c : List ℕ) (row : ℕ) → IsPlain t → IsKept m t c
      → cell_at (filled s') t (moved m t c) row ≡ cell_at (filled s) t c row
  pub decisions : RulesFollow m (attributes_of s) (attributes_of s') (book_of s) (book_of s')
      → (user : User) (p : Perm) (t : List ℕ) (c : Option (List ℕ)) (r q : Option ℕ)
      → IsPlain t → IsKeptColumn m t c
      → decided (context user s') (check_of (filled s') p t (option_map (moved m t) c) r q)
      ≡ decided (context user s) (check_of (filled s) p t c r q)

abbrev pub RenameLaw : Type 0
RenameLaw = (user : User) (m : ColumnRename) (s s' : Document) → IsRename user m s s'
    → KeepsAll m s s'
