-- What the checks of a closed user's action rest on, in documents that show the user the same.
use Rattle.std.specs.Prelude.{ℕ, true, List, ◌≡◌}
use Rattle.std.specs.List.{list_all}
use Rattle.doc_model.specs.declared.column.CellColumn.{CellColumn}
use Rattle.doc_model.specs.declared.view.ViewTable.{ViewTable}
use Rattle.doc_model.specs.ByIds.{has_id}
use Rattle.doc_model.specs.Document.{Document}
use Rattle.doc_model.specs.Rows.{has}
use Rattle.doc_model.specs.ViewEdits.{shown_id}
use Rattle.acl_formula.specs.declared.permissions.Perm.TheVariants as perm
use Rattle.acl_rules.specs.declared.decision.Ctx.{Ctx}
use Rattle.acl_checks.specs.Checks.{add_checks, remove_checks, row_at, update_checks}
use Rattle.acl_checks.specs.Denials.{first_denied}
use Rattle.acl_reading.specs.RulesLet.{rules_let}
use Rattle.censored_view.specs.View.{view}
use Rattle.rule_audit.specs.Closed.{IsClosed}
use Rattle.rule_audit.specs.Open.{open_columns}
use Rattle.rule_audit.specs.SeenLaws.{IsSeen}
use Rattle.audited_checks.specs.AlikeRows.{AreAlike, AreAllAlike}

-- two documents show the table the same to a closed user
pub record ShowAlike (x : Ctx) (s t : Document) (v : ViewTable) : Type 0 where
  pub seen : IsSeen x s v
  pub other : IsSeen x t v
  pub closed : IsClosed x (view (rules_let x) s)

-- each of these rows is shown, and each of these columns
abbrev pub AreShown : ViewTable → List ℕ → Type 0
AreShown v rows = list_all (has v.rows) rows ≡ true

abbrev pub AreShownColumns : ViewTable → List CellColumn → Type 0
AreShownColumns v ks = list_all (λ (k : CellColumn). has_id shown_id v.columns k.id) ks ≡ true

-- rows that go: the same rule denies in both, or none
abbrev pub RemovedLaw : Type 0
RemovedLaw = (x : Ctx) (s t : Document) (v : ViewTable) (rows : List ℕ) → ShowAlike x s t v
    → AreShown v rows
    → first_denied x (remove_checks s v.id rows) ≡ first_denied x (remove_checks t v.id rows)

-- changed rows, of s and t before, and alike in the documents after
abbrev pub ChangedLaw : Type 0
ChangedLaw = (x : Ctx) (s t s_new t_new : Document) (v : ViewTable) (rows : List ℕ)
    (ks : List CellColumn)
    → ShowAlike x s t v → AreShown v rows → AreShownColumns v ks
    → ((r : ℕ) → has v.rows r ≡ true
    → AreAlike perm.U (open_columns x v) (row_at s_new v.id r) (row_at t_new v.id r))
    → first_denied x (update_checks s s_new v.id rows ks)
    ≡ first_denied x (update_checks t t_new v.id rows ks)

-- new rows, alike in the documents after
abbrev pub AddedLaw : Type 0
AddedLaw = (x : Ctx) (s t s_new t_new : Document) (v : ViewTable) (rows others : List ℕ)
    (ks : List CellColumn)
    → ShowAlike x s t v → AreShownColumns v ks
    → AreAllAlike (open_columns x v) v.id s_new t_new rows others
    → first_denied x (add_checks s_new v.id rows ks)
    ≡ first_denied x (add_checks t_new v.id others ks)
