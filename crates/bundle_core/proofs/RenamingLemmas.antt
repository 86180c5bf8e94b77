-- Renamings: from what they are planned, that their actions may be asked for, and that these are done
-- where they are accepted.
use Rattle.std.proofs.Common.{◌≡◌, ◌∙◌, ap, refl, ℕ, zero, suc, Bool, true, List, [], ◌∷◌, length, map, arith}
use Rattle.std.specs.Prelude.{filter}
use Rattle.std.specs.List.{AllByRecursion, list_all}
use Rattle.std.proofs.lemmas.Bool.{and_from}
use Rattle.cell_types.specs.declared.value.CellValue.{CellValue}
use Rattle.doc_model.specs.declared.user.User.{User}
use Rattle.doc_model.specs.declared.user_action.UserAction.{UserAction}
use Rattle.doc_model.specs.declared.view.ViewTable.{ViewTable}
use Rattle.doc_model.specs.Changes.{grid}
use Rattle.doc_model.specs.Document.{Document}
use Rattle.doc_model.specs.DocumentLaws.{IsWhole}
use Rattle.doc_model.specs.MetadataIds.{is_acl_id}
use Rattle.doc_model.specs.ViewEdits.{IsShown}
use Rattle.doc_model.specs.WellFormed.{is_well_formed}
use Rattle.plain_view.specs.PartsOfViews.{passing, passing_cells}
use Rattle.censored_view.proofs.ViewLemmas.{all_pass}
use Rattle.rename_marks.specs.declared.column_rename.ColumnRename.{ColumnRename}
use Rattle.rename_flow.specs.declared.rename_plan.RenamePlan.{RenamePlan}
use Rattle.rename_flow.specs.declared.row_changes.RowChanges.{RowChanges}
use Rattle.rename_flow.specs.Plan.{plan_of}
use Rattle.rename_flow.specs.PlanLaw.{with_rows}
use Rattle.rename_flow.specs.RuleParts.{update_of}
use Rattle.rename_flow.proofs.PlanReads.{plan_same}
use Rattle.rename_flow.proofs.WellFormedLemmas.{AreEven, plan_all, update_well_formed}
use Rattle.rule_contexts.specs.Context.{view}
use Rattle.bundle_judge.specs.declared.bare_verdict.BareVerdict.TheVariants as verdict
use Rattle.bundle_judge.specs.Judgement.{Judgement, judge, refused}
use Rattle.bundle_core.specs.Renaming.{judge_plan, planned, rules_alone}
use Rattle.bundle_core.specs.UndoLaw.{may_be_asked}
use Rattle.bundle_core.proofs.DoneBundles.{BundlesAreDone, IsDone, IsFine}
use Rattle.bundle_core.proofs.ViewLaws.{is_view}

-- ---- a plan from columns and the rows of rules

abbrev rows_left : ViewTable → List ℕ
rows_left w = filter (λ _. is_acl_id w.id) w.rows

abbrev cells_left : ViewTable → List (List CellValue)
cells_left w = passing_cells (λ _. is_acl_id w.id) w.rows w.cells

all_cells : (rows : List ℕ) (cells : List (List CellValue)) → length cells ≡ length rows → passing_cells (λ _. true) rows cells ≡ cells
all_cells [] [] same = refl
all_cells [] (c ∷ cells) same = let never : ⊥ = omega (arith, same) in absurd never
all_cells (r ∷ rows) [] same = refl
all_cells (r ∷ rows) (c ∷ cells) same = ap (λ l. c ∷ l) (all_cells rows cells (omega (arith, same)))

stays_whole : (w : ViewTable) → IsShown (grid w) → is_acl_id w.id ≡ true → with_rows rows_left cells_left w ≡ w
stays_whole w shown acl =
    let rows = ap (λ b. filter (λ _. b) w.rows) acl ∙ all_pass w.rows in
    let cells = ap (λ b. passing_cells (λ _. b) w.rows w.cells) acl ∙ all_cells w.rows w.cells shown.is_grid.height in
    λ j. record { id = w.id; columns = w.columns; rows = rows j; cells = cells j }

all_stay : (v : List ViewTable) → AllByRecursion (λ w. IsShown (grid w)) v → AllByRecursion (λ w. is_acl_id w.id ≡ true → with_rows rows_left cells_left w ≡ w) v
all_stay [] shown = tt
all_stay (w ∷ ws) shown = (stays_whole w shown.0, all_stay ws shown.1)

-- no rows are wanted but those of rules
pub planned_alone : (user : User) (s : Document) (r : ColumnRename) → IsWhole s → plan_of (rules_alone (view user s)) r ≡ plan_of (view user s) r
planned_alone user s r whole =
    ap (λ v. plan_of (map (with_rows rows_left cells_left) v) r) (all_pass (view user s))
    ∙ plan_same rows_left cells_left (view user s) r (all_stay (view user s) (is_view user s whole).tables)

-- ---- what is planned may be asked for

may_update : (column : List ℕ) (g : RowChanges) → AreEven g → may_be_asked (update_of column g) ≡ true
may_update column g h = and_from (is_well_formed (update_of column g)) true (update_well_formed column g h) refl

pub planned_formed : (user : User) (s : Document) (table column new : List ℕ) → list_all may_be_asked (planned user s table column new).actions ≡ true
planned_formed user s table column new =
    plan_all may_be_asked (λ t old n. refl) (λ t c. refl) may_update (view user s) (record { table = table; old = column; new = new })

-- ---- and is done where it is accepted

pub renaming_done : BundlesAreDone → (user : User) (s : Document) (p : RenamePlan) → IsFine s → list_all may_be_asked p.actions ≡ true → IsDone s (judge_plan user s p)
renaming_done done user s p fine may =
    elim p.unresolved as (λ n. IsDone s (elim n as (λ _. Judgement) [
      | zero ↦ judge user s p.actions
      | suc m ↦ refused (verdict.Unresolved (suc m))
    ])) [
      | zero ↦ done user s p.actions fine may
      | suc m ↦ tt
    ]
