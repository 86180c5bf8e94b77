-- The checks of record actions, in documents that look alike.
use Rattle.std.proofs.Common.{◌≡◌, ◌∙◌, ap, refl, subst, ℕ, true, false, cond, List, [], ◌∷◌, ◌++◌, map, Option, Some, None}
use Rattle.doc_model.specs.declared.action.DocAction.{DocAction}
use Rattle.doc_model.specs.declared.action.DocAction.TheVariants.{BulkRemove}
use Rattle.doc_model.specs.declared.column.ColDef.{ColDef}
use Rattle.doc_model.specs.declared.refusal.Refusal.{Refusal}
use Rattle.doc_model.specs.declared.user_action.UserColumn.{UserColumn}
use Rattle.doc_model.specs.declared.view.ViewTable.{ViewTable}
use Rattle.doc_model.specs.Apply.{apply}
use Rattle.doc_model.specs.Changes.{shown_table_id}
use Rattle.doc_model.specs.Document.{Document}
use Rattle.doc_model.specs.Grid.{Grid}
use Rattle.doc_model.specs.MetadataIds.{is_acl_id}
use Rattle.doc_model.specs.Valid.{valid}
use Rattle.doc_model.proofs.ByIdsLaws.{found_id}
use Rattle.doc_readers.specs.Parts.{grid_at}
use Rattle.acl_formula.specs.RuleRow.{RuleRow}
use Rattle.acl_formula.specs.declared.permissions.Perm.TheVariants as perm
use Rattle.acl_rules.specs.declared.decision.Ctx.{Ctx}
use Rattle.acl_checks.specs.Checks.{Check, add_checks, cell_checks, checks_of, new_row_checks, remove_checks, row_at, row_check, unless_acl, update_checks}
use Rattle.acl_checks.specs.Denials.{first_denied}
use Rattle.acl_reading.specs.RulesLet.{rules_let}
use Rattle.censored_view.specs.View.{view}
use Rattle.recalc.specs.Evaluated.{filled}
use Rattle.user_actions.specs.Steps.{all_fitted, fitted, last_row, numbers_after}
use Rattle.audited_checks.specs.CheckLaws.{AreShown, AreShownColumns, ShowAlike}
use Rattle.audited_checks.proofs.CheckLemmas.{added_same, changed_same, removed_same}
use Rattle.audited_cells.specs.CellLaws.{added, written}
use Rattle.audited_cells.proofs.AddedLemmas.{added_cells}
use Rattle.audited_cells.proofs.ChangedLemmas.{changed_cells}
use Rattle.audited_records.proofs.ShownLemmas.{IsNamed, LookAlike, both_show, none_of_own}

-- ---- checks rest on the ids alone of columns that are given

module _ (g h : Grid ColDef) (table : List ℕ) (ks : List UserColumn) where
  cells_named : (a b : RuleRow) (ls : List UserColumn) → cell_checks table a b (map (fitted g) ls) ≡ cell_checks table a b (map (fitted h) ls)
  cells_named a b [] = refl
  cells_named a b (l ∷ ls) = ap (λ cs. row_check perm.U table (Some l.id) a b ∷ cs) (cells_named a b ls)

  updates_named : (s t : Document) (rows : List ℕ) → update_checks s t table rows (map (fitted g) ks) ≡ update_checks s t table rows (map (fitted h) ks)
  updates_named s t [] = refl
  updates_named s t (r ∷ rows) =
      ap (λ cs. cs ++ update_checks s t table rows (map (fitted g) ks)) (cells_named (row_at s table r) (row_at t table r) ks)
      ∙ ap (λ cs. cell_checks table (row_at s table r) (row_at t table r) (map (fitted h) ks) ++ cs) (updates_named s t rows)

  adds_named : (t : Document) (rows : List ℕ) → add_checks t table rows (map (fitted g) ks) ≡ add_checks t table rows (map (fitted h) ks)
  adds_named t [] = refl
  adds_named t (r ∷ rows) =
      ap (λ cs. (row_check perm.C table None (row_at t table r) (row_at t table r) ∷ cs) ++ add_checks t table rows (map (fitted g) ks)) (cells_named (row_at t table r) (row_at t table r) ks)
      ∙ ap (λ cs. new_row_checks table (row_at t table r) (map (fitted h) ks) ++ cs) (adds_named t rows)

-- ---- a table that both show

module _ (x : Ctx) (s t : Document) (v : ViewTable) (both : ShowAlike x (filled s) (filled t) v) where
  pub removed_there : (rows : List ℕ) → AreShown v rows → first_denied x (remove_checks (filled s) v.id rows) ≡ first_denied x (remove_checks (filled t) v.id rows)
  removed_there rows shown = removed_same x (filled s) (filled t) v rows both shown

  module _ (ks : List UserColumn) (columns : AreShownColumns v (all_fitted s v.id ks)) where
    pub written_there : (rows : List ℕ) → AreShown v rows → valid s (written s v.id rows ks) ≡ true → valid t (written t v.id rows ks) ≡ true
        → first_denied x (update_checks (filled s) (filled (apply s (written s v.id rows ks))) v.id rows (all_fitted s v.id ks))
        ≡ first_denied x (update_checks (filled t) (filled (apply t (written t v.id rows ks))) v.id rows (all_fitted t v.id ks))
    written_there rows shown ok ok_too =
        changed_same x (filled s) (filled t) (filled (apply s (written s v.id rows ks))) (filled (apply t (written t v.id rows ks))) v rows (all_fitted s v.id ks) both shown columns
        (λ r here. changed_cells x s t v rows ks r both.seen both.other ok ok_too here)
        ∙ ap (first_denied x) (updates_named (grid_at s v.id) (grid_at t v.id) v.id ks (filled t) (filled (apply t (written t v.id rows ks))) rows)

    pub added_there : (count : ℕ) → valid s (added s v.id count ks) ≡ true → valid t (added t v.id count ks) ≡ true
        → first_denied x (add_checks (filled (apply s (added s v.id count ks))) v.id (numbers_after (last_row s v.id) count) (all_fitted s v.id ks))
        ≡ first_denied x (add_checks (filled (apply t (added t v.id count ks))) v.id (numbers_after (last_row t v.id) count) (all_fitted t v.id ks))
    added_there count ok ok_too =
        added_same x (filled s) (filled t) (filled (apply s (added s v.id count ks))) (filled (apply t (added t v.id count ks))) v (numbers_after (last_row s v.id) count) (numbers_after (last_row t v.id) count) (all_fitted s v.id ks) both columns
        (added_cells x s t v ks count both.seen both.other ok ok_too)
        ∙ ap (first_denied x) (adds_named (grid_at s v.id) (grid_at t v.id) v.id ks (filled (apply t (added t v.id count ks))) (numbers_after (last_row t v.id) count))

-- ---- any table of a record action

-- what is checked of an action on a document
abbrev pub checks_at : Document → DocAction → List Check
checks_at s a = checks_of (filled s) (filled (apply s a)) a

-- of the tables of the access rules nothing is
unless_same : (x : Ctx) (table : List ℕ) (cs ds : List Check) → (is_acl_id table ≡ false → first_denied x cs ≡ first_denied x ds) → first_denied x (unless_acl table cs) ≡ first_denied x (unless_acl table ds)
unless_same x table cs ds same =
    elim (is_acl_id table) as (λ b. (b ≡ false → first_denied x cs ≡ first_denied x ds) → first_denied x (cond b [] cs) ≡ first_denied x (cond b [] ds)) [
      | true ↦ λ _. refl
      | false ↦ λ same. same refl
    ] same

module _ (x : Ctx) (s t : Document) (alike : LookAlike x s t) (table : List ℕ) (rest : ViewTable → Option Refusal) (named : IsNamed (view (rules_let x) (filled s)) table rest) where
  abbrev v : ViewTable
  v = named.its

  name : v.id ≡ table
  name = found_id shown_table_id table (view (rules_let x) (filled s)) v named.found

  shown_by_both : is_acl_id table ≡ false → ShowAlike x (filled s) (filled t) v
  shown_by_both plain = both_show x s t alike table v (none_of_own table named.outside plain) named.found

  pub removed_alike : (rows : List ℕ) → AreShown v rows → first_denied x (checks_at s (BulkRemove table rows)) ≡ first_denied x (checks_at t (BulkRemove table rows))
  removed_alike rows shown =
      unless_same x table (remove_checks (filled s) table rows) (remove_checks (filled t) table rows)
      (λ plain. subst (λ n. first_denied x (remove_checks (filled s) n rows) ≡ first_denied x (remove_checks (filled t) n rows)) name (removed_there x s t v (shown_by_both plain) rows shown))

  module _ (ks : List UserColumn) (columns : (g : Grid ColDef) → AreShownColumns v (map (fitted g) ks)) where
    pub written_alike : (rows : List ℕ) → AreShown v rows → valid s (written s table rows ks) ≡ true → valid t (written t table rows ks) ≡ true → first_denied x (checks_at s (written s table rows ks)) ≡ first_denied x (checks_at t (written t table rows ks))
    written_alike rows shown ok ok_too =
        unless_same x table
        (update_checks (filled s) (filled (apply s (written s table rows ks))) table rows (all_fitted s table ks))
        (update_checks (filled t) (filled (apply t (written t table rows ks))) table rows (all_fitted t table ks))
        (λ plain. subst (λ n. valid s (written s n rows ks) ≡ true → valid t (written t n rows ks) ≡ true
        → first_denied x (update_checks (filled s) (filled (apply s (written s n rows ks))) n rows (all_fitted s n ks))
        ≡ first_denied x (update_checks (filled t) (filled (apply t (written t n rows ks))) n rows (all_fitted t n ks)))
        name (written_there x s t v (shown_by_both plain) ks (columns (grid_at s v.id)) rows shown) ok ok_too)

    pub added_alike : (count : ℕ) → valid s (added s table count ks) ≡ true → valid t (added t table count ks) ≡ true → first_denied x (checks_at s (added s table count ks)) ≡ first_denied x (checks_at t (added t table count ks))
    added_alike count ok ok_too =
        unless_same x table
        (add_checks (filled (apply s (added s table count ks))) table (numbers_after (last_row s table) count) (all_fitted s table ks))
        (add_checks (filled (apply t (added t table count ks))) table (numbers_after (last_row t table) count) (all_fitted t table ks))
        (λ plain. subst (λ n. valid s (added s n count ks) ≡ true → valid t (added t n count ks) ≡ true
        → first_denied x (add_checks (filled (apply s (added s n count ks))) n (numbers_after (last_row s n) count) (all_fitted s n ks))
        ≡ first_denied x (add_checks (filled (apply t (added t n count ks))) n (numbers_after (last_row t n) count) (all_fitted t n ks)))
        name (added_there x s t v (shown_by_both plain) ks (columns (grid_at s v.id)) count) ok ok_too)
