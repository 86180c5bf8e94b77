-- What rules say of an action on tables or columns, by what the view tells.
use Rattle.std.proofs.Common.{◌≡◌, ◌∙◌, ap, refl, subst, sym, ℕ, true, false, cond, not, List, [], ◌∷◌, ◌++◌, map, Option, Some, None, bytes_eq}
use Rattle.std.specs.List.{list_any}
use Rattle.cell_types.specs.declared.column_type.ColType.TheVariants as type
use Rattle.doc_model.specs.declared.action.DocAction.TheVariants as action
use Rattle.doc_model.specs.declared.action.Step.{Step}
use Rattle.doc_model.specs.declared.column.ColDef.{ColDef}
use Rattle.doc_model.specs.declared.column.ColInfo.{ColInfo}
use Rattle.doc_model.specs.declared.refusal.Refusal.{Refusal}
use Rattle.doc_model.specs.declared.refusal.Refusal.TheVariants as refusal
use Rattle.doc_model.specs.declared.user_action.UserAction.{UserAction}
use Rattle.doc_model.specs.declared.user_action.UserAction.TheVariants as user
use Rattle.doc_model.specs.declared.user_action.UserCol.{UserCol}
use Rattle.doc_model.specs.declared.view.ViewCol.{ViewCol}
use Rattle.doc_model.specs.declared.view.ViewTable.{ViewTable}
use Rattle.doc_model.specs.ByIds.{find_id}
use Rattle.doc_model.specs.Changes.{shown_table_id}
use Rattle.doc_model.specs.Column.{column_id}
use Rattle.doc_model.specs.Counts.{over}
use Rattle.doc_model.specs.Document.{Document}
use Rattle.doc_model.specs.DocumentLaws.{IsWhole}
use Rattle.doc_model.specs.Grid.{Grid}
use Rattle.doc_model.specs.MetadataIds.{is_metadata_id}
use Rattle.doc_model.specs.ViewEdits.{shown_id}
use Rattle.doc_model.proofs.ByIdsLaws.{found_id}
use Rattle.doc_readers.specs.Parts.{grid_at}
use Rattle.recalc.specs.Evaluated.{filled}
use Rattle.acl_rules.specs.declared.decision.Ctx.{Ctx}
use Rattle.acl_checks.specs.Checks.{schema_check}
use Rattle.name_rules.specs.FreeName.{free_name}
use Rattle.rule_audit.specs.Closed.{IsClosed}
use Rattle.rule_audit.specs.SeenLaws.{IsSeen}
use Rattle.user_actions.specs.Columns.{info_said, may_become}
use Rattle.user_actions.specs.Kinds.{is_about_rows}
use Rattle.user_actions.specs.Marked.{direct}
use Rattle.user_actions.specs.Modified.{emptied, filled as refilled, modified_to, same_info}
use Rattle.user_actions.specs.References.{led_to, referrers}
use Rattle.user_actions.specs.ResourceSteps.{columns_moved, tables_moved}
use Rattle.user_actions.specs.Steps.{column_ids, column_renaming, column_said, renaming, steps_of, table_ids, table_said}
use Rattle.user_objections.specs.Objections.{against, in_table, objection_to, on_change}
use Rattle.rule_contexts.specs.Context.{context, view, view_in}
use Rattle.action_limits.specs.Tallies.{after}
use Rattle.bundle_judge.specs.declared.bare_verdict.BareVerdict.{BareVerdict}
use Rattle.bundle_judge.specs.CarriedContexts.{renames}
use Rattle.bundle_judge.specs.Denials.{denial_of}
use Rattle.bundle_judge.proofs.CarriedLemmas.{no_renames}
use Rattle.audited_columns.specs.ColumnLaws.{InfosLaw, IsAsShown, told_info}
use Rattle.audited_records.proofs.ActionLemmas.{none_shown}
use Rattle.audited_records.proofs.ShownLemmas.{applies_not, seen_table}
use Rattle.audited_verdicts.specs.SchemaActionsLaw.{SchemaActionsLaw}
use Rattle.audited_verdicts.proofs.FollowingSteps.{columns_follow, emptied_follows, filled_follows, tables_follow}
use Rattle.audited_verdicts.proofs.LaterDenials.{denial_for, first_asked, later_asked}

-- ---- what is said of a column in a view

-- of a column that is not shown, anything
abbrev no_info : ColInfo
no_info = record { ty = type.Any; is_formula = false; formula = [] }

abbrev info_among : List ViewCol → List ℕ → ColInfo
info_among columns c = elim (find_id shown_id c columns) [ None ↦ no_info | Some e ↦ told_info e ]

abbrev info_shown : List ViewTable → List ℕ → List ℕ → ColInfo
info_shown v table c = elim (find_id shown_table_id table v) [ None ↦ no_info | Some t ↦ info_among t.columns c ]

-- a column of the view, in a table that is none of the document's own
record IsColumnShown (v : List ViewTable) (table c : List ℕ) : Type 0 where
  pub plain : is_metadata_id table ≡ false
  pub shown : ViewTable
  pub found : find_id shown_table_id table v ≡ Some shown
  pub column : ViewCol
  pub there : find_id shown_id c shown.columns ≡ Some column

column_shown : (t : ViewTable) (c : UserCol) → on_change t c ≡ None → (e : ViewCol) × (find_id shown_id c.id t.columns ≡ Some e)
column_shown t c h =
    elim (find_id shown_id c.id t.columns) as (λ (o : Option ViewCol). elim o as (λ _. Option Refusal) [ None ↦ Some refusal.NoSuchColumn | Some d ↦ against (not (may_become d.is_formula c)) refusal.BadValue None ] ≡ None → (e : ViewCol) × (o ≡ Some e)) [
      | None ↦ λ h. absurd (cc)
      | Some e ↦ λ h. (e, refl)
    ] h

table_shown : (v : List ViewTable) (table : List ℕ) (rest : ViewTable → Option Refusal) → in_table v table rest ≡ None → (t : ViewTable) × ((find_id shown_table_id table v ≡ Some t) × (rest t ≡ None))
table_shown v table rest h =
    elim (find_id shown_table_id table v) as (λ (o : Option ViewTable). elim o as (λ _. Option Refusal) [ None ↦ Some refusal.NoSuchTable | Some t ↦ rest t ] ≡ None → (t : ViewTable) × ((o ≡ Some t) × (rest t ≡ None))) [
      | None ↦ λ h. absurd (cc)
      | Some t ↦ λ h. (t, (refl, h))
    ] h

-- where nothing stands against its change
changed_shown : (v : List ViewTable) (table : List ℕ) (c : UserCol) → objection_to v (user.ModifyColumn table c) ≡ None → IsColumnShown v table c.id
changed_shown v table c h =
    let parts = applies_not (is_metadata_id table) refusal.MetaTable (in_table v table (λ t. on_change t c)) h in
    let there = table_shown v table (λ t. on_change t c) parts.1 in
    let column = column_shown there.0 c there.1.1 in
    record { plain = parts.0; shown = there.0; found = there.1.0; column = column.0; there = column.1 }

told_there : (v : List ViewTable) (table c : List ℕ) (here : IsColumnShown v table c) → told_info here.column ≡ info_shown v table c
told_there v table c here =
    ap (λ (o : Option ViewCol). elim o as (λ _. ColInfo) [ None ↦ no_info | Some e ↦ told_info e ]) (sym here.there)
    ∙ ap (λ (o : Option ViewTable). elim o as (λ _. ColInfo) [ None ↦ no_info | Some t ↦ info_among t.columns c ]) (sym here.found)

-- ---- what is said of the action

-- of a change of a column that is so
abbrev change_said : Ctx → ℕ → List ℕ → UserCol → ColInfo → Option BareVerdict
change_said x i table c info =
    cond (same_info info (info_said info c)) None (denial_for x i (schema_check (Some table) (Some c.id)))

-- of any action on tables or columns
abbrev said : Ctx → ℕ → List ViewTable → UserAction → Option BareVerdict
said x i v (user.AddTable table cs) = denial_for x i (schema_check None None)
said x i v (user.RemoveTable table) = denial_for x i (schema_check (Some table) None)
said x i v (user.RenameTable table new) =
    cond (bytes_eq table new) None (denial_for x i (schema_check (Some table) None))
said x i v (user.AddColumn table c) = denial_for x i (schema_check (Some table) None)
said x i v (user.RemoveColumn table column) = denial_for x i (schema_check (Some table) (Some column))
said x i v (user.RenameColumn table column new) =
    cond (bytes_eq column new) None (denial_for x i (schema_check (Some table) (Some column)))
said x i v (user.ModifyColumn table c) = change_said x i table c (info_shown v table c.id)
said x i v a = None

-- ---- in one document

module _ (x : Ctx) (s : Document) (i : ℕ) where
  table_renamed : (table new : List ℕ) → denial_of x s i (steps_of s (user.RenameTable table new)) ≡ cond (bytes_eq table new) None (denial_for x i (schema_check (Some table) None))
  table_renamed table new =
      let free : List ℕ = free_name (table_ids s) new in
      elim (bytes_eq table new) as (λ b. denial_of x s i (cond b [] (renaming s table free)) ≡ cond b None (denial_for x i (schema_check (Some table) None))) [
        | true ↦ refl
        | false ↦ first_asked (action.RenameTable table free) (schema_check (Some table) None) (λ u w. refl) x s i (map (led_to free) (referrers s table free true) ++ tables_moved s table free) (tables_follow s table free)
      ]

  column_renamed : (table column new : List ℕ) → denial_of x s i (steps_of s (user.RenameColumn table column new)) ≡ cond (bytes_eq column new) None (denial_for x i (schema_check (Some table) (Some column)))
  column_renamed table column new =
      let free : List ℕ = free_name (column_ids s table) new in
      elim (bytes_eq column new) as (λ b. denial_of x s i (cond b [] (column_renaming s table column free)) ≡ cond b None (denial_for x i (schema_check (Some table) (Some column)))) [
        | true ↦ refl
        | false ↦ first_asked (action.RenameColumn table column free) (schema_check (Some table) (Some column)) (λ u w. refl) x s i (columns_moved s table column free) (columns_follow s table column free)
      ]

  -- a column that becomes what is said
  becomes : (table : List ℕ) (g : Grid ColDef) (d : ColDef) (info : ColInfo) → list_any renames (modified_to table g d info) ≡ false
      → denial_of x s i (modified_to table g d info) ≡ cond (same_info d.info info) None (denial_for x i (schema_check (Some table) (Some d.id)))
  becomes table g d info stay =
      let front : List Step = emptied table g d info in
      let rear : List Step = refilled table g d info in
      let steps : List Step = (front ++ direct (action.ModifyColumn table d.id info) ∷ []) ++ rear in
      elim (same_info d.info info) as (λ b. list_any renames (cond b [] steps) ≡ false → denial_of x s i (cond b [] steps) ≡ cond b None (denial_for x i (schema_check (Some table) (Some d.id)))) [
        | true ↦ λ stay. refl
        | false ↦ λ stay. later_asked (action.ModifyColumn table d.id info) (schema_check (Some table) (Some d.id)) (λ u w. refl) x s i front rear stay (emptied_follows table g d info) (filled_follows table g d info)
      ] stay

  column_changed : (table : List ℕ) (c : UserCol) (d : ColDef) → find_id column_id c.id (grid_at s table).columns ≡ Some d → denial_of x s i (steps_of s (user.ModifyColumn table c)) ≡ change_said x i table c d.info
  column_changed table c d found =
      let steps : Option ColDef → List Step = λ o. elim o as (λ _. List Step) [ None ↦ [] | Some e ↦ modified_to table (grid_at s table) e (info_said e.info c) ] in
      ap (λ o. denial_of x s i (steps o)) found
      ∙ becomes table (grid_at s table) d (info_said d.info c) (sym (ap (λ o. list_any renames (steps o)) found) ∙ no_renames s (user.ModifyColumn table c) refl)
      ∙ ap (λ n. cond (same_info d.info (info_said d.info c)) None (denial_for x i (schema_check (Some table) (Some n)))) (found_id column_id c.id (grid_at s table).columns d found)

module _ (law : InfosLaw) (x : Ctx) (s : Document) (whole : IsWhole s) (closed : IsClosed x (view_in x s)) where
  -- the column is what the view says
  change_told : (i : ℕ) (table : List ℕ) (c : UserCol) → objection_to (view_in x s) (user.ModifyColumn table c) ≡ None → denial_of x s i (steps_of s (user.ModifyColumn table c)) ≡ change_said x i table c (info_shown (view_in x s) table c.id)
  change_told i table c none =
      let here : IsColumnShown (view_in x s) table c.id = changed_shown (view_in x s) table c none in
      let named : here.shown.id ≡ table = found_id shown_table_id table (view_in x s) here.shown here.found in
      let seen : IsSeen x (filled s) here.shown = seen_table x s whole table here.shown here.plain here.found in
      let own : IsAsShown s here.shown c.id here.column = law x s here.shown c.id here.column whole seen closed here.there in
      column_changed x s i table c own.column (ap (λ n. find_id column_id c.id (grid_at s n).columns) (sym named) ∙ own.there)
      ∙ ap (change_said x i table c) (own.told ∙ told_there (view_in x s) table c.id here)

  pub schema_told : (i : ℕ) (a : UserAction) → is_about_rows a ≡ false → objection_to (view_in x s) a ≡ None → denial_of x s i (steps_of s a) ≡ said x i (view_in x s) a
  schema_told i (user.Add table single count has_row_ids ks) h none = absurd (cc)
  schema_told i (user.Update table single rows ks) h none = absurd (cc)
  schema_told i (user.Remove table single rows) h none = absurd (cc)
  schema_told i (user.AddTable table cs) h none = first_asked (table_said s table cs) (schema_check None None) (λ u w. refl) x s i [] refl
  schema_told i (user.RemoveTable table) h none = first_asked (action.RemoveTable table) (schema_check (Some table) None) (λ u w. refl) x s i [] refl
  schema_told i (user.RenameTable table new) h none = table_renamed x s i table new
  schema_told i (user.AddColumn table c) h none = first_asked (action.AddColumn table (column_said s table c)) (schema_check (Some table) None) (λ u w. refl) x s i [] refl
  schema_told i (user.RemoveColumn table column) h none = first_asked (action.RemoveColumn table column) (schema_check (Some table) (Some column)) (λ u w. refl) x s i [] refl
  schema_told i (user.RenameColumn table column new) h none = column_renamed x s i table column new
  schema_told i (user.ModifyColumn table c) h none = change_told i table c none

-- ---- in two

pub schema_actions_same : InfosLaw → SchemaActionsLaw
schema_actions_same law u s t a like plain un_s un_t =
    let x : Ctx = context u s in
    let y : Ctx = context u t in
    let closed : IsClosed y (view u t) = subst (λ z. IsClosed z (view u t)) like.contexts (subst (λ v. IsClosed x v) like.views like.closed) in
    schema_told law x s like.whole like.closed 0 a plain (none_shown 0 (objection_to (view u s) a) (over (after s a)) un_s)
    ∙ ap (λ z. said z 0 (view u s) a) like.contexts
    ∙ ap (λ v. said y 0 v a) like.views
    ∙ sym (schema_told law y t like.other closed 0 a plain (none_shown 0 (objection_to (view u t) a) (over (after t a)) un_t))
