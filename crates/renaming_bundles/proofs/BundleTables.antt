-- The tables outside the metadata after the user actions of a rename.
use Rattle.std.proofs.Common.{ℕ, Bool, true, false, cond, ◌&&◌, not, List, [], ◌∷◌, ◌++◌, map, ◌≡◌, refl, subst, sym, ap, ◌∙◌, Option, Some, None}
use Rattle.std.specs.Bool.{beq}
use Rattle.std.specs.List.{AllByRecursion}
use Rattle.std.specs.Option.{option_map, unwrap_or}
use Rattle.std.specs.Prelude.{codes}
use Rattle.std.specs.Str.{bytes_eq}
use Rattle.std.proofs.lemmas.Bool.{and_parts, false≢true}
use Rattle.std.proofs.lemmas.Slice.Eq.{bytes_eq-Decides}
use Rattle.doc_model.specs.declared.action.DocAction.{DocAction}
use Rattle.doc_model.specs.declared.action.DocAction.TheVariants as action
use Rattle.doc_model.specs.declared.action.Step.{Step}
use Rattle.doc_model.specs.declared.column.ColDef.{ColDef}
use Rattle.doc_model.specs.declared.column.ColInfo.{ColInfo}
use Rattle.doc_model.specs.declared.user_action.UserAction.{UserAction}
use Rattle.doc_model.specs.declared.user_action.UserAction.TheVariants as user
use Rattle.doc_model.specs.declared.user_action.UserCol.{UserCol}
use Rattle.doc_model.specs.Apply.{all_valid, apply, apply_all}
use Rattle.doc_model.specs.ByIds.{find_id}
use Rattle.doc_model.specs.Column.{column_id}
use Rattle.doc_model.specs.Document.{Document, Table, table_id}
use Rattle.doc_model.specs.DocumentLaws.{IsWhole}
use Rattle.doc_model.specs.Grid.{Grid}
use Rattle.doc_model.specs.MetadataIds.{is_acl_id, resources_id, rules_id}
use Rattle.doc_model.specs.Same.{same_type}
use Rattle.doc_model.specs.Schema.{no_grid, plain_tables}
use Rattle.doc_model.specs.Valid.{valid}
use Rattle.doc_model.specs.ViewEdits.{if_any}
use Rattle.doc_model.proofs.ByIdsLaws.{found_id}
use Rattle.doc_model.proofs.InverseLaws.{IsWhole-apply_all}
use Rattle.doc_readers.specs.Parts.{grid_at}
use Rattle.name_rules.specs.FreeName.{free_name}
use Rattle.recalc.specs.Evaluated.{column_in}
use Rattle.rename_marks.specs.declared.column_rename.ColumnRename.{ColumnRename}
use Rattle.renamed_documents.specs.RenamedTables.{IsRenamed, Rewriting, column_after, grid_after}
use Rattle.renamed_documents.specs.RenamingSteps.{GivesText, naming, text_given}
use Rattle.renamed_documents.proofs.MovedNames.{AllKept, find_moved}
use Rattle.renamed_documents.proofs.SeenTables.{each_seen, of_table_told, plain_found, seen_after, seen_in, told}
use Rattle.renamed_documents.proofs.StepTables.{all_steps, given, renaming_steps, texts_as_given}
use Rattle.renamed_values.specs.SameEv.{IsKept, moved}
use Rattle.renamed_resources.specs.Renamed.{columns_renamed}
use Rattle.user_actions.specs.Columns.{formula_given, formula_said, info_said, kind_said}
use Rattle.user_actions.specs.Infos.{type_or}
use Rattle.user_actions.specs.Marked.{direct, indirect}
use Rattle.user_actions.specs.Modified.{modified, modified_to, same_info}
use Rattle.user_actions.specs.ResourceSteps.{columns_moved, rows_about}
use Rattle.user_actions.specs.CellUpdates.{column_changed, rows_changed}
use Rattle.user_actions.specs.StepLaws.{action_of}
use Rattle.user_actions.specs.Steps.{all_fitted, column_ids, column_renaming, row_ids, steps_of}
use Rattle.renaming_bundles.specs.AskedTexts.{AsksFormula, AsksText, ExpandedTextsLaw, IsFreeName, IsNaming, text_asked, texts_asked}
use Rattle.renaming_bundles.specs.Expanded.{actions_of, expanded}

-- ---- actions in order

-- actions behind others are done, and valid, after these
behind : (s : Document) (as' bs : List DocAction) → all_valid s (as' ++ bs) ≡ true
    → (all_valid s as' ≡ true) × (all_valid (apply_all s as') bs ≡ true) × (apply_all (apply_all s as') bs ≡ apply_all s (as' ++ bs))
behind s [] bs h = (refl, h, refl)
behind s (a ∷ as') bs h =
    let p = and_parts (valid s a) (all_valid (apply s a) (as' ++ bs)) h in
    let q = behind (apply s a) as' bs p.1 in
    (ap (λ b. b && all_valid (apply s a) as') p.0 ∙ q.0, q.1, q.2)

pub done_behind : (s : Document) (as' bs : List DocAction) → apply_all (apply_all s as') bs ≡ apply_all s (as' ++ bs)
done_behind s [] bs = refl
done_behind s (a ∷ as') bs = done_behind (apply s a) as' bs

-- ---- updates

resources_acl : is_acl_id resources_id ≡ true
unfolding resources_id rules_id
resources_acl = refl

module _ (m : ColumnRename) (s : Document) (free : IsFreeName m s) where
  -- an update of a table of access rules, where there is one
  update_asked : (w : Rewriting) (d : Document) → IsWhole d → IsRenamed m w s d → (rows : List ℕ) (a : Step) → ((e : Document) → GivesText e a.action) → ((t c f : List ℕ) → text_given a.action t c f ≡ f)
      → all_valid d (map action_of (if_any rows a)) ≡ true → IsRenamed m w s (apply_all d (map action_of (if_any rows a)))
  update_asked w d whole is [] a h none v = is
  update_asked w d whole is (row ∷ rows) a h none v =
      subst (λ (x : Rewriting). IsRenamed m x s (apply_all d (a.action ∷ []))) (λ i t c f. none t (moved m t c) (w t c f) i)
      (all_steps m s w d whole is (a.action ∷ []) v (h d, tt))

  -- ---- other formulas

  module _ (w : Rewriting) (d : Document) (whole_before : IsWhole s) (whole : IsWhole d) (is : IsRenamed m w s d) (table : List ℕ) (c : UserCol) (h : AsksFormula m s table c) where
    abbrev now : ColDef
    now = column_after m w table h.was

    -- the table and its column, before the rename
    found_before : (o : Option (Grid ColDef)) → told None (λ g. find_id column_id h.column g.columns) o ≡ Some h.was → (g : Grid ColDef) × (o ≡ Some g) × (find_id column_id h.column g.columns ≡ Some h.was)
    found_before None e = absurd (cc)
    found_before (Some g) e = (g, refl, e)

    before : (g : Grid ColDef) × (seen_in s table ≡ Some g) × (find_id column_id h.column g.columns ≡ Some h.was)
    before = found_before (seen_in s table) (sym (of_table_told s table (λ g. find_id column_id h.column g.columns)) ∙ h.found)

    grid_told : (e : Document) → grid_at e table ≡ elim (seen_in e table) [ None ↦ no_grid | Some g ↦ g ]
    grid_told e = elim (find_id table_id table e) as (λ (o : Option Table). elim o [ None ↦ no_grid | Some t ↦ t.grid ] ≡ elim (option_map (λ (t : Table). t.grid) o) [ None ↦ no_grid | Some g ↦ g ]) [ None ↦ refl | Some t ↦ refl ]

    seen_now : seen_in d table ≡ Some (grid_after m w table before.0)
    seen_now = seen_after m w table s d whole_before.agrees whole.agrees is h.plain ∙ ap (option_map (grid_after m w table)) before.1

    grid_now : grid_at d table ≡ grid_after m w table before.0
    grid_now = grid_told d ∙ ap (λ (o : Option (Grid ColDef)). elim o [ None ↦ no_grid | Some g ↦ g ]) seen_now

    kept_columns : AllKept m table before.0.columns
    kept_columns = each_seen m w table (λ t (d : ColDef). IsKept m t d.id) (plain_tables s) free before.0 (sym (ap (option_map (λ (t : Table). t.grid)) (plain_found s table whole_before.agrees h.plain)) ∙ before.1)

    found_now : find_id column_id c.id (grid_after m w table before.0).columns ≡ Some now
    found_now =
        ap (λ n. find_id column_id n (map (column_after m w table) before.0.columns)) (sym h.named)
        ∙ find_moved m table w h.column h.kept before.0.columns kept_columns
        ∙ ap (option_map (column_after m w table)) before.2

    column_now : column_in d table c.id ≡ Some now
    column_now = of_table_told d table (λ g. find_id column_id c.id g.columns) ∙ ap (told None (λ g. find_id column_id c.id g.columns)) seen_now ∙ found_now

    id_now : now.id ≡ c.id
    id_now = found_id column_id c.id (grid_after m w table before.0).columns now found_now

    abbrev info_asked : ColInfo
    info_asked = record { ty = h.was.info.ty; is_formula = h.was.info.is_formula; formula = formula_given c }

    said : info_said now.info c ≡ info_asked
    said =
        ap (λ (t : Option (List ℕ)). let i : ColInfo = record { ty = unwrap_or (type_or h.was.info.ty t) h.was.info.ty; is_formula = kind_said h.was.info.is_formula c; formula = formula_said now.info c } in i) h.no_type
        ∙ ap (λ (b : Option Bool). let i : ColInfo = record { ty = h.was.info.ty; is_formula = unwrap_or b h.was.info.is_formula; formula = formula_said now.info c } in i) h.no_kind
        ∙ ap (λ (o : Option (List ℕ)). let i : ColInfo = record { ty = h.was.info.ty; is_formula = h.was.info.is_formula; formula = unwrap_or o (cond (kind_said h.was.info.is_formula c) now.info.formula []) } in i) h.text

    abbrev modify : DocAction
    modify = action.ModifyColumn table c.id info_asked

    -- a formula column stays one: no cell changes
    only_text : (b : Bool) → b ≡ true → (xs ys zs : List Step) (x : Step) → (cond (b && not b) xs [] ++ x ∷ [] ++ cond b [] (cond b ys zs)) ≡ x ∷ []
    only_text true e xs ys zs x = refl
    only_text false e xs ys zs x = absurd (false≢true e)

    steps_asked : steps_of d (user.ModifyColumn table c) ≡ cond (same_info now.info info_asked) [] (direct modify ∷ [])
    steps_asked =
        ap (λ g. modified table g c) grid_now
        ∙ ap (λ (o : Option ColDef). elim o [ None ↦ [] | Some e ↦ modified_to table (grid_after m w table before.0) e (info_said e.info c) ]) found_now
        ∙ ap (modified_to table (grid_after m w table before.0) now) said
        ∙ ap (λ xs. cond (same_info now.info info_asked) [] xs) (only_text h.was.info.is_formula h.is_formula _ _ _ _ ∙ ap (λ i. direct (action.ModifyColumn table i info_asked) ∷ []) id_now)

    same_text : same_info now.info info_asked ≡ true → now.info.formula ≡ formula_given c
    same_text e = (bytes_eq-Decides now.info.formula (formula_given c)).0 (and_parts (same_type now.info.ty info_asked.ty && beq now.info.is_formula info_asked.is_formula) (bytes_eq now.info.formula (formula_given c)) e).1

    formula_asked : all_valid d (actions_of d (user.ModifyColumn table c)) ≡ true → IsRenamed m (given m w table c.id info_asked) s (apply_all d (actions_of d (user.ModifyColumn table c)))
    formula_asked v =
        by (same_info now.info info_asked) refl (steps_of d (user.ModifyColumn table c)) steps_asked v
      where
        by : (b : Bool) → same_info now.info info_asked ≡ b → (xs : List Step) → xs ≡ cond b [] (direct modify ∷ []) → all_valid d (map action_of xs) ≡ true → IsRenamed m (given m w table c.id info_asked) s (apply_all d (map action_of xs))
        by true e xs i v =
            subst (λ (xs : List Step). IsRenamed m (given m w table c.id info_asked) s (apply_all d (map action_of xs))) (sym i)
            (is ∙ texts_as_given m s w d whole is table c.id info_asked now column_now (same_text e))
        by false e xs i v =
            subst (λ (xs : List Step). IsRenamed m (given m w table c.id info_asked) s (apply_all d (map action_of xs))) (sym i)
            (all_steps m s w d whole is (modify ∷ []) (subst (λ (xs : List Step). all_valid d (map action_of xs) ≡ true) i v)
            (record { was = now; found = column_now; ty = refl; kind = refl }, tt))

  -- ---- all actions

  one_asked : (w : Rewriting) (d : Document) → IsWhole s → IsWhole d → IsRenamed m w s d → (a : UserAction) → AsksText m s a → all_valid d (actions_of d a) ≡ true
      → IsRenamed m (λ t c f. text_asked a t (moved m t c) (w t c f)) s (apply_all d (actions_of d a))
  one_asked w d whole_s whole is (user.Update table single rows ks) h v =
      update_asked w d whole is (row_ids rows) (direct (action.BulkUpdate table (row_ids rows) (all_fitted d table ks))) (λ e. h) (λ t c f. refl) v
  one_asked w d whole_s whole is (user.ModifyColumn table c) h v = formula_asked w d whole_s whole is table c h v
  one_asked w d whole_s whole is (user.Add table single count has_row_ids ks) h v = absurd h
  one_asked w d whole_s whole is (user.Remove table single rows) h v = absurd h
  one_asked w d whole_s whole is (user.AddTable table cs) h v = absurd h
  one_asked w d whole_s whole is (user.RemoveTable table) h v = absurd h
  one_asked w d whole_s whole is (user.RenameTable table new) h v = absurd h
  one_asked w d whole_s whole is (user.AddColumn table c) h v = absurd h
  one_asked w d whole_s whole is (user.RemoveColumn table column) h v = absurd h
  one_asked w d whole_s whole is (user.RenameColumn table column new) h v = absurd h

  all_asked : (w : Rewriting) (d : Document) → IsWhole s → IsWhole d → IsRenamed m w s d → (as' : List UserAction) → AllByRecursion (AsksText m s) as' → all_valid d (expanded d as') ≡ true
      → IsRenamed m (λ t c f. texts_asked as' t (moved m t c) (w t c f)) s (apply_all d (expanded d as'))
  all_asked w d whole_s whole is [] h v = is
  all_asked w d whole_s whole is (a ∷ as') h v =
      let p = behind d (actions_of d a) (expanded (apply_all d (actions_of d a)) as') v in
      subst (λ (e : Document). IsRenamed m (λ t c f. texts_asked (a ∷ as') t (moved m t c) (w t c f)) s e) p.2
      (all_asked (λ t c f. text_asked a t (moved m t c) (w t c f)) (apply_all d (actions_of d a)) whole_s (IsWhole-apply_all d (actions_of d a) whole p.0) (one_asked w d whole_s whole is a h.0 p.0) as' h.1 p.1)

-- the steps of the rename
naming_actions : (m : ColumnRename) (s : Document) → IsNaming m s → actions_of s (user.RenameColumn m.table m.old m.new) ≡ naming m ∷ map action_of (columns_moved s m.table m.old m.new)
naming_actions m s h =
    ap (λ b. map action_of (cond b [] (column_renaming s m.table m.old (free_name (column_ids s m.table) m.new)))) h.differs
    ∙ ap (λ n. map action_of (column_renaming s m.table m.old n)) h.gets

named_first : (m : ColumnRename) (s : Document) → IsWhole s → IsNaming m s → all_valid s (actions_of s (user.RenameColumn m.table m.old m.new)) ≡ true
    → IsRenamed m (λ t c f. f) s (apply_all s (actions_of s (user.RenameColumn m.table m.old m.new)))
named_first m s whole h v =
    subst (λ (as' : List DocAction). IsRenamed m (λ t c f. f) s (apply_all s as')) (sym (naming_actions m s h))
    (let v' : all_valid s (naming m ∷ map action_of (columns_moved s m.table m.old m.new)) ≡ true = subst (λ (as' : List DocAction). all_valid s as' ≡ true) (naming_actions m s h) v in
    let p = and_parts (valid s (naming m)) (all_valid (apply s (naming m)) (map action_of (columns_moved s m.table m.old m.new))) v' in
    let g : Grid ColDef = grid_at s resources_id in
    let changed : List ℕ = rows_changed g (codes "colIds") (columns_renamed m.old m.new) (rows_about g m.table) in
    update_asked m s h.free (λ t c f. f) (apply s (naming m)) (IsWhole-apply_all s (naming m ∷ []) whole (ap (λ b. b && true) p.0))
    (renaming_steps m s [] whole (ap (λ b. b && true) p.0) tt)
    changed (indirect (action.BulkUpdate resources_id changed (column_changed g (codes "colIds") (columns_renamed m.old m.new) changed ∷ []))) (λ e. resources_acl) (λ t c f. refl) p.1)

pub expanded_texts : ExpandedTextsLaw
expanded_texts m s as' whole h asks v =
    let a : UserAction = user.RenameColumn m.table m.old m.new in
    let p = behind s (actions_of s a) (expanded (apply_all s (actions_of s a)) as') v in
    subst (λ (e : Document). IsRenamed m (λ t c f. texts_asked as' t (moved m t c) f) s e) p.2
    (all_asked m s h.free (λ t c f. f) (apply_all s (actions_of s a)) whole (IsWhole-apply_all s (actions_of s a) whole p.0) (named_first m s whole h p.0) as' asks p.1)
