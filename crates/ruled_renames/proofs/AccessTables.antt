-- The two tables of access rules after the actions of a plan.
use Rattle.std.proofs.Common.{◌≡◌, ◌∙◌, ap, refl, subst, sym, ℕ, ℤ, Bool, true, false, cond, ◌&&◌, List, [], ◌∷◌, ◌++◌, map, Option, Some, None, option_map, bytes_eq, append-nil, append_assoc}
use Rattle.std.specs.Bool.{⊤}
use Rattle.std.specs.List.{AllByRecursion}
use Rattle.std.proofs.lemmas.Bool.{and_parts}
use Rattle.cell_types.specs.declared.column_type.ColType.{ColType}
use Rattle.cell_types.specs.declared.column_type.ColType.TheVariants as ty
use Rattle.cell_types.specs.declared.value.CellValue.{CellValue}
use Rattle.cell_types.specs.declared.value.CellValue.TheVariants as value
use Rattle.cell_types.specs.Conversion.{default_value, fit}
use Rattle.doc_model.specs.declared.action.DocAction.{DocAction}
use Rattle.doc_model.specs.declared.action.DocAction.TheVariants as action
use Rattle.doc_model.specs.declared.action.Step.{Step}
use Rattle.doc_model.specs.declared.column.CellColumn.{CellColumn}
use Rattle.doc_model.specs.declared.column.ColDef.{ColDef}
use Rattle.doc_model.specs.declared.column.ColInfo.{ColInfo}
use Rattle.doc_model.specs.declared.user_action.UserAction.{UserAction}
use Rattle.doc_model.specs.declared.user_action.UserAction.TheVariants as user
use Rattle.doc_model.specs.declared.user_action.UserCol.{UserCol}
use Rattle.doc_model.specs.Apply.{all_valid, apply, apply_all, effect}
use Rattle.doc_model.specs.ByIds.{find_id}
use Rattle.doc_model.specs.Column.{column_id}
use Rattle.doc_model.specs.Document.{Document, Table, on_grid, table_id, with_table}
use Rattle.doc_model.specs.DocumentLaws.{IsWhole}
use Rattle.doc_model.specs.Grid.{Grid}
use Rattle.doc_model.specs.MetadataIds.{columns_id, resources_id, rules_id, tables_id}
use Rattle.doc_model.specs.Readers.{cell_at}
use Rattle.doc_model.specs.Records.{update_rows, value_for}
use Rattle.doc_model.specs.Rows.{all_in, has_no_duplicates}
use Rattle.doc_model.specs.Schema.{columns_grid, metadata_table, no_grid, plain_tables, resources, rules, tables_grid, with_schema}
use Rattle.doc_model.specs.Valid.{from_one, gives_data, record_table, valid}
use Rattle.doc_model.specs.ViewEdits.{if_any}
use Rattle.doc_model.proofs.ByIdsLaws.{bytes_apart, bytes_itself}
use Rattle.doc_model.proofs.Choices.{cond_false, cond_true, each_mapped, parts_4}
use Rattle.doc_model.proofs.DocumentParts.{passes_parts}
use Rattle.doc_model.proofs.InverseLaws.{IsWhole-apply_all}
use Rattle.doc_model.proofs.WholeLaws.{columns_rules_apart, each_append, plain_from, resources_rules_apart, tables_rules_apart}
use Rattle.doc_readers.specs.Parts.{grid_at}
use Rattle.rename_flow.specs.declared.row_changes.RowChanges.{RowChanges}
use Rattle.rename_flow.specs.declared.text_change.TextChange.{TextChange}
use Rattle.rename_flow.specs.RuleParts.{no_changes, update_of, updated, with_changes}
use Rattle.rename_flow.specs.ShownRows.{ShownRow}
use Rattle.doc_model.specs.declared.view.ViewCol.{ViewCol}
use Rattle.renamed_values.specs.HeldRecords.{IsPlain}
use Rattle.renaming_bundles.specs.Expanded.{actions_of, expanded}
use Rattle.user_actions.specs.CellUpdates.{update_changed}
use Rattle.user_actions.specs.Columns.{info_said}
use Rattle.user_actions.specs.Modified.{emptied, filled, modified_to, same_info}
use Rattle.user_actions.specs.StepLaws.{action_of}
use Rattle.user_actions.specs.Steps.{fitted, row_ids, steps_of, type_in}
use Rattle.user_actions.proofs.ResourceLemmas.{find_resources}
use Rattle.ruled_renames.proofs.ShownRowLemmas.{all_rows, all_texts, text_for, texts_asked, texts_before, values_put}
use Rattle.ruled_renames.proofs.UpdatedCells.{Puts, cell_in, puts_none, puts_same, updated_cells}

-- ---- the tables in a whole document

find_rules_in : (r u : Grid ColDef) (p : List Table) → find_id table_id rules_id (with_schema r u p) ≡ Some (metadata_table rules_id u)
find_rules_in r u p =
    cond_false (bytes_eq tables_id rules_id) (Some (metadata_table tables_id (tables_grid p))) (find_id table_id rules_id (metadata_table columns_id (columns_grid p) ∷ metadata_table resources_id r ∷ metadata_table rules_id u ∷ p)) tables_rules_apart
    ∙ cond_false (bytes_eq columns_id rules_id) (Some (metadata_table columns_id (columns_grid p))) (find_id table_id rules_id (metadata_table resources_id r ∷ metadata_table rules_id u ∷ p)) columns_rules_apart
    ∙ cond_false (bytes_eq resources_id rules_id) (Some (metadata_table resources_id r)) (find_id table_id rules_id (metadata_table rules_id u ∷ p)) resources_rules_apart
    ∙ cond_true (bytes_eq rules_id rules_id) (Some (metadata_table rules_id u)) (find_id table_id rules_id p) (bytes_itself rules_id)

pub find_rules : (s : Document) → IsWhole s → find_id table_id rules_id s ≡ Some (metadata_table rules_id (rules s))
find_rules s whole = ap (find_id table_id rules_id) whole.agrees.schema ∙ find_rules_in (resources s) (rules s) (plain_tables s)

pub grid_rules : (s : Document) → IsWhole s → grid_at s rules_id ≡ rules s
grid_rules s whole = ap (λ (o : Option Table). elim o as (λ _. Grid ColDef) [ None ↦ no_grid | Some t ↦ t.grid ]) (find_rules s whole)

pub rule_cells : (s : Document) → IsWhole s → (c : List ℕ) (r : ℕ) → cell_at s rules_id c r ≡ cell_in (rules s) c r
rule_cells s whole c r = ap (λ (o : Option Table). elim o as (λ _. Option CellValue) [ None ↦ None | Some t ↦ cell_in t.grid c r ]) (find_rules s whole)

pub resource_cells : (s : Document) → IsWhole s → (c : List ℕ) (r : ℕ) → cell_at s resources_id c r ≡ cell_in (resources s) c r
resource_cells s whole c r = ap (λ (o : Option Table). elim o as (λ _. Option CellValue) [ None ↦ None | Some t ↦ cell_in t.grid c r ]) (find_resources s whole)

-- ---- actions that leave both tables

pub record SameAccess (s s' : Document) : Type 0 where
  pub resources_same : resources s' ≡ resources s
  pub rules_same : rules s' ≡ rules s

same_itself : (s : Document) → SameAccess s s
same_itself s = record { resources_same = refl; rules_same = refl }

same_then : (s t u : Document) → SameAccess s t → SameAccess t u → SameAccess s u
same_then s t u h k = record { resources_same = k.resources_same ∙ h.resources_same; rules_same = k.rules_same ∙ h.rules_same }

abbrev pub IsOther : DocAction → Type 0
IsOther (action.BulkUpdate table rows ks) = IsPlain table
IsOther (action.RenameColumn table column new) = ⊤
IsOther (action.ModifyColumn table column info) = ⊤
IsOther a = ⊥

done_or_not : (d : Document) (a : DocAction) → SameAccess d (effect d a) → SameAccess d (apply d a)
done_or_not d a h = elim (valid d a) as (λ b. SameAccess d (cond b (effect d a) d)) [ true ↦ h | false ↦ same_itself d ]

pub one_other : (d : Document) → IsWhole d → (a : DocAction) → IsOther a → SameAccess d (apply d a)
one_other d whole (action.BulkUpdate table rows ks) h = done_or_not d (action.BulkUpdate table rows ks) (record {
  resources_same =
      ap (λ (x : Document). resources (with_table table f x)) whole.agrees.schema
      ∙ ap (λ b. (cond b (f (metadata_table resources_id (resources d))) (metadata_table resources_id (resources d))).grid) (plain_from table h).resources;
  rules_same =
      ap (λ (x : Document). rules (with_table table f x)) whole.agrees.schema
      ∙ ap (λ b. (cond b (f (metadata_table rules_id (rules d))) (metadata_table rules_id (rules d))).grid) (plain_from table h).rules;
})
  where
    f : Table → Table
    f = on_grid (update_rows column_id rows ks)
one_other d whole (action.RenameColumn table column new) h = done_or_not d (action.RenameColumn table column new) (record { resources_same = refl; rules_same = refl })
one_other d whole (action.ModifyColumn table column info) h = done_or_not d (action.ModifyColumn table column info) (record { resources_same = refl; rules_same = refl })
one_other d whole (action.BulkAdd table rows ks) h = absurd h
one_other d whole (action.BulkRemove table rows) h = absurd h
one_other d whole (action.AddTable table row columns) h = absurd h
one_other d whole (action.RemoveTable table) h = absurd h
one_other d whole (action.RenameTable table new) h = absurd h
one_other d whole (action.AddColumn table e) h = absurd h
one_other d whole (action.RemoveColumn table column) h = absurd h

pub whole_after : (d : Document) (a : DocAction) → IsWhole d → valid d a ≡ true → IsWhole (apply d a)
whole_after d a whole v = IsWhole-apply_all d (a ∷ []) whole (ap (λ b. b && true) v)

all_others : (d : Document) → IsWhole d → (as' : List DocAction) → all_valid d as' ≡ true → AllByRecursion IsOther as' → SameAccess d (apply_all d as')
all_others d whole [] v h = same_itself d
all_others d whole (a ∷ as') v h =
    let p = and_parts (valid d a) (all_valid (apply d a) as') v in
    same_then d (apply d a) (apply_all (apply d a) as') (one_other d whole a h.0) (all_others (apply d a) (whole_after d a whole p.0) as' p.1 h.1)

-- ---- other formulas

abbrev pub IsOtherAsked : UserAction → Type 0
IsOtherAsked (user.ModifyColumn table c) = IsPlain table
IsOtherAsked a = ⊥

module _ (table : List ℕ) (plain : IsPlain table) where
  abbrev OtherStep : Step → Type 0
  OtherStep st = IsOther (action_of st)

  any_other : (rows : List ℕ) (st : Step) → OtherStep st → AllByRecursion OtherStep (if_any rows st)
  any_other [] st h = tt
  any_other (r ∷ rows) st h = (h, tt)

  chosen_other : (b : Bool) (xs ys : List Step) → AllByRecursion OtherStep xs → AllByRecursion OtherStep ys → AllByRecursion OtherStep (cond b xs ys)
  chosen_other true xs ys h k = h
  chosen_other false xs ys h k = k

  changed_other : (g : Grid ColDef) (c : List ℕ) (f : CellValue → CellValue) (rows : List ℕ) → AllByRecursion OtherStep (update_changed table g c f rows)
  changed_other g c f rows = any_other _ _ plain

  steps_other : (g : Grid ColDef) (e : ColDef) (info : ColInfo) → AllByRecursion OtherStep (modified_to table g e info)
  steps_other g e info = chosen_other (same_info e.info info) [] _ tt
      (each_append OtherStep _ (filled table g e info) (each_append OtherStep (emptied table g e info) _ (chosen_other _ _ [] (changed_other g e.id (λ _. value.Null) g.rows) tt) (tt, tt))
      (chosen_other info.is_formula [] _ tt (chosen_other e.info.is_formula _ _ (changed_other g e.id (λ _. default_value info.ty) g.rows) (changed_other g e.id (fit info.ty) g.rows))))

  modify_other : (d : Document) (c : UserCol) → AllByRecursion IsOther (actions_of d (user.ModifyColumn table c))
  modify_other d c = each_mapped IsOther action_of (steps_of d (user.ModifyColumn table c)) (by (find_id column_id c.id (grid_at d table).columns))
    where
      by : (o : Option ColDef) → AllByRecursion OtherStep (elim o as (λ _. List Step) [ None ↦ [] | Some e ↦ modified_to table (grid_at d table) e (info_said e.info c) ])
      by None = tt
      by (Some e) = steps_other (grid_at d table) e (info_said e.info c)

-- actions behind others are done, and valid, after these
pub record Behind (s : Document) (as' bs : List DocAction) : Type 0 where
  pub first : all_valid s as' ≡ true
  pub then' : all_valid (apply_all s as') bs ≡ true
  pub done : apply_all (apply_all s as') bs ≡ apply_all s (as' ++ bs)

pub behind : (s : Document) (as' bs : List DocAction) → all_valid s (as' ++ bs) ≡ true → Behind s as' bs
behind s [] bs h = record { first = refl; then' = h; done = refl }
behind s (a ∷ as') bs h =
    let p = and_parts (valid s a) (all_valid (apply s a) (as' ++ bs)) h in
    let q = behind (apply s a) as' bs p.1 in
    record { first = ap (λ b. b && all_valid (apply s a) as') p.0 ∙ q.first; then' = q.then'; done = q.done }

pub expanded_both : (s : Document) (as' bs : List UserAction) → expanded s (as' ++ bs) ≡ expanded s as' ++ expanded (apply_all s (expanded s as')) bs
expanded_both s [] bs = refl
expanded_both s (a ∷ as') bs =
    ap (λ xs. actions_of s a ++ xs) (expanded_both t as' bs)
    ∙ sym (append_assoc (actions_of s a) (expanded t as') (expanded (apply_all t (expanded t as')) bs))
    ∙ ap (λ (e : Document). (actions_of s a ++ expanded t as') ++ expanded e bs) (done_both s (actions_of s a) (expanded t as'))
  where
    t : Document
    t = apply_all s (actions_of s a)

    done_both : (s : Document) (xs ys : List DocAction) → apply_all (apply_all s xs) ys ≡ apply_all s (xs ++ ys)
    done_both s [] ys = refl
    done_both s (x ∷ xs) ys = done_both (apply s x) xs ys

pub users_other : (d : Document) → IsWhole d → (as' : List UserAction) → all_valid d (expanded d as') ≡ true → AllByRecursion IsOtherAsked as' → SameAccess d (apply_all d (expanded d as'))
users_other d whole [] v h = same_itself d
users_other d whole (a ∷ as') v h =
    let t : Document = apply_all d (actions_of d a) in
    let b = behind d (actions_of d a) (expanded t as') v in
    subst (SameAccess d) b.done
    (same_then d t (apply_all t (expanded t as')) (one a h.0 b.first) (users_other t (IsWhole-apply_all d (actions_of d a) whole b.first) as' b.then' h.1))
  where
    one : (a : UserAction) → IsOtherAsked a → all_valid d (actions_of d a) ≡ true → SameAccess d (apply_all d (actions_of d a))
    one (user.ModifyColumn table c) h v = all_others d whole (actions_of d (user.ModifyColumn table c)) v (modify_other table h d c)
    one (user.Add table single count has_row_ids ks) h v = absurd h
    one (user.Update table single rows ks) h v = absurd h
    one (user.Remove table single rows) h v = absurd h
    one (user.AddTable table cs) h v = absurd h
    one (user.RemoveTable table) h v = absurd h
    one (user.RenameTable table new) h v = absurd h
    one (user.AddColumn table c) h v = absurd h
    one (user.RemoveColumn table column) h v = absurd h
    one (user.RenameColumn table column new) h v = absurd h

-- ---- updates of the tables

abbrev update_step : List ℕ → List ℕ → CellColumn → Bool → Step
update_step table rows k b = record { action = action.BulkUpdate table rows (k ∷ []); direct = b }

pub record PutsResources (k : CellColumn) (rows : List ℕ) (d d' : Document) : Type 0 where
  pub puts : Puts k.id (value_for rows k.values) (resources d) (resources d')
  pub rules_same : rules d' ≡ rules d

pub resources_put : (d : Document) → IsWhole d → (rows : List ℕ) (k : CellColumn) (b : Bool) → all_valid d (map action_of (if_any rows (update_step resources_id rows k b))) ≡ true
    → PutsResources k rows d (apply_all d (map action_of (if_any rows (update_step resources_id rows k b))))
resources_put d whole [] k b v = record { puts = puts_none k.id (value_for [] k.values) (resources d) (resources d) (λ r. refl) refl; rules_same = refl }
resources_put d whole (q ∷ rows) k b v = record {
  puts = subst (Puts k.id (value_for (q ∷ rows) k.values) (resources d)) (sym becomes) (updated_cells (q ∷ rows) k (resources d));
  rules_same = ap (λ (x : Document). rules x) is ∙ ap (λ (x : Document). rules (with_table resources_id f x)) whole.agrees.schema
      ∙ ap (λ b. (cond b (f (metadata_table rules_id (rules d))) (metadata_table rules_id (rules d))).grid) (bytes_apart resources_id rules_id resources_rules_apart);
}
  where
    a : DocAction
    a = action.BulkUpdate resources_id (q ∷ rows) (k ∷ [])

    f : Table → Table
    f = on_grid (update_rows column_id (q ∷ rows) (k ∷ []))

    is : apply d a ≡ effect d a
    is = cond_true (valid d a) (effect d a) d (and_parts (valid d a) true v).0

    becomes : resources (apply d a) ≡ update_rows column_id (q ∷ rows) (k ∷ []) (resources d)
    becomes = ap (λ (x : Document). resources x) is ∙ ap (λ (x : Document). resources (with_table resources_id f x)) whole.agrees.schema
        ∙ ap (λ b. (cond b (f (metadata_table resources_id (resources d))) (metadata_table resources_id (resources d))).grid) (bytes_itself resources_id)

pub record PutsRules (k : CellColumn) (rows : List ℕ) (d d' : Document) : Type 0 where
  pub puts : Puts k.id (value_for rows k.values) (rules d) (rules d')
  pub resources_same : resources d' ≡ resources d
  pub positive : from_one rows ≡ true

pub rules_put : (d : Document) → IsWhole d → (rows : List ℕ) (k : CellColumn) (b : Bool) → all_valid d (map action_of (if_any rows (update_step rules_id rows k b))) ≡ true
    → PutsRules k rows d (apply_all d (map action_of (if_any rows (update_step rules_id rows k b))))
rules_put d whole [] k b v = record { puts = puts_none k.id (value_for [] k.values) (rules d) (rules d) (λ r. refl) refl; resources_same = refl; positive = refl }
rules_put d whole (q ∷ rows) k b v = record {
  puts = subst (Puts k.id (value_for (q ∷ rows) k.values) (rules d)) (sym becomes) (updated_cells (q ∷ rows) k (rules d));
  resources_same = ap (λ (x : Document). resources x) is ∙ ap (λ (x : Document). resources (with_table rules_id f x)) whole.agrees.schema
      ∙ ap (λ b. (cond b (f (metadata_table resources_id (resources d))) (metadata_table resources_id (resources d))).grid) resources_rules_apart;
  positive = tests;
}
  where
    a : DocAction
    a = action.BulkUpdate rules_id (q ∷ rows) (k ∷ [])

    f : Table → Table
    f = on_grid (update_rows column_id (q ∷ rows) (k ∷ []))

    good : valid d a ≡ true
    good = (and_parts (valid d a) true v).0

    is : apply d a ≡ effect d a
    is = cond_true (valid d a) (effect d a) d good

    becomes : rules (apply d a) ≡ update_rows column_id (q ∷ rows) (k ∷ []) (rules d)
    becomes = ap (λ (x : Document). rules x) is ∙ ap (λ (x : Document). rules (with_table rules_id f x)) whole.agrees.schema
        ∙ ap (λ b. (cond b (f (metadata_table rules_id (rules d))) (metadata_table rules_id (rules d))).grid) (bytes_itself rules_id)

    tests : from_one (q ∷ rows) ≡ true
    tests =
        let p = passes_parts (record_table d rules_id) (λ (t : Table). has_no_duplicates (q ∷ rows) && from_one (q ∷ rows) && all_in (q ∷ rows) t.grid.rows && gives_data t.grid (q ∷ rows) (k ∷ [])) good in
        (parts_4 (has_no_duplicates (q ∷ rows)) (from_one (q ∷ rows)) (all_in (q ∷ rows) p.0.grid.rows) (gives_data p.0.grid (q ∷ rows) (k ∷ [])) p.1.1).1

-- ---- the changes of a plan

module _ (f : List ViewCol → List CellValue → TextChange) (ws : List ShownRow) (column : List ℕ) where
  abbrev pub planned : RowChanges
  planned = with_changes f no_changes ws

  -- what is put in a row
  abbrev pub text_put : ℕ → Option CellValue
  text_put r = option_map value.Text (text_for f ws r)

  pub record PutsTexts (d d' : Document) : Type 0 where
    pub puts : Puts column text_put (rules d) (rules d')
    pub resources_same : resources d' ≡ resources d

  texts_fit : (k : ColType) → k ≡ ty.Text → (ws : List ShownRow) → map (fit k) (texts_asked f ws) ≡ texts_asked f ws
  texts_fit k e [] = refl
  texts_fit k e (w ∷ ws) = by (f w.columns w.cells).text (texts_fit k e ws)
    where
      by : (o : Option (List ℕ)) → map (fit k) (texts_asked f ws) ≡ texts_asked f ws → map (fit k) (texts_before o (texts_asked f ws)) ≡ texts_before o (texts_asked f ws)
      by None later = later
      by (Some t) later = ap (λ c. fit c (value.Text t) ∷ map (fit k) (texts_asked f ws)) e ∙ ap (λ vs. value.Text t ∷ vs) later

  module _ (d : Document) (whole : IsWhole d) (is_text : type_in (grid_at d rules_id) column ≡ ty.Text) where
    abbrev rows : List ℕ
    rows = row_ids planned.rows

    abbrev given : CellColumn
    given = fitted (grid_at d rules_id) (record { id = column; values = planned.texts })

    put_so : (r : ℕ) → from_one rows ≡ true → value_for rows given.values r ≡ text_put r
    put_so r one =
        ap (λ vs. value_for rows vs r) (ap (map (fit (type_in (grid_at d rules_id) column))) (all_texts f ws) ∙ texts_fit (type_in (grid_at d rules_id) column) is_text ws)
        ∙ ap (λ ns. value_for (row_ids ns) (texts_asked f ws) r) (all_rows f ws)
        ∙ values_put f ws r (ap (λ ns. from_one (row_ids ns)) (sym (all_rows f ws)) ∙ one)

    none_put : planned.rows ≡ [] → (r : ℕ) → text_put r ≡ None
    none_put e r = sym (put_so r (ap (λ ns. from_one (row_ids ns)) e)) ∙ ap (λ ns. value_for (row_ids ns) given.values r) e

    some_put : all_valid d (expanded d (update_of column planned ∷ [])) ≡ true → PutsTexts d (apply_all d (expanded d (update_of column planned ∷ [])))
    some_put v =
        let as' : List DocAction = map action_of (if_any rows (update_step rules_id rows given true)) in
        let p = rules_put d whole rows given true (subst (λ xs. all_valid d xs ≡ true) (append-nil as') v) in
        subst (λ xs. PutsTexts d (apply_all d xs)) (sym (append-nil as')) (record {
          puts = puts_same column (value_for rows given.values) text_put (rules d) (rules (apply_all d as')) (λ r. put_so r p.positive) p.puts;
          resources_same = p.resources_same;
        })

    pub changes_put : all_valid d (expanded d (updated column planned)) ≡ true → PutsTexts d (apply_all d (expanded d (updated column planned)))
    changes_put v = by planned.rows refl v
      where
        asked : List ℤ → List UserAction
        asked ns = elim ns as (λ _. List UserAction) [ [] ↦ [] | n ∷ more ↦ update_of column planned ∷ [] ]

        by : (ns : List ℤ) → planned.rows ≡ ns → all_valid d (expanded d (asked ns)) ≡ true → PutsTexts d (apply_all d (expanded d (asked ns)))
        by [] e v = record { puts = puts_none column text_put (rules d) (rules d) (none_put e) refl; resources_same = refl }
        by (n ∷ ns) e v = some_put v
