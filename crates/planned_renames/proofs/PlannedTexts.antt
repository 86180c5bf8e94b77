-- What the plan of a rename makes of a document.
use Rattle.std.proofs.Common.{◌≡◌, ◌∙◌, ap, arith, refl, subst, sym, ℕ, suc, ◌+◌, ◌*◌, ◌≤◌, Bool, true, false, cond, not, ◌&&◌, ◌||◌, ◌⊎◌, inl, inr, ⊎_elim, List, [], ◌∷◌, ◌++◌, map, length, Option, Some, None, if◌then◌else◌}
use Rattle.std.specs.List.{AllByRecursion, list_all, list_any}
use Rattle.std.specs.Option.{is_some, option_map}
use Rattle.std.specs.Prelude.{codes, nat_le}
use Rattle.std.specs.Str.{bytes_eq, chars}
use Rattle.std.proofs.lemmas.Bool.{and_parts, false≢true, leb-true}
use Rattle.std.proofs.lemmas.Slice.Eq.{bytes_eq-Decides}
use Rattle.std.proofs.lemmas.Str.{chars-nil}
use Rattle.cell_types.specs.NameRule.{is_name, is_reserved, reserved_words}
use Rattle.cell_types.specs.declared.column_type.ColType.{ColType}
use Rattle.cell_types.specs.declared.column_type.ColType.TheVariants as ty
use Rattle.doc_model.specs.declared.action.DocAction.{DocAction}
use Rattle.doc_model.specs.declared.action.DocAction.TheVariants as action
use Rattle.doc_model.specs.declared.column.ColDef.{ColDef}
use Rattle.doc_model.specs.declared.user_action.UserAction.{UserAction}
use Rattle.doc_model.specs.declared.user_action.UserAction.TheVariants as user
use Rattle.doc_model.specs.declared.view.ViewCol.{ViewCol}
use Rattle.doc_model.specs.declared.view.ViewTable.{ViewTable}
use Rattle.doc_model.specs.Apply.{all_valid, apply_all}
use Rattle.doc_model.specs.ByIds.{find_id, has_id}
use Rattle.doc_model.specs.Changes.{shown_table_id}
use Rattle.doc_model.specs.Column.{column_id, is_empty, is_sound_info}
use Rattle.doc_model.specs.Document.{Document, Table, table_id}
use Rattle.doc_model.specs.DocumentLaws.{IsWhole}
use Rattle.doc_model.specs.Grid.{Grid}
use Rattle.doc_model.specs.MetadataIds.{is_acl_id, is_metadata_id, resources_id, rules_id}
use Rattle.doc_model.specs.Schema.{no_grid, plain_tables}
use Rattle.doc_model.specs.Sound.{IsSoundGrid, has_names}
use Rattle.doc_model.specs.Valid.{is_new_column, passes, schema_table, valid}
use Rattle.doc_model.specs.ViewEdits.{shown_id}
use Rattle.doc_model.proofs.ByIdsLaws.{bytes_apart, bytes_itself, each_found, found_all, found_id}
use Rattle.doc_model.proofs.Choices.{cond_true, each_both, each_true, each_weaker}
use Rattle.doc_model.proofs.InverseLaws.{IsWhole-apply_all}
use Rattle.doc_model.proofs.WholeLaws.{each_append, good_from}
use Rattle.formula_lex.specs.Spelling.{AllBlank, SpellsText}
use Rattle.formula_parse.specs.declared.operator.Constant.TheVariants as con
use Rattle.formula_parse.specs.FormulaOf.{formula_of}
use Rattle.formula_parse.specs.Lexemes.{id_word, is_id}
use Rattle.formula_parse.specs.Spelling.{max_bytes}
use Rattle.formula_parse.specs.Tree.{Tree, constant}
use Rattle.formula_parse.proofs.FormulaOfLemmas.{formula_empty}
use Rattle.formula_eval.proofs.Notes.{all_append}
use Rattle.formula_records.specs.ShownColumns.{as_column as shown_kind, columns_of, shown_column}
use Rattle.name_rules.specs.FreeName.{free_name, is_taken, least_free, numbered}
use Rattle.recalc.specs.Evaluated.{column_in}
use Rattle.rename_flow.specs.declared.row_changes.RowChanges.{RowChanges}
use Rattle.rename_flow.specs.Changes.{formula_change, kept, maybe_change, rewritten, tree_change}
use Rattle.rename_flow.specs.ColumnParts.{column_parts, formula_part, id_after, is_about_metadata, leads_to_metadata, modified}
use Rattle.rename_flow.specs.Parts.{Part}
use Rattle.rename_flow.specs.Plan.{bare_plan, is_shown, name_parts, plan_of, rule_parts, whole_plan}
use Rattle.rename_flow.specs.RuleParts.{attribute_changed, formula_changed, no_changes, update_of, updated, with_changes}
use Rattle.rename_flow.specs.ShownRules.{abouts_in, attributes_in, resource_rows, rule_rows}
use Rattle.rename_marks.specs.declared.column_rename.ColumnRename.{ColumnRename}
use Rattle.rename_marks.specs.Noted.{capped}
use Rattle.rename_marks.specs.ScopeUses.{uses}
use Rattle.rename_marks.specs.Uses.{unresolved_among}
use Rattle.rename_texts.specs.Marked.{marks}
use Rattle.rename_texts.specs.Renamed.{renamed}
use Rattle.rename_texts.specs.Rewriting.{rewritten_text}
use Rattle.rename_marks.specs.Scope.{Scope, in_column, rename_in}
use Rattle.rename_texts.specs.Laws.{HeightLaw, LexemeLaw, StandsLaw, WrittenLaw}
use Rattle.rename_texts.specs.Texts.{RewrittenFormulaLaw}
use Rattle.renamed_documents.specs.Laws.{AreRenamed}
use Rattle.renamed_documents.specs.RenamedTables.{ColumnFollows, IsRenamed}
use Rattle.renamed_documents.specs.Typed.{AreColumns}
use Rattle.renamed_documents.proofs.MovedNames.{moved_apart}
use Rattle.renamed_documents.proofs.SeenTables.{plain_found}
use Rattle.renamed_values.specs.HeldRecords.{IsPlain}
use Rattle.renamed_values.specs.PlainNames.{IsPlainType}
use Rattle.renamed_values.specs.Resolved.{ResolvedLaw}
use Rattle.renamed_values.specs.SameEv.{IsKept, moved}
use Rattle.renamed_values.specs.SameSheet.{Follow}
use Rattle.renaming_bundles.specs.AskedTexts.{AsksText, ExpandedTextsLaw, IsFreeName, IsNaming, bundle_of, texts_asked}
use Rattle.renaming_bundles.specs.Expanded.{actions_of, expanded}
use Rattle.user_actions.specs.StepLaws.{action_of}
use Rattle.user_actions.specs.Steps.{column_ids, column_renaming}
use Rattle.planned_renames.specs.PlannedValues.{IsPlanned, PlannedValuesLaw, actions_in, parts_of, renames, rewriting}
use Rattle.planned_renames.specs.WholeView.{IsShownOf, shown_as}
use Rattle.planned_renames.proofs.ColumnPlans.{IsThere, OfColumn, all_there, have_parts, parts_have, set_view}
use Rattle.planned_renames.proofs.PlanParts.{Leaves, Sets, all_leave, all_set, capped_none, set_left, with_parts_actions, with_parts_none}
use Rattle.planned_renames.proofs.UnmarkedTrees.{stays}

-- ---- small facts

none_where : (b : Bool) → ◌≡◌ {A = ℕ} (cond b 1 0) 0 → b ≡ false
none_where true h = absurd (cc)
none_where false h = refl

-- a count that is none, of a text that is short enough
within : (b : Bool) (n : ℕ) → cond b n (capped (n + 1)) ≡ 0 → (b ≡ true) × (n ≡ 0)
within true n h = (refl, h)
within false n h = absurd (never n (capped_none (n + 1) h))
  where
    never : (n : ℕ) → n + 1 ≡ 0 → ⊥
    never n h = omega arith

never_empty : (n : ℕ) → suc n ≤ 0 → ⊥
never_empty n h = omega arith

none_there : (cs : List ℕ) → length cs ≤ 0 → cs ≡ []
none_there [] h = refl
none_there (c ∷ cs) h = absurd (never_empty (length cs) h)

plain_type : (k : ColType) → leads_to_metadata k ≡ false → IsPlainType k
plain_type ty.Any h = tt
plain_type ty.Text h = tt
plain_type ty.Int h = tt
plain_type ty.Bool h = tt
plain_type ty.Date h = tt
plain_type (ty.Ref t) h = h
plain_type (ty.RefList t) h = h

-- no name is the word by which rows are asked
name_no_id : (n : List ℕ) → is_name n ≡ true → is_id n ≡ false
unfolding is_name is_reserved reserved_words id_word
name_no_id n h = by (is_id n) refl
  where
    by : (b : Bool) → is_id n ≡ b → is_id n ≡ false
    by true e =
        let word : n ≡ codes "id" = (bytes_eq-Decides n (codes "id")).0 e in
        let reserved : not (is_reserved (codes "id")) ≡ true = ap (λ w. not (is_reserved w)) (sym word) ∙ (and_parts _ (not (is_reserved n)) (and_parts _ (nat_le (length (chars n)) 64 && not (is_reserved n)) h).1).1 in
        absurd (false≢true reserved)
    by false e = e

-- an empty text is the formula `None`
none_short : 0 ≤ max_bytes
unfolding max_bytes
none_short = omega arith

none_spelled : SpellsText [] []
unfolding SpellsText
none_spelled = subst AllBlank (sym chars-nil) tt

empty_formula : formula_of [] ≡ Some (constant con.None)
empty_formula = formula_empty [] None (record { short = none_short; tokens = []; spelled = none_spelled; tree = refl }) refl (constant con.None) refl

no_text : (m : ColumnRename) (sc : Scope) → (formula_change m sc (Some [])).text ≡ None
no_text m sc = ap (λ o. (maybe_change m sc [] o).text) empty_formula

-- updates give no column a text, and ask for none
updated_leaves : (t n column : List ℕ) (g : RowChanges) (f : List ℕ) → texts_asked (updated column g) t n f ≡ f
updated_leaves t n column g f = elim g.rows as (λ rows. texts_asked (elim rows [ [] ↦ [] | r ∷ rs ↦ update_of column g ∷ [] ]) t n f ≡ f) [ [] ↦ refl | r ∷ rs ↦ refl ]

rules_acl : is_acl_id rules_id ≡ true
unfolding resources_id rules_id
rules_acl = refl

updated_asks : (m : ColumnRename) (s : Document) (column : List ℕ) (g : RowChanges) → AllByRecursion (AsksText m s) (updated column g)
updated_asks m s column g = elim g.rows as (λ rows. AllByRecursion (AsksText m s) (elim rows [ [] ↦ [] | r ∷ rs ↦ update_of column g ∷ [] ])) [ [] ↦ tt | r ∷ rs ↦ (rules_acl, tt) ]

-- what all parts ask for is what all their actions ask for
all_actions : (P : UserAction → Type 0) (qs : List Part) → AllByRecursion (λ (q : Part). AllByRecursion P q.actions) qs → AllByRecursion P (actions_in qs)
all_actions P [] h = tt
all_actions P (q ∷ qs) h = each_append P q.actions (actions_in qs) h.0 (all_actions P qs h.1)

-- the table of a view in which a column is found
found_in : (v : List ViewTable) (t c : List ℕ) (e : ViewCol) → shown_column v t c ≡ Some e → (w : ViewTable) × (find_id shown_table_id t v ≡ Some w) × (find_id shown_id c w.columns ≡ Some e)
found_in v t c e h = by (find_id shown_table_id t v) refl h
  where
    by : (o : Option ViewTable) → find_id shown_table_id t v ≡ o → elim o [ None ↦ None | Some w ↦ find_id shown_id c w.columns ] ≡ Some e → (w : ViewTable) × (find_id shown_table_id t v ≡ Some w) × (find_id shown_id c w.columns ≡ Some e)
    by None i h = absurd (cc)
    by (Some w) i h = (w, i, h)

same_column : (a b : ViewCol) → Some a ≡ Some b → a ≡ b
same_column a b e = cc

-- a column of a table of the document
found_table : (s : Document) (t c : List ℕ) (d : ColDef) → column_in s t c ≡ Some d → (x : Table) × (find_id table_id t s ≡ Some x) × (find_id column_id c x.grid.columns ≡ Some d)
found_table s t c d h = by (find_id table_id t s) refl h
  where
    by : (o : Option Table) → find_id table_id t s ≡ o → elim o [ None ↦ None | Some x ↦ find_id column_id c x.grid.columns ] ≡ Some d → (x : Table) × (find_id table_id t s ≡ Some x) × (find_id column_id c x.grid.columns ≡ Some d)
    by None i h = absurd (cc)
    by (Some x) i h = (x, i, h)

-- each column outside the metadata is found
all_columns : (s : Document) → IsWhole s → AllByRecursion (λ (t : Table). AllByRecursion (λ (d : ColDef). IsPlain t.id × (column_in s t.id d.id ≡ Some d)) t.grid.columns) (plain_tables s)
all_columns s whole =
    let good = good_from s whole in
    each_weaker _ (λ (t : Table). AllByRecursion (λ (d : ColDef). IsPlain t.id × (column_in s t.id d.id ≡ Some d)) t.grid.columns)
    (λ (t : Table) i. each_found column_id (λ (d : ColDef). IsPlain t.id × (column_in s t.id d.id ≡ Some d)) t.grid.columns i.1.is_grid.distinct (λ d e. (i.0.0, in_table t d.id (find_id table_id t.id s) (plain_found s t.id whole.agrees i.0.0 ∙ i.0.1) ∙ e)))
    (plain_tables s)
    (each_both (λ (t : Table). IsPlain t.id × (find_id table_id t.id (plain_tables s) ≡ Some t)) (λ (t : Table). IsSoundGrid t.grid) (plain_tables s)
    (each_both (λ (t : Table). IsPlain t.id) (λ (t : Table). find_id table_id t.id (plain_tables s) ≡ Some t) (plain_tables s) good.plain (each_found table_id (λ (t : Table). find_id table_id t.id (plain_tables s) ≡ Some t) (plain_tables s) good.distinct (λ t e. e))) good.grids)
  where
    in_table : (t : Table) (c : List ℕ) (o : Option Table) → o ≡ Some t → elim o [ None ↦ None | Some x ↦ find_id column_id c x.grid.columns ] ≡ find_id column_id c t.grid.columns
    in_table t c o e = ap (λ (o : Option Table). elim o [ None ↦ None | Some x ↦ find_id column_id c x.grid.columns ]) e

-- the rows of rules that change
abbrev formula_rows : List ViewTable → ColumnRename → RowChanges
formula_rows v m = with_changes (formula_changed m (abouts_in (resource_rows v)) (attributes_in (rule_rows v))) no_changes (rule_rows v)

abbrev attribute_rows : List ViewTable → ColumnRename → RowChanges
attribute_rows v m = with_changes (attribute_changed m) no_changes (rule_rows v)

-- ---- a plan

module _ (v : List ViewTable) (m : ColumnRename) (s : Document) (h : IsPlanned v m s) where
  plan_is : plan_of v m ≡ whole_plan v m
  plan_is = cond_true (is_shown v m.table m.old) (whole_plan v m) (bare_plan m) h.shown

  plan_actions : (plan_of v m).actions ≡ bundle_of m (actions_in (parts_of v m))
  plan_actions = ap (λ p. p.actions) plan_is ∙ with_parts_actions (bare_plan m) (parts_of v m)

  zero : AllByRecursion (λ (q : Part). q.unresolved ≡ 0) (parts_of v m)
  zero = (with_parts_none (bare_plan m) (parts_of v m) (sym (ap (λ p. p.unresolved) plan_is) ∙ h.resolved)).1

  zero_columns : AllByRecursion (λ (w : ViewTable). AllByRecursion (OfColumn v m (λ (q : Part). q.unresolved ≡ 0) w) w.columns) v
  zero_columns = have_parts v m (λ (q : Part). q.unresolved ≡ 0) v (all_append (λ (q : Part). q.unresolved ≡ 0) (column_parts v m v) (rule_parts v m ++ name_parts v m) zero).0

  new_hidden : is_shown v m.table m.new ≡ false
  new_hidden = none_where (is_shown v m.table m.new) (all_append (λ (q : Part). q.unresolved ≡ 0) (rule_parts v m) (name_parts v m) (all_append (λ (q : Part). q.unresolved ≡ 0) (column_parts v m v) (rule_parts v m ++ name_parts v m) zero).1).1.0

  -- no column that is shown has the new name
  kept_of : (t c : List ℕ) (e : ViewCol) → shown_column v t c ≡ Some e → IsKept m t c
  kept_of t c e i = by (bytes_eq t m.table && bytes_eq c m.new) refl
    where
      by : (b : Bool) → (bytes_eq t m.table && bytes_eq c m.new) ≡ b → (bytes_eq t m.table && bytes_eq c m.new) ≡ false
      by true j =
          let p = and_parts (bytes_eq t m.table) (bytes_eq c m.new) j in
          let there : is_shown v m.table m.new ≡ true
          = ap (λ a. is_some (shown_column v a m.new)) (sym ((bytes_eq-Decides t m.table).0 p.0)) ∙ ap (λ a. is_some (shown_column v t a)) (sym ((bytes_eq-Decides c m.new).0 p.1)) ∙ ap is_some i in
          absurd (false≢true (sym new_hidden ∙ there))
      by false j = j

  -- what holds of each column of the view holds of one that is found
  at_found : (P : ViewTable → ViewCol → Type 0) → AllByRecursion (λ (w : ViewTable). AllByRecursion (P w) w.columns) v → (t c : List ℕ) (e : ViewCol) (i : shown_column v t c ≡ Some e) → P (found_in v t c e i).0 e
  at_found P all t c e i =
      let f = found_in v t c e i in
      found_all shown_id (P f.0) c f.0.columns e (found_all shown_table_id (λ (w : ViewTable). AllByRecursion (P w) w.columns) t v f.0 all f.1) f.2

  known : AreColumns (columns_of v) s
  known t c d p i =
      let shown = h.shows.columns t c d p i in
      let f = found_in v t c (shown_as d) shown in
      let about : is_about_metadata f.0 (shown_as d) ≡ false = none_where (is_about_metadata f.0 (shown_as d)) (at_found (OfColumn v m (λ (q : Part). q.unresolved ≡ 0)) zero_columns t c (shown_as d) shown).1 in (
        ap (option_map shown_kind) shown,
        plain_type d.info.ty (sym (ap (λ b. not b && leads_to_metadata d.info.ty) (ap is_metadata_id (found_id shown_table_id t v f.0 f.1) ∙ p)) ∙ about),
      )

  -- the formula of a column outside the metadata that has one
  formula_column : (t c : List ℕ) (d : ColDef) → column_in s t c ≡ Some d → (sc : Scope) (g : List ℕ) → (formula_change m sc (Some d.info.formula)).text ≡ Some g → d.info.is_formula ≡ true
  formula_column t c d i sc g e = by d.info.is_formula refl
    where
      x : (x : Table) × (find_id table_id t s ≡ Some x) × (find_id column_id c x.grid.columns ≡ Some d)
      x = found_table s t c d i

      sound : is_sound_info d.info ≡ true
      sound = found_all column_id (λ (d : ColDef). is_sound_info d.info ≡ true) c x.0.grid.columns d (found_all table_id (λ (t : Table). IsSoundGrid t.grid) t s x.0 h.whole.sound.grids x.1).infos x.2

      by : (b : Bool) → d.info.is_formula ≡ b → d.info.is_formula ≡ true
      by true j = j
      by false j =
          let none : d.info.formula ≡ [] = none_there d.info.formula (leb-true (length d.info.formula) 0 (ap (λ b. b || is_empty d.info.formula) (sym j) ∙ (and_parts _ (d.info.is_formula || is_empty d.info.formula) sound).1)) in
          let no : None ≡ Some g = sym (no_text m sc) ∙ ap (λ f. (formula_change m sc (Some f)).text) (sym none) ∙ e in
          absurd (cc)

  -- ---- what the plan asks for

  part_asks : (w : ViewTable) (d : ViewCol) → IsThere v w d → IsPlain w.id → AllByRecursion (AsksText m s) (formula_part v m w d).actions
  part_asks w d i p = by (formula_change m (in_column (columns_of v) w.id) d.formula).text refl
    where
      was : IsShownOf s w.id d.id d
      was = h.shows.no_others w.id d.id d p i

      by : (o : Option (List ℕ)) → (formula_change m (in_column (columns_of v) w.id) d.formula).text ≡ o → AllByRecursion (AsksText m s) (modified m w d o)
      by None e = tt
      by (Some g) e = (
        record {
          column = d.id;
          was = was.column;
          found = was.found;
          plain = p;
          kept = kept_of w.id d.id d i;
          named = refl;
          is_formula = formula_column w.id d.id was.column was.found (in_column (columns_of v) w.id) g (ap (λ (d : ViewCol). (formula_change m (in_column (columns_of v) w.id) d.formula).text) (sym was.same) ∙ e);
          no_type = refl;
          no_kind = refl;
          text = refl;
        },
        tt,
      )

  none_asks : (w : ViewTable) (d : ViewCol) → d.formula ≡ Some [] → AllByRecursion (AsksText m s) (formula_part v m w d).actions
  none_asks w d e = subst (λ (o : Option (List ℕ)). AllByRecursion (AsksText m s) (modified m w d o)) (sym (ap (λ (o : Option (List ℕ)). (formula_change m (in_column (columns_of v) w.id) o).text) e ∙ no_text m (in_column (columns_of v) w.id))) tt

  asks : AllByRecursion (AsksText m s) (actions_in (parts_of v m))
  asks = all_actions (AsksText m s) (parts_of v m)
      (each_append P (column_parts v m v) (rule_parts v m ++ name_parts v m)
      (parts_have v m P v (each_weaker _ (λ (w : ViewTable). AllByRecursion (OfColumn v m P w) w.columns) table v (each_both _ _ v h.shows.metadata (all_there v h.shows.view))))
      (updated_asks m s (codes "aclFormula") (formula_rows v m), (updated_asks m s (codes "userAttributes") (attribute_rows v m), (tt, (tt, (tt, (tt, tt)))))))
    where
      P : Part → Type 0
      P q = AllByRecursion (AsksText m s) q.actions

      table : (w : ViewTable) → (is_metadata_id w.id ≡ true → AllByRecursion (λ (e : ViewCol). e.formula ≡ Some []) w.columns) × AllByRecursion (IsThere v w) w.columns → AllByRecursion (OfColumn v m P w) w.columns
      table w i = by (is_metadata_id w.id) refl
        where
          by : (b : Bool) → is_metadata_id w.id ≡ b → AllByRecursion (OfColumn v m P w) w.columns
          by true e = each_weaker (λ (e : ViewCol). e.formula ≡ Some []) (OfColumn v m P w) (λ d j. (none_asks w d j, tt)) w.columns (i.0 e)
          by false e = each_weaker (IsThere v w) (OfColumn v m P w) (λ d j. (part_asks w d j e, tt)) w.columns i.1

  -- ---- the texts after it

  module _ (t c : List ℕ) (d : ColDef) (p : IsPlain t) (i : column_in s t c ≡ Some d) where
    shown : shown_column v t c ≡ Some (shown_as d)
    shown = h.shows.columns t c d p i

    is_kept : IsKept m t c
    is_kept = kept_of t c (shown_as d) shown

    abbrev now : List ℕ
    now = moved m t c

    abbrev change : Option (List ℕ)
    change = (formula_change m (in_column (columns_of v) t) (Some d.info.formula)).text

    -- the part of a column gives it no text, or is its own
    part_kind : (w : ViewTable) (e : ViewCol) → IsThere v w e → Leaves t now (formula_part v m w e) ⊎ ((w.id ≡ t) × (e ≡ shown_as d))
    part_kind w e there = by (formula_change m (in_column (columns_of v) w.id) e.formula).text refl (bytes_eq t w.id && bytes_eq now (id_after m w e)) refl
      where
        own : (bytes_eq t w.id && bytes_eq now (id_after m w e)) ≡ true → (w.id ≡ t) × (e ≡ shown_as d)
        own j =
            let q = and_parts (bytes_eq t w.id) (bytes_eq now (id_after m w e)) j in
            let table : w.id ≡ t = sym ((bytes_eq-Decides t w.id).0 q.0) in
            let there' : shown_column v t e.id ≡ Some e = ap (λ a. shown_column v a e.id) (sym table) ∙ there in
            let named : bytes_eq now (moved m t e.id) ≡ true = ap (λ a. bytes_eq now (moved m a e.id)) (sym table) ∙ q.1 in
            let column : c ≡ e.id = (bytes_eq-Decides c e.id).0 (sym (moved_apart m t c e.id is_kept (kept_of t e.id e there')) ∙ named) in
            (table, same_column e (shown_as d) (sym there' ∙ ap (shown_column v t) (sym column) ∙ shown))

        by : (o : Option (List ℕ)) → (formula_change m (in_column (columns_of v) w.id) e.formula).text ≡ o → (b : Bool) → (bytes_eq t w.id && bytes_eq now (id_after m w e)) ≡ b → Leaves t now (formula_part v m w e) ⊎ ((w.id ≡ t) × (e ≡ shown_as d))
        by None j b k = inl (λ f. ap (λ o. texts_asked (modified m w e o) t now f) j)
        by (Some g) j false k = inl (λ f. ap (λ o. texts_asked (modified m w e o) t now f) j ∙ ap (λ b. cond b g f) k)
        by (Some g) j true k = inr (own k)

    -- its own text is that of its formula
    own_change : (w : ViewTable) (e : ViewCol) → w.id ≡ t → e ≡ shown_as d → (formula_change m (in_column (columns_of v) w.id) e.formula).text ≡ change
    own_change w e j k = ap (λ a. (formula_change m (in_column (columns_of v) a) e.formula).text) j ∙ ap (λ (e : ViewCol). (formula_change m (in_column (columns_of v) t) e.formula).text) k

    leaves_own : (w : ViewTable) (e : ViewCol) → change ≡ None → w.id ≡ t → e ≡ shown_as d → Leaves t now (formula_part v m w e)
    leaves_own w e none j k f = ap (λ o. texts_asked (modified m w e o) t now f) (own_change w e j k ∙ none)

    sets_own : (g : List ℕ) (w : ViewTable) (e : ViewCol) → change ≡ Some g → w.id ≡ t → e ≡ shown_as d → Sets t now g (formula_part v m w e)
    sets_own g w e some j k f =
        ap (λ o. texts_asked (modified m w e o) t now f) (own_change w e j k ∙ some)
        ∙ ap (λ b. cond b g f) (ap (λ a. bytes_eq t a && bytes_eq now (moved m a e.id)) j ∙ ap (λ (x : ViewCol). bytes_eq t t && bytes_eq now (moved m t x.id)) k ∙ ap (λ b. b && bytes_eq now (moved m t d.id)) (bytes_itself t) ∙ ap (λ a. bytes_eq now (moved m t a)) id ∙ bytes_itself now)
      where
        id : d.id ≡ c
        id = found_id column_id c (found_table s t c d i).0.grid.columns d (found_table s t c d i).2

    abbrev others : List Part
    others = rule_parts v m ++ name_parts v m

    others_leave : AllByRecursion (Leaves t now) others
    others_leave = (updated_leaves t now (codes "aclFormula") (formula_rows v m), (updated_leaves t now (codes "userAttributes") (attribute_rows v m), ((λ f. refl), ((λ f. refl), ((λ f. refl), ((λ f. refl), tt))))))

    no_change : change ≡ None → texts_asked (actions_in (parts_of v m)) t now d.info.formula ≡ d.info.formula
    no_change none =
        all_leave t now (parts_of v m)
        (each_append (Leaves t now) (column_parts v m v) others
        (parts_have v m (Leaves t now) v (each_weaker _ (λ (w : ViewTable). AllByRecursion (OfColumn v m (Leaves t now) w) w.columns)
        (λ (w : ViewTable) all. each_weaker (IsThere v w) (OfColumn v m (Leaves t now) w) (λ e there. (⊎_elim (λ l. l) (λ o. leaves_own w e none o.0 o.1) (part_kind w e there), (λ f. refl))) w.columns all) v (all_there v h.shows.view)))
        others_leave) d.info.formula

    one_change : (g : List ℕ) → change ≡ Some g → texts_asked (actions_in (parts_of v m)) t now d.info.formula ≡ g
    one_change g some =
        let f = found_in v t c (shown_as d) shown in
        all_set t now g (parts_of v m)
        (each_append P (column_parts v m v) others
        (parts_have v m P v (each_weaker _ (λ (w : ViewTable). AllByRecursion (OfColumn v m P w) w.columns)
        (λ (w : ViewTable) all. each_weaker (IsThere v w) (OfColumn v m P w) (λ e there. (⊎_elim (λ l. inl l) (λ o. inr (sets_own g w e some o.0 o.1)) (part_kind w e there), inl (λ f. refl))) w.columns all) v (all_there v h.shows.view)))
        (each_weaker (Leaves t now) P (λ q l. inl l) others others_leave))
        (set_left t now g (column_parts v m v) others (set_view v m t now g t c f.0 (shown_as d) v f.1 f.2 (sets_own g f.0 (shown_as d) some (found_id shown_table_id t v f.0 f.1) refl)))
        d.info.formula
      where
        P : Part → Type 0
        P q = Leaves t now q ⊎ Sets t now g q

    -- nothing of the formula is unresolved
    resolved_change : (formula_change m (in_column (columns_of v) t) (Some d.info.formula)).unresolved ≡ 0
    resolved_change =
        let f = found_in v t c (shown_as d) shown in
        ap (λ a. (formula_change m (in_column (columns_of v) a) (Some d.info.formula)).unresolved) (sym (found_id shown_table_id t v f.0 f.1))
        ∙ (at_found (OfColumn v m (λ (q : Part). q.unresolved ≡ 0)) zero_columns t c (shown_as d) shown).0

  -- ---- the new name

  differs : bytes_eq m.old m.new ≡ false
  differs = by (bytes_eq m.old m.new) refl
    where
      by : (b : Bool) → bytes_eq m.old m.new ≡ b → bytes_eq m.old m.new ≡ false
      by true e = absurd (false≢true (sym new_hidden ∙ ap (is_shown v m.table) (sym ((bytes_eq-Decides m.old m.new).0 e)) ∙ h.shown))
      by false e = e

  free : IsFreeName m s
  free = each_weaker _ (λ (t : Table). AllByRecursion (λ (d : ColDef). IsKept m t.id d.id) t.grid.columns)
      (λ (t : Table) all. each_weaker _ (λ (d : ColDef). IsKept m t.id d.id) (λ (d : ColDef) i. kept_of t.id d.id (shown_as d) (h.shows.columns t.id d.id d i.0 i.1)) t.grid.columns all) (plain_tables s) (all_columns s h.whole)

  -- the first action of the bundle
  abbrev gained : List ℕ
  gained = free_name (column_ids s m.table) m.new

  first_actions : (plan_of v m).actions ≡ bundle_of m (actions_in (parts_of v m)) → actions_of s (user.RenameColumn m.table m.old m.new) ≡ map action_of (column_renaming s m.table m.old gained)
  first_actions e = ap (λ b. map action_of (cond b [] (column_renaming s m.table m.old gained))) differs

  bundle_valid : all_valid s (expanded s (bundle_of m (actions_in (parts_of v m)))) ≡ true
  bundle_valid = subst (λ (xs : List UserAction). all_valid s (expanded s xs) ≡ true) plan_actions h.valid

  renames_valid : valid s (action.RenameColumn m.table m.old gained) ≡ true
  renames_valid = (and_parts (valid s (action.RenameColumn m.table m.old gained)) _ (subst (λ (xs : List DocAction). all_valid s (xs ++ expanded (apply_all s (actions_of s (user.RenameColumn m.table m.old m.new))) (actions_in (parts_of v m))) ≡ true) (first_actions plan_actions) bundle_valid)).0

  -- the renamed table is none of the metadata, and has the column
  schema_found : (t : Table) × (schema_table s m.table ≡ Some t) × (is_new_column t.grid gained ≡ true)
  schema_found = by (schema_table s m.table) refl renames_valid
    where
      by : (o : Option Table) → schema_table s m.table ≡ o → passes o (λ t. has_id column_id t.grid.columns m.old && is_new_column t.grid gained) ≡ true → (t : Table) × (schema_table s m.table ≡ Some t) × (is_new_column t.grid gained ≡ true)
      by None e f = absurd (false≢true f)
      by (Some t) e f = (t, e, (and_parts (has_id column_id t.grid.columns m.old) (is_new_column t.grid gained) f).1)

  plain_table : IsPlain m.table
  plain_table = by (is_metadata_id m.table) refl schema_found.1
    where
      by : (b : Bool) → is_metadata_id m.table ≡ b → cond b None (find_id table_id m.table s) ≡ Some schema_found.0 → is_metadata_id m.table ≡ false
      by true e f = absurd (cc)
      by false e f = e

  table_found : find_id table_id m.table s ≡ Some schema_found.0
  table_found = ap (λ b. cond b None (find_id table_id m.table s)) (sym plain_table) ∙ schema_found.1

  not_taken : is_taken (column_ids s m.table) m.new ≡ false
  not_taken =
      ap (λ (o : Option Table). let g : Grid ColDef = elim o [ None ↦ no_grid | Some t ↦ t.grid ] in is_taken (map column_id g.columns) m.new) table_found
      ∙ none_taken schema_found.0.grid.columns
      (subst (λ (a : List ℕ). AllByRecursion (λ (d : ColDef). IsKept m a d.id) schema_found.0.grid.columns) (found_id table_id m.table s schema_found.0 table_found)
      (found_all table_id (λ (t : Table). AllByRecursion (λ (d : ColDef). IsKept m t.id d.id) t.grid.columns) m.table (plain_tables s) schema_found.0 free (sym (plain_found s m.table h.whole.agrees plain_table) ∙ table_found)))
    where
      none_taken : (ds : List ColDef) → AllByRecursion (λ (d : ColDef). IsKept m m.table d.id) ds → is_taken (map column_id ds) m.new ≡ false
      none_taken [] f = refl
      none_taken (d ∷ ds) f =
          ap (λ b. b || is_taken (map column_id ds) m.new) (bytes_apart d.id m.new (ap (λ b. b && bytes_eq d.id m.new) (sym (bytes_itself m.table)) ∙ f.0))
          ∙ none_taken ds f.1

  gets : gained ≡ m.new
  unfolding free_name
  gets = ap (λ b. if b then numbered m.new (least_free (column_ids s m.table) m.new 2 (12 * length (column_ids s m.table) + 100)) else m.new) not_taken

  is_naming : IsNaming m s
  is_naming = record { differs = differs; free = free; gets = gets }

  named_new : is_name m.new ≡ true
  named_new = ap is_name (sym gets) ∙ (and_parts (not (has_id column_id schema_found.0.grid.columns gained)) (is_name gained) schema_found.2).1

  named_old : is_name m.old ≡ true
  named_old = by (shown_column v m.table m.old) refl h.shown
    where
      by : (o : Option ViewCol) → shown_column v m.table m.old ≡ o → is_some o ≡ true → is_name m.old ≡ true
      by None e f = absurd (false≢true f)
      by (Some e) i f =
          let d = h.shows.no_others m.table m.old e plain_table i in
          let x = found_table s m.table m.old d.column d.found in
          let names : has_names x.0 ≡ true = found_all table_id (λ (t : Table). has_names t ≡ true) m.table (plain_tables s) x.0 (good_from s h.whole).names (sym (plain_found s m.table h.whole.agrees plain_table) ∙ x.1) in
          let each : list_all (λ (d : ColDef). is_name d.id) x.0.grid.columns ≡ true = (and_parts (is_name x.0.id) (list_all (λ (d : ColDef). is_name d.id) x.0.grid.columns) names).1 in
          ap is_name (sym (found_id column_id m.old x.0.grid.columns d.column x.2)) ∙ found_all column_id (λ (d : ColDef). is_name d.id ≡ true) m.old x.0.grid.columns d.column (each_true (λ (d : ColDef). is_name d.id) x.0.grid.columns each) x.2

  -- ---- formulas follow

  module _ (written : WrittenLaw) (lexemes : LexemeLaw) (height : HeightLaw) (stands : StandsLaw) (rewrites : RewrittenFormulaLaw) (resolves : ResolvedLaw) where
    module _ (t c : List ℕ) (d : ColDef) (p : IsPlain t) (i : column_in s t c ≡ Some d) where
      abbrev sc : Scope
      sc = in_column (columns_of v) t

      abbrev text_then : List ℕ
      text_then = texts_asked (actions_in (parts_of v m)) t (moved m t c) d.info.formula

      follows_tree : (e : Tree) → formula_of d.info.formula ≡ Some e → Follow m (rename_in m sc) (columns_of v) t (Some e) (formula_of text_then)
      follows_tree e f = by (list_any (λ b. b) (marks (rename_in m sc) e)) refl
        where
          tree_is : formula_change m sc (Some d.info.formula) ≡ tree_change m sc d.info.formula e
          tree_is = ap (maybe_change m sc d.info.formula) f

          by : (b : Bool) → list_any (λ b. b) (marks (rename_in m sc) e) ≡ b → Follow m (rename_in m sc) (columns_of v) t (Some e) (formula_of text_then)
          by false j =
              let change_is : formula_change m sc (Some d.info.formula) ≡ kept (capped (unresolved_among m (uses sc e)))
              = tree_is ∙ ap (λ b. cond b (rewritten (rewritten_text d.info.formula (marks (rename_in m sc) e) m.new) (capped (unresolved_among m (uses sc e)))) (kept (capped (unresolved_among m (uses sc e))))) j in
              let none : unresolved_among m (uses sc e) ≡ 0 = capped_none (unresolved_among m (uses sc e)) (sym (ap (λ x. x.unresolved) change_is) ∙ resolved_change t c d p i) in
              let fits = resolves m (columns_of v) t e none in
              let same : formula_of text_then ≡ Some e = ap formula_of (no_change t c d p i (ap (λ x. x.text) change_is)) ∙ f in
              subst (Follow m (rename_in m sc) (columns_of v) t (Some e)) (sym same) (fits.0, stays written lexemes height stands (rename_in m sc) d.info.formula e fits.1 j f)
          by true j =
              let text : List ℕ = rewritten_text d.info.formula (marks (rename_in m sc) e) m.new in
              let change_is : formula_change m sc (Some d.info.formula) ≡ rewritten text (capped (unresolved_among m (uses sc e)))
              = tree_is ∙ ap (λ b. cond b (rewritten text (capped (unresolved_among m (uses sc e)))) (kept (capped (unresolved_among m (uses sc e))))) j in
              let short = within (nat_le (length text) max_bytes) (capped (unresolved_among m (uses sc e))) (sym (ap (λ x. x.unresolved) change_is) ∙ resolved_change t c d p i) in
              let fits = resolves m (columns_of v) t e (capped_none (unresolved_among m (uses sc e)) short.1) in
              let same : formula_of text_then ≡ Some (renamed (rename_in m sc) e)
              = ap formula_of (one_change t c d p i text (ap (λ x. x.text) change_is))
              ∙ rewrites (rename_in m sc) d.info.formula e (record { text_is_utf8 = h.shows.texts t c d p i; new_is_utf8 = h.new_is_utf8; named = named_new; free = fits.1; short = leb-true (length text) max_bytes short.0 }) f in
              subst (Follow m (rename_in m sc) (columns_of v) t (Some e)) (sym same) (fits.0, refl)

      follows : Follow m (rename_in m sc) (columns_of v) t (formula_of d.info.formula) (formula_of text_then)
      follows = by (formula_of d.info.formula) refl
        where
          by : (o : Option Tree) → formula_of d.info.formula ≡ o → Follow m (rename_in m sc) (columns_of v) t o (formula_of text_then)
          by None e = subst (Follow m (rename_in m sc) (columns_of v) t None) (sym (ap formula_of (no_change t c d p i (ap (λ o. (maybe_change m sc d.info.formula o).text) e)) ∙ e)) tt
          by (Some x) e = follows_tree x e

    pub planned : ExpandedTextsLaw → AreRenamed m (renames v m) (rewriting v m) (columns_of v) s (apply_all s (expanded s (plan_of v m).actions))
    planned texts = record {
      whole = h.whole;
      whole_after = IsWhole-apply_all s (expanded s (plan_of v m).actions) h.whole h.valid;
      typed = known;
      followed = record {
        old = name_no_id m.old named_old;
        new = name_no_id m.new named_new;
        columns = each_weaker _ (λ (t : Table). AllByRecursion (ColumnFollows m (renames v m) (rewriting v m) (columns_of v) t.id) t.grid.columns)
            (λ (t : Table) all. each_weaker _ (ColumnFollows m (renames v m) (rewriting v m) (columns_of v) t.id)
            (λ (d : ColDef) i. record { free = kept_of t.id d.id (shown_as d) (h.shows.columns t.id d.id d i.0 i.1); formula = λ e. follows t.id d.id d i.0 i.1 }) t.grid.columns all)
            (plain_tables s) (all_columns s h.whole);
      };
      renamed = subst (λ (xs : List UserAction). IsRenamed m (rewriting v m) s (apply_all s (expanded s xs))) (sym plan_actions) (texts m s (actions_in (parts_of v m)) h.whole is_naming asks bundle_valid);
    }

pub planned_values : WrittenLaw → LexemeLaw → HeightLaw → StandsLaw → RewrittenFormulaLaw → ResolvedLaw → ExpandedTextsLaw → PlannedValuesLaw
planned_values written lexemes height stands rewrites resolves texts v m s h = planned v m s h written lexemes height stands rewrites resolves texts
