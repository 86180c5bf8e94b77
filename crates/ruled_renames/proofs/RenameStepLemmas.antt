-- The first action of a plan, and which of its parts leave the tables of access rules.
use Rattle.std.proofs.Common.{◌≡◌, ◌∙◌, ap, refl, subst, sym, ℕ, Bool, true, false, cond, not, ◌&&◌, ◌||◌, List, [], ◌∷◌, ◌++◌, map, codes, Option, Some, None, bytes_eq, if◌then◌else◌, length, ◌+◌, ◌*◌, ◌≤◌, arith}
use Rattle.std.specs.List.{AllByRecursion, list_all}
use Rattle.std.specs.Option.{is_some}
use Rattle.std.proofs.lemmas.Bool.{and_parts, false≢true, or_parts}
use Rattle.std.proofs.lemmas.Slice.Eq.{bytes_eq-Decides}
use Rattle.std.proofs.lemmas.Str.{chars-nil}
use Rattle.cell_types.specs.declared.value.CellValue.{CellValue}
use Rattle.cell_types.specs.NameRule.{is_name}
use Rattle.doc_model.specs.declared.action.DocAction.{DocAction}
use Rattle.doc_model.specs.declared.action.DocAction.TheVariants as action
use Rattle.doc_model.specs.declared.column.CellColumn.{CellColumn}
use Rattle.doc_model.specs.declared.column.ColDef.{ColDef}
use Rattle.doc_model.specs.declared.user_action.UserAction.{UserAction}
use Rattle.doc_model.specs.declared.user_action.UserAction.TheVariants as user
use Rattle.doc_model.specs.declared.view.ViewCol.{ViewCol}
use Rattle.doc_model.specs.declared.view.ViewTable.{ViewTable}
use Rattle.doc_model.specs.Apply.{all_valid, apply, apply_all}
use Rattle.doc_model.specs.ByIds.{find_id, has_id}
use Rattle.doc_model.specs.Column.{column_id}
use Rattle.doc_model.specs.Document.{Document, Table, table_id}
use Rattle.doc_model.specs.Grid.{Grid, cell}
use Rattle.doc_model.specs.MetadataIds.{is_metadata_id, resources_id}
use Rattle.doc_model.specs.Records.{value_for}
use Rattle.doc_model.specs.Rows.{has}
use Rattle.doc_model.specs.Same.{same_value}
use Rattle.doc_model.specs.Schema.{no_grid, resources, rules}
use Rattle.doc_model.specs.Valid.{is_new_column, schema_table, valid}
use Rattle.doc_model.proofs.ByIdsLaws.{bytes_apart, found_all, found_has, found_id}
use Rattle.doc_model.proofs.Choices.{each_weaker}
use Rattle.doc_model.proofs.DocumentParts.{passes_parts}
use Rattle.doc_model.proofs.RecordsLaws.{value_for-map}
use Rattle.doc_model.proofs.RowsLaws.{has-filter}
use Rattle.doc_model.proofs.SameLaws.{same_value-Decides}
use Rattle.doc_model.proofs.WholeLaws.{each_append}
use Rattle.doc_readers.specs.Parts.{grid_at}
use Rattle.formula_eval.proofs.Notes.{all_append}
use Rattle.formula_lex.specs.Spelling.{AllBlank, SpellsText}
use Rattle.formula_parse.specs.declared.operator.Constant.TheVariants as con
use Rattle.formula_parse.specs.FormulaOf.{formula_of}
use Rattle.formula_parse.specs.Spelling.{max_bytes}
use Rattle.formula_parse.specs.Tree.{constant}
use Rattle.formula_parse.proofs.FormulaOfLemmas.{formula_empty}
use Rattle.formula_records.specs.ShownColumns.{columns_of}
use Rattle.name_rules.specs.FreeName.{free_name, is_taken, least_free, numbered}
use Rattle.planned_renames.specs.PlannedValues.{IsPlanned, actions_in, parts_of}
use Rattle.planned_renames.proofs.ColumnPlans.{OfColumn, parts_have}
use Rattle.planned_renames.proofs.PlanParts.{with_parts_actions, with_parts_none}
use Rattle.recalc.specs.Evaluated.{column_in}
use Rattle.rename_flow.specs.Changes.{formula_change, maybe_change}
use Rattle.rename_flow.specs.ColumnParts.{column_parts, formula_part, modified}
use Rattle.rename_flow.specs.Parts.{Part}
use Rattle.rename_flow.specs.Plan.{bare_plan, is_shown, name_parts, plan_of, rule_parts, whole_plan}
use Rattle.rename_marks.specs.declared.column_rename.ColumnRename.{ColumnRename}
use Rattle.rename_marks.specs.Scope.{Scope, in_column}
use Rattle.renamed_documents.specs.RenamingSteps.{naming}
use Rattle.renamed_resources.specs.Renamed.{columns_renamed, names_table}
use Rattle.renamed_values.specs.HeldRecords.{IsPlain}
use Rattle.renaming_bundles.specs.AskedTexts.{bundle_of}
use Rattle.renaming_bundles.specs.Expanded.{actions_of, expanded}
use Rattle.user_actions.specs.CellUpdates.{column_changed, rows_changed}
use Rattle.user_actions.specs.ResourceSteps.{columns_moved, rows_about}
use Rattle.user_actions.specs.StepLaws.{action_of}
use Rattle.user_actions.specs.Steps.{column_ids, column_renaming}
use Rattle.doc_model.proofs.Choices.{cond_true}
use Rattle.ruled_renames.proofs.AccessTables.{IsOtherAsked, one_other, resources_put, whole_after}
use Rattle.ruled_renames.proofs.UpdatedCells.{Puts, put}

-- an empty text is the formula `None`
none_short : 0 ≤ max_bytes
unfolding max_bytes
none_short = omega arith

none_spelled : SpellsText [] []
unfolding SpellsText
none_spelled = subst AllBlank (sym chars-nil) tt

empty_formula : formula_of [] ≡ Some (constant con.None)
empty_formula = formula_empty [] None (record { short = none_short; tokens = []; spelled = none_spelled; tree = refl }) refl (constant con.None) refl

none_where : (b : Bool) → ◌≡◌ {A = ℕ} (cond b 1 0) 0 → b ≡ false
none_where true h = absurd (cc)
none_where false h = refl

module _ (v : List ViewTable) (m : ColumnRename) (s : Document) (h : IsPlanned v m s) where
  -- ---- the parts of the plan

  plan_is : plan_of v m ≡ whole_plan v m
  plan_is = cond_true (is_shown v m.table m.old) (whole_plan v m) (bare_plan m) h.shown

  pub plan_actions : (plan_of v m).actions ≡ bundle_of m (actions_in (parts_of v m))
  plan_actions = ap (λ p. p.actions) plan_is ∙ with_parts_actions (bare_plan m) (parts_of v m)

  pub zero : AllByRecursion (λ (q : Part). q.unresolved ≡ 0) (parts_of v m)
  zero = (with_parts_none (bare_plan m) (parts_of v m) (sym (ap (λ p. p.unresolved) plan_is) ∙ h.resolved)).1

  pub zero_rules : AllByRecursion (λ (q : Part). q.unresolved ≡ 0) (rule_parts v m ++ name_parts v m)
  zero_rules = (all_append (λ (q : Part). q.unresolved ≡ 0) (column_parts v m v) (rule_parts v m ++ name_parts v m) zero).1

  new_hidden : is_shown v m.table m.new ≡ false
  new_hidden = none_where (is_shown v m.table m.new) (all_append (λ (q : Part). q.unresolved ≡ 0) (rule_parts v m) (name_parts v m) zero_rules).1.0

  -- ---- the new name

  differs : bytes_eq m.old m.new ≡ false
  differs = by (bytes_eq m.old m.new) refl
    where
      by : (b : Bool) → bytes_eq m.old m.new ≡ b → bytes_eq m.old m.new ≡ false
      by true e = absurd (false≢true (sym new_hidden ∙ ap (is_shown v m.table) (sym ((bytes_eq-Decides m.old m.new).0 e)) ∙ h.shown))
      by false e = e

  abbrev gained : List ℕ
  gained = free_name (column_ids s m.table) m.new

  pub bundle_valid : all_valid s (expanded s (bundle_of m (actions_in (parts_of v m)))) ≡ true
  bundle_valid = subst (λ (xs : List UserAction). all_valid s (expanded s xs) ≡ true) plan_actions h.valid

  abbrev pub first_asked : UserAction
  first_asked = user.RenameColumn m.table m.old m.new

  first_is : actions_of s first_asked ≡ map action_of (column_renaming s m.table m.old gained)
  first_is = ap (λ b. map action_of (cond b [] (column_renaming s m.table m.old gained))) differs

  renames_valid : valid s (action.RenameColumn m.table m.old gained) ≡ true
  renames_valid = (and_parts (valid s (action.RenameColumn m.table m.old gained)) _ (subst (λ (xs : List DocAction). all_valid s (xs ++ expanded (apply_all s (actions_of s first_asked)) (actions_in (parts_of v m))) ≡ true) first_is bundle_valid)).0

  found : (t : Table) × ((schema_table s m.table ≡ Some t) × ((has_id column_id t.grid.columns m.old && is_new_column t.grid gained) ≡ true))
  found = passes_parts (schema_table s m.table) (λ (t : Table). has_id column_id t.grid.columns m.old && is_new_column t.grid gained) renames_valid

  plain_table : IsPlain m.table
  plain_table = by (is_metadata_id m.table) refl found.1.0
    where
      by : (b : Bool) → is_metadata_id m.table ≡ b → cond b None (find_id table_id m.table s) ≡ Some found.0 → is_metadata_id m.table ≡ false
      by true e f = absurd (cc)
      by false e f = e

  table_found : find_id table_id m.table s ≡ Some found.0
  table_found = ap (λ b. cond b None (find_id table_id m.table s)) (sym plain_table) ∙ found.1.0

  -- the table has a name, as all that is no metadata
  pub table_named : is_name m.table ≡ true
  table_named =
      ap is_name (sym (found_id table_id m.table s found.0 table_found))
      ∙ (and_parts (is_name found.0.id) (list_all (λ (d : ColDef). is_name d.id) found.0.grid.columns)
      (named (is_metadata_id found.0.id) (is_name found.0.id && list_all (λ (d : ColDef). is_name d.id) found.0.grid.columns) (ap is_metadata_id (found_id table_id m.table s found.0 table_found) ∙ plain_table) (found_all table_id (λ (t : Table). (is_metadata_id t.id || (is_name t.id && list_all (λ (d : ColDef). is_name d.id) t.grid.columns)) ≡ true) m.table s found.0 h.whole.sound.names table_found))).0
    where
      named : (b c : Bool) → b ≡ false → (b || c) ≡ true → c ≡ true
      named true c e f = absurd (false≢true (sym e))
      named false c e f = f

  -- no column of the table has the new name
  absent : has_id column_id found.0.grid.columns m.new ≡ false
  absent = by (has_id column_id found.0.grid.columns m.new) refl
    where
      by : (b : Bool) → has_id column_id found.0.grid.columns m.new ≡ b → has_id column_id found.0.grid.columns m.new ≡ false
      by true e =
          let d = found_has column_id m.new found.0.grid.columns e in
          let there : column_in s m.table m.new ≡ Some d.0 = ap (λ (o : Option Table). elim o as (λ _. Option ColDef) [ None ↦ None | Some x ↦ find_id column_id m.new x.grid.columns ]) table_found ∙ d.1 in
          absurd (false≢true (sym new_hidden ∙ ap is_some (h.shows.columns m.table m.new d.0 plain_table there)))
      by false e = e

  not_taken : is_taken (column_ids s m.table) m.new ≡ false
  not_taken =
      ap (λ (o : Option Table). let g : Grid ColDef = elim o as (λ _. Grid ColDef) [ None ↦ no_grid | Some t ↦ t.grid ] in is_taken (map column_id g.columns) m.new) table_found
      ∙ none_taken found.0.grid.columns absent
    where
      none_taken : (ds : List ColDef) → has_id column_id ds m.new ≡ false → is_taken (map column_id ds) m.new ≡ false
      none_taken [] f = refl
      none_taken (d ∷ ds) f =
          let p = or_parts (bytes_eq d.id m.new) (has_id column_id ds m.new) f in
          ap (λ b. b || is_taken (map column_id ds) m.new) (bytes_apart d.id m.new p.0) ∙ none_taken ds p.1

  gets : gained ≡ m.new
  unfolding free_name
  gets = ap (λ b. if b then numbered m.new (least_free (column_ids s m.table) m.new 2 (12 * length (column_ids s m.table) + 100)) else m.new) not_taken

  pub named_new : is_name m.new ≡ true
  named_new =
      ap is_name (sym gets)
      ∙ (and_parts (not (has_id column_id found.0.grid.columns gained)) (is_name gained) (and_parts (has_id column_id found.0.grid.columns m.old) (is_new_column found.0.grid gained) found.1.1).1).1

  -- ---- the first action

  abbrev moves : List DocAction
  moves = map action_of (columns_moved s m.table m.old m.new)

  pub first_actions : actions_of s first_asked ≡ naming m ∷ moves
  first_actions = first_is ∙ ap (λ n. map action_of (column_renaming s m.table m.old n)) gets

  abbrev g : Grid ColDef
  g = grid_at s resources_id

  abbrev f : CellValue → CellValue
  f = columns_renamed m.old m.new

  abbrev pub moved_rows : List ℕ
  moved_rows = rows_changed g (codes "colIds") f (rows_about g m.table)

  abbrev written : CellColumn
  written = column_changed g (codes "colIds") f moved_rows

  abbrev pub moved_values : List CellValue
  moved_values = written.values

  abbrev pub after_first : Document
  after_first = apply_all s (actions_of s first_asked)

  pub record FirstDone : Type 0 where
    pub puts : Puts (codes "colIds") (value_for moved_rows moved_values) (resources s) (resources after_first)
    pub rules_same : rules after_first ≡ rules s

  pub first_done : all_valid s (actions_of s first_asked) ≡ true → FirstDone
  first_done v =
      let d : Document = apply s (naming m) in
      let w : all_valid s (naming m ∷ moves) ≡ true = subst (λ (xs : List DocAction). all_valid s xs ≡ true) first_actions v in
      let p = and_parts (valid s (naming m)) (all_valid d moves) w in
      let same = one_other s h.whole (naming m) tt in
      let done = resources_put d (whole_after s (naming m) h.whole p.0) moved_rows written false p.1 in
      record {
        puts = subst (λ (xs : List DocAction). Puts (codes "colIds") (value_for moved_rows moved_values) (resources s) (resources (apply_all s xs))) (sym first_actions)
            (subst (λ (x : Grid ColDef). Puts (codes "colIds") (value_for moved_rows moved_values) x (resources (apply_all s (naming m ∷ moves)))) same.resources_same done.puts);
        rules_same = subst (λ (xs : List DocAction). rules (apply_all s xs) ≡ rules s) (sym first_actions) (done.rules_same ∙ same.rules_same);
      }

  -- what it puts in a row
  pub first_value : (r : ℕ) → has g.rows r ≡ true → (x : CellValue) → cell column_id g (codes "colIds") r ≡ x
      → put (value_for moved_rows moved_values r) (Some x) ≡ Some (cond (names_table m.table (cell column_id g (codes "tableId") r)) (f x) x)
  first_value r there x e =
      ap (λ o. put o (Some x)) (value_for-map moved_rows (λ q. f (cell column_id g (codes "colIds") q)) r)
      ∙ ap (λ b. put (cond b (Some (f (cell column_id g (codes "colIds") r))) None) (Some x)) (has-filter (λ q. not (same_value (cell column_id g (codes "colIds") q) (f (cell column_id g (codes "colIds") q)))) (rows_about g m.table) r)
      ∙ ap (λ b. put (cond (not (same_value (cell column_id g (codes "colIds") r) (f (cell column_id g (codes "colIds") r))) && b) (Some (f (cell column_id g (codes "colIds") r))) None) (Some x)) (has-filter (λ q. names_table m.table (cell column_id g (codes "tableId") q)) g.rows r)
      ∙ ap (λ y. put (cond (not (same_value y (f y)) && (names_table m.table (cell column_id g (codes "tableId") r) && has g.rows r)) (Some (f y)) None) (Some x)) e
      ∙ ap (λ b. put (cond (not (same_value x (f x)) && (names_table m.table (cell column_id g (codes "tableId") r) && b)) (Some (f x)) None) (Some x)) there
      ∙ by (names_table m.table (cell column_id g (codes "tableId") r)) (same_value x (f x)) refl
    where
      by : (n b : Bool) → same_value x (f x) ≡ b → put (cond (not b && (n && true)) (Some (f x)) None) (Some x) ≡ Some (cond n (f x) x)
      by true true k = ap Some ((same_value-Decides x (f x)).0 k)
      by true false k = refl
      by false true k = refl
      by false false k = refl

  -- ---- the formulas of columns leave both tables

  no_text : (sc : Scope) → (formula_change m sc (Some [])).text ≡ None
  no_text sc = ap (λ o. (maybe_change m sc [] o).text) empty_formula

  abbrev IsOtherPart : Part → Type 0
  IsOtherPart q = AllByRecursion IsOtherAsked q.actions

  modified_other : (w : ViewTable) (d : ViewCol) → IsPlain w.id → (o : Option (List ℕ)) → AllByRecursion IsOtherAsked (modified m w d o)
  modified_other w d p None = tt
  modified_other w d p (Some text) = (p, tt)

  none_modified : (w : ViewTable) (d : ViewCol) → d.formula ≡ Some [] → IsOtherPart (formula_part v m w d)
  none_modified w d e =
      subst (λ (o : Option (List ℕ)). AllByRecursion IsOtherAsked (modified m w d o))
      (sym (ap (λ (o : Option (List ℕ)). (formula_change m (in_column (columns_of v) w.id) o).text) e ∙ no_text (in_column (columns_of v) w.id))) tt

  table_other : (w : ViewTable) → (is_metadata_id w.id ≡ true → AllByRecursion (λ (e : ViewCol). e.formula ≡ Some []) w.columns) → AllByRecursion (OfColumn v m IsOtherPart w) w.columns
  table_other w i = by (is_metadata_id w.id) refl
    where
      all_so : (ds : List ViewCol) → ((d : ViewCol) → OfColumn v m IsOtherPart w d) → AllByRecursion (OfColumn v m IsOtherPart w) ds
      all_so [] k = tt
      all_so (d ∷ ds) k = (k d, all_so ds k)

      by : (b : Bool) → is_metadata_id w.id ≡ b → AllByRecursion (OfColumn v m IsOtherPart w) w.columns
      by true e = each_weaker (λ (d : ViewCol). d.formula ≡ Some []) (OfColumn v m IsOtherPart w) (λ d j. (none_modified w d j, tt)) w.columns (i e)
      by false e = all_so w.columns (λ d. (modified_other w d e (formula_change m (in_column (columns_of v) w.id) d.formula).text, tt))

  flat : (qs : List Part) → AllByRecursion IsOtherPart qs → AllByRecursion IsOtherAsked (actions_in qs)
  flat [] k = tt
  flat (q ∷ qs) k = each_append IsOtherAsked q.actions (actions_in qs) k.0 (flat qs k.1)

  pub columns_other : AllByRecursion IsOtherAsked (actions_in (column_parts v m v))
  columns_other = flat (column_parts v m v) (parts_have v m IsOtherPart v (each_weaker _ (λ (w : ViewTable). AllByRecursion (OfColumn v m IsOtherPart w) w.columns) table_other v h.shows.metadata))
