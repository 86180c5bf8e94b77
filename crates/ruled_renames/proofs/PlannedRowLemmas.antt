-- Rows of rules follow the plan of a rename.
use Rattle.std.proofs.Common.{◌≡◌, ◌∙◌, ap, refl, subst, sym, ℕ, suc, arith, Bool, true, false, cond, ◌&&◌, ◌||◌, nat_eq, List, [], ◌∷◌, ◌++◌, length, codes, Option, Some, None, option_map, option_and_then, bytes_eq, append-nil, append_assoc}
use Rattle.std.specs.List.{AllByRecursion}
use Rattle.std.specs.Str.{IsUtf8}
use Rattle.std.proofs.lemmas.Bool.{false≢true}
use Rattle.std.proofs.lemmas.Option.{same_Some}
use Rattle.std.proofs.lemmas.Str.{IsUtf8-nil}
use Rattle.cell_types.specs.declared.column_type.ColType.TheVariants as ty
use Rattle.cell_types.specs.declared.value.CellValue.{CellValue}
use Rattle.cell_types.specs.declared.value.CellValue.TheVariants as value
use Rattle.cell_types.specs.Reference.{row_number}
use Rattle.doc_model.specs.declared.action.DocAction.{DocAction}
use Rattle.doc_model.specs.declared.column.ColDef.{ColDef}
use Rattle.doc_model.specs.declared.user_action.UserAction.{UserAction}
use Rattle.doc_model.specs.declared.view.ViewCol.{ViewCol}
use Rattle.doc_model.specs.declared.view.ViewTable.{ViewTable}
use Rattle.doc_model.specs.Apply.{all_valid, apply_all}
use Rattle.doc_model.specs.ByIds.{has_id}
use Rattle.doc_model.specs.Changes.{grid, shown_table_id}
use Rattle.doc_model.specs.Column.{column_id}
use Rattle.doc_model.specs.Document.{Document, Table}
use Rattle.doc_model.specs.DocumentLaws.{IsWhole}
use Rattle.doc_model.specs.Grid.{Grid, IsGrid, cell}
use Rattle.doc_model.specs.MetadataIds.{resources_id, rules_id}
use Rattle.doc_model.specs.Readers.{cell_at}
use Rattle.doc_model.specs.Records.{value_for}
use Rattle.doc_model.specs.Rows.{IsAscending, has}
use Rattle.doc_model.specs.Schema.{resources, resources_columns, rules, rules_columns}
use Rattle.doc_model.specs.Sound.{IsSoundGrid}
use Rattle.doc_model.specs.ViewEdits.{IsShown, shown_id}
use Rattle.doc_model.proofs.ByIdsLaws.{found_all}
use Rattle.doc_model.proofs.Choices.{each_weaker}
use Rattle.doc_model.proofs.InverseLaws.{IsWhole-apply_all}
use Rattle.doc_model.proofs.RowsLaws.{each_has}
use Rattle.doc_model.proofs.WholeLaws.{good_from}
use Rattle.doc_readers.specs.Parts.{grid_at}
use Rattle.acl_rules.specs.Carried.{moved as moved_by}
use Rattle.acl_rules.specs.Loaded.{number_in, resource_at, resource_from, resource_named, rule_cell, rule_rows as rows_in_document, text_in}
use Rattle.planned_renames.specs.PlannedValues.{IsPlanned, actions_in, parts_of}
use Rattle.rename_flow.specs.declared.shown_rules.RuleAbout.{RuleAbout}
use Rattle.rename_flow.specs.declared.text_change.TextChange.{TextChange}
use Rattle.rename_flow.specs.AttributeTexts.{attribute_change}
use Rattle.rename_flow.specs.ColumnParts.{column_parts}
use Rattle.rename_flow.specs.Parts.{Part}
use Rattle.rename_flow.specs.Plan.{name_parts, rule_parts}
use Rattle.rename_flow.specs.RuleParts.{attribute_changed, claims, formula_changed, no_changes, scoped_change, updated, with_changes}
use Rattle.rename_flow.specs.RuleTextLaw.{RewrittenRuleLaw}
use Rattle.rename_flow.specs.ShownRows.{ShownRow, rows_in, rows_of, shown_cell, text_shown}
use Rattle.rename_flow.specs.ShownRules.{about_at, about_of, abouts_in, attribute_shown, attributes_in, claims_new, resource_rows, resource_shown, rule_rows, tables_in}
use Rattle.rename_marks.specs.declared.column_rename.ColumnRename.{ColumnRename}
use Rattle.rename_marks.specs.declared.formula_place.AttributeTable.{AttributeTable}
use Rattle.rename_texts.specs.Laws.{HeightLaw, LexemeLaw, StandsLaw, WrittenLaw}
use Rattle.renamed_documents.specs.RenamingSteps.{naming}
use Rattle.renamed_resources.specs.Renamed.{columns_renamed, names_table}
use Rattle.renamed_rules.specs.FollowingRows.{MayFollow, RowFollows, RowsFollow}
use Rattle.renamed_rules.specs.RenamedRules.{AskedFollows, IsListed, ListsKept}
use Rattle.renaming_bundles.specs.Expanded.{actions_of, expanded}
use Rattle.user_actions.specs.Steps.{type_in}
use Rattle.user_actions.proofs.ResourceLemmas.{grid_resources}
use Rattle.user_attrs.specs.Attributes.{attribute_at}
use Rattle.user_attrs.specs.declared.attribute_rule.AttributeRule.{AttributeRule}
use Rattle.ruled_renames.specs.AttributeLaw.{AttributeReadLaw}
use Rattle.ruled_renames.specs.ListLaw.{RenamedListLaw}
use Rattle.ruled_renames.specs.PlannedRules.{PlannedRowsLaw, after_plan}
use Rattle.ruled_renames.specs.ShownRules.{ShowsRules, ShowsTable}
use Rattle.ruled_renames.proofs.AccessTables.{PutsTexts, SameAccess, behind, changes_put, expanded_both, find_rules, grid_rules, resource_cells, rule_cells, text_put, users_other}
use Rattle.ruled_renames.proofs.AttributeFollowLemmas.{attribute_follows, attribute_kept, listed_at, read_attribute}
use Rattle.ruled_renames.proofs.FormulaFollowLemmas.{formula_follows, read_formula}
use Rattle.ruled_renames.proofs.RenameStepLemmas.{FirstDone, after_first, bundle_valid, columns_other, first_asked, first_done, first_value, moved_rows, moved_values, named_new, plan_actions, table_named, zero_rules}
use Rattle.ruled_renames.proofs.ResourceFollowLemmas.{about_none, about_row, lists_kept, none_claim, resource_follows}
use Rattle.ruled_renames.proofs.ShownRowLemmas.{all_none, all_zipped, at_row, cell_shown, cells_of_row, text_at, text_for, zipped}
use Rattle.ruled_renames.proofs.UpdatedCells.{cell_in, put, put_none}

-- ---- a table as it is shown

-- what holds of each list of cells holds of a row's
each_cells : (P : List CellValue → Type 0) (rows : List ℕ) (css : List (List CellValue)) (r : ℕ) → AllByRecursion P css → length css ≡ length rows → has rows r ≡ true → P (cells_of_row rows css r)
each_cells P [] css r h l there = absurd (false≢true there)
each_cells P (q ∷ rows) [] r h l there = absurd (none_left (length rows) l)
  where
    none_left : (n : ℕ) → 0 ≡ suc n → ⊥
    none_left n e = omega arith
each_cells P (q ∷ rows) (vs ∷ css) r h l there = by (nat_eq q r) there (each_cells P rows css r h.1 (one_less (length css) (length rows) l))
  where
    one_less : (a b : ℕ) → suc a ≡ suc b → a ≡ b
    one_less a b e = omega arith

    by : (b : Bool) → (b || has rows r) ≡ true → (has rows r ≡ true → P (cells_of_row rows css r)) → P (cond b vs (cells_of_row rows css r))
    by true t later = h.0
    by false t later = later t

-- what holds of each row by its columns holds by these columns
of_columns : (ds : List ViewCol) (Q : List ViewCol → List CellValue → Type 0) (rows : List ℕ) (css : List (List CellValue)) → AllByRecursion (λ (w : ShownRow). Q w.columns w.cells) (zipped ds rows css)
    → AllByRecursion (λ (w : ShownRow). w.columns ≡ ds → Q ds w.cells) (zipped ds rows css)
of_columns ds Q rows css all = each_weaker (λ (w : ShownRow). Q w.columns w.cells) (λ (w : ShownRow). w.columns ≡ ds → Q ds w.cells) (λ (w : ShownRow) h e. subst (λ (cs : List ViewCol). Q cs w.cells) e h) (zipped ds rows css) all

-- the text of a cell is UTF-8 where its texts are
cell_text : (c : Option CellValue) → ((t : List ℕ) → c ≡ Some (value.Text t) → IsUtf8 t) → (text : List ℕ) → text_in c ≡ Some text → IsUtf8 text
cell_text None h text e = absurd (cc)
cell_text (Some (value.Text t)) h text e = subst IsUtf8 (same_Some t text e) (h t refl)
cell_text (Some value.Null) h text e = subst IsUtf8 (same_Some [] text e) IsUtf8-nil
cell_text (Some (value.Int n)) h text e = absurd (cc)
cell_text (Some (value.Bool b)) h text e = absurd (cc)
cell_text (Some (value.Date n)) h text e = absurd (cc)
cell_text (Some (value.Rec r)) h text e = absurd (cc)
cell_text (Some (value.RecSet r)) h text e = absurd (cc)
cell_text (Some (value.List is)) h text e = absurd (cc)
cell_text (Some (value.Err k)) h text e = absurd (cc)
cell_text (Some value.Censored) h text e = absurd (cc)

module _ (v : List ViewTable) (s : Document) (t : List ℕ) (h : ShowsTable v s t) (sound : IsSoundGrid (grid_at s t)) (shaped : IsGrid shown_id (grid h.shown)) where
  abbrev pub ds : List ViewCol
  ds = h.shown.columns

  abbrev pub rows : List ℕ
  rows = h.shown.rows

  abbrev pub css : List (List CellValue)
  css = h.shown.cells

  pub rows_are : rows_of v t ≡ zipped ds rows css
  rows_are = ap rows_in h.found ∙ all_zipped h.shown

  pub ascend : IsAscending rows
  ascend = subst IsAscending (sym h.rows) sound.is_grid.ascending

  pub cell_is : (c : List ℕ) (r : ℕ) → has rows r ≡ true → shown_cell ds (cells_of_row rows css r) c ≡ cell_in (grid_at s t) c r
  cell_is c r there =
      cell_shown ds (cells_of_row rows css r) c (each_cells (λ vs. length vs ≡ length ds) rows css r shaped.width shaped.height there)
      ∙ ap (λ b. cond b (Some (cell shown_id (grid h.shown) c r)) None) (h.columns c)
      ∙ by (has_id column_id (grid_at s t).columns c) refl
    where
      here : has (grid_at s t).rows r ≡ true
      here = ap (λ (rs : List ℕ). has rs r) (sym h.rows) ∙ there

      by : (a : Bool) → has_id column_id (grid_at s t).columns c ≡ a → cond a (Some (cell shown_id (grid h.shown) c r)) None ≡ cond (a && has (grid_at s t).rows r) (Some (cell column_id (grid_at s t) c r)) None
      by true e = ap Some (h.cells c r e here) ∙ sym (ap (λ b. cond b (Some (cell column_id (grid_at s t) c r)) None) here)
      by false e = refl

-- ---- the document after the plan

module _ (v : List ViewTable) (m : ColumnRename) (s : Document) (h : IsPlanned v m s) (g : ShowsRules v s) where
  sound_rules : IsSoundGrid (grid_at s rules_id)
  sound_rules = subst IsSoundGrid (sym (grid_rules s h.whole)) (good_from s h.whole).rules_sound

  sound_resources : IsSoundGrid (grid_at s resources_id)
  sound_resources = subst IsSoundGrid (sym (grid_resources s h.whole)) (good_from s h.whole).resources_sound

  -- a table that is shown has a cell for each row and column
  shaped : (t : List ℕ) (x : ShowsTable v s t) → IsGrid shown_id (grid x.shown)
  shaped t x = (found_all shown_table_id (λ (w : ViewTable). IsShown (grid w)) t v x.shown h.shows.view.tables x.found).is_grid

  shaped_rules : IsGrid shown_id (grid g.rules.shown)
  shaped_rules = shaped rules_id g.rules

  shaped_resources : IsGrid shown_id (grid g.resources.shown)
  shaped_resources = shaped resources_id g.resources

  -- the rows of rules and those of resources
  abbrev ws : List ShownRow
  ws = rule_rows v

  abbrev bs : List RuleAbout
  bs = abouts_in (resource_rows v)

  abbrev ts : List AttributeTable
  ts = attributes_in (rule_rows v)

  abbrev formulas : List ViewCol → List CellValue → TextChange
  formulas = formula_changed m bs ts

  abbrev attributes : List ViewCol → List CellValue → TextChange
  attributes = attribute_changed m

  -- the actions in four parts
  abbrev columns_asked : List UserAction
  columns_asked = actions_in (column_parts v m v)

  abbrev formulas_asked : List UserAction
  formulas_asked = updated (codes "aclFormula") (with_changes formulas no_changes ws)

  abbrev attributes_asked : List UserAction
  attributes_asked = updated (codes "userAttributes") (with_changes attributes no_changes ws)

  actions_behind : (xs ys : List Part) → actions_in (xs ++ ys) ≡ actions_in xs ++ actions_in ys
  actions_behind [] ys = refl
  actions_behind (x ∷ xs) ys = ap (λ as'. x.actions ++ as') (actions_behind xs ys) ∙ sym (append_assoc x.actions (actions_in xs) (actions_in ys))

  all_asked : actions_in (parts_of v m) ≡ columns_asked ++ (formulas_asked ++ attributes_asked)
  all_asked =
      actions_behind (column_parts v m v) (rule_parts v m ++ name_parts v m)
      ∙ ap (λ as'. columns_asked ++ (formulas_asked ++ as')) (append-nil attributes_asked)

  -- the documents behind them
  abbrev s1 : Document
  s1 = after_first v m s h

  abbrev s2 : Document
  s2 = apply_all s1 (expanded s1 columns_asked)

  abbrev s3 : Document
  s3 = apply_all s2 (expanded s2 formulas_asked)

  abbrev s4 : Document
  s4 = apply_all s3 (expanded s3 attributes_asked)

  record Parted : Type 0 where
    first : all_valid s (actions_of s (first_asked v m s h)) ≡ true
    columns : all_valid s1 (expanded s1 columns_asked) ≡ true
    formulas_valid : all_valid s2 (expanded s2 formulas_asked) ≡ true
    attributes_valid : all_valid s3 (expanded s3 attributes_asked) ≡ true
    last : s4 ≡ after_plan v m s

  parted : Parted
  parted =
      let a = first_asked v m s h in
      let one = behind s (actions_of s a) (expanded s1 (actions_in (parts_of v m))) (bundle_valid v m s h) in
      let two_is : expanded s1 (actions_in (parts_of v m)) ≡ expanded s1 columns_asked ++ expanded s2 (formulas_asked ++ attributes_asked)
      = ap (expanded s1) all_asked ∙ expanded_both s1 columns_asked (formulas_asked ++ attributes_asked) in
      let two = behind s1 (expanded s1 columns_asked) (expanded s2 (formulas_asked ++ attributes_asked)) (subst (λ (xs : List DocAction). all_valid s1 xs ≡ true) two_is one.then') in
      let three_is = expanded_both s2 formulas_asked attributes_asked in
      let three = behind s2 (expanded s2 formulas_asked) (expanded s3 attributes_asked) (subst (λ (xs : List DocAction). all_valid s2 xs ≡ true) three_is two.then') in
      record {
        first = one.first;
        columns = two.first;
        formulas_valid = three.first;
        attributes_valid = three.then';
        last =
            three.done
            ∙ ap (apply_all s2) (sym three_is)
            ∙ two.done
            ∙ ap (apply_all s1) (sym two_is)
            ∙ one.done
            ∙ ap (λ (xs : List UserAction). apply_all s (expanded s xs)) (sym (plan_actions v m s h));
      }

  whole1 : IsWhole s1
  whole1 = IsWhole-apply_all s (actions_of s (first_asked v m s h)) h.whole parted.first

  whole2 : IsWhole s2
  whole2 = IsWhole-apply_all s1 (expanded s1 columns_asked) whole1 parted.columns

  whole3 : IsWhole s3
  whole3 = IsWhole-apply_all s2 (expanded s2 formulas_asked) whole2 parted.formulas_valid

  whole4 : IsWhole s4
  whole4 = IsWhole-apply_all s3 (expanded s3 attributes_asked) whole3 parted.attributes_valid

  done1 : FirstDone v m s h
  done1 = first_done v m s h parted.first

  done2 : SameAccess s1 s2
  done2 = users_other s1 whole1 columns_asked parted.columns (columns_other v m s h)

  text_column : (d : Document) → IsWhole d → (c : List ℕ) → type_in (record { columns = rules_columns; rows = (rules d).rows; cells = (rules d).cells }) c ≡ ty.Text → type_in (grid_at d rules_id) c ≡ ty.Text
  text_column d whole c e =
      ap (λ (x : Grid ColDef). type_in x c) (grid_rules d whole)
      ∙ ap (λ (cs : List ColDef). type_in (record { columns = cs; rows = (rules d).rows; cells = (rules d).cells }) c) whole.agrees.rules_have
      ∙ e

  done3 : PutsTexts formulas ws (codes "aclFormula") s2 s3
  done3 = changes_put formulas ws (codes "aclFormula") s2 whole2 (text_column s2 whole2 (codes "aclFormula") refl) parted.formulas_valid

  done4 : PutsTexts attributes ws (codes "userAttributes") s3 s4
  done4 = changes_put attributes ws (codes "userAttributes") s3 whole3 (text_column s3 whole3 (codes "userAttributes") refl) parted.attributes_valid

  -- ---- cells of rules

  rules2 : rules s2 ≡ rules s
  rules2 = done2.rules_same ∙ done1.rules_same

  cell3 : (c : List ℕ) (r : ℕ) → cell_in (rules s3) c r ≡ put (cond (bytes_eq (codes "aclFormula") c) (text_put formulas ws (codes "aclFormula") r) None) (cell_in (rules s) c r)
  cell3 c r = done3.puts.cells c r ∙ ap (λ (x : Grid ColDef). put (cond (bytes_eq (codes "aclFormula") c) (text_put formulas ws (codes "aclFormula") r) None) (cell_in x c r)) rules2

  cell4 : (c : List ℕ) (r : ℕ) → rule_cell s4 c r ≡ put (cond (bytes_eq (codes "userAttributes") c) (text_put attributes ws (codes "userAttributes") r) None) (put (cond (bytes_eq (codes "aclFormula") c) (text_put formulas ws (codes "aclFormula") r) None) (rule_cell s c r))
  cell4 c r =
      rule_cells s4 whole4 c r ∙ done4.puts.cells c r
      ∙ ap (put (cond (bytes_eq (codes "userAttributes") c) (text_put attributes ws (codes "userAttributes") r) None)) (cell3 c r ∙ ap (put (cond (bytes_eq (codes "aclFormula") c) (text_put formulas ws (codes "aclFormula") r) None)) (sym (rule_cells s h.whole c r)))

  twice_none : (o : Option CellValue) → put None (put None o) ≡ o
  twice_none o = put_none (put None o) ∙ put_none o

  same_resource : (r : ℕ) → rule_cell s4 (codes "resource") r ≡ rule_cell s (codes "resource") r
  same_resource r = cell4 (codes "resource") r ∙ twice_none (rule_cell s (codes "resource") r)

  same_permissions : (r : ℕ) → rule_cell s4 (codes "permissionsText") r ≡ rule_cell s (codes "permissionsText") r
  same_permissions r = cell4 (codes "permissionsText") r ∙ twice_none (rule_cell s (codes "permissionsText") r)

  same_place : (r : ℕ) → rule_cell s4 (codes "rulePos") r ≡ rule_cell s (codes "rulePos") r
  same_place r = cell4 (codes "rulePos") r ∙ twice_none (rule_cell s (codes "rulePos") r)

  new_formula : (r : ℕ) → rule_cell s4 (codes "aclFormula") r ≡ put (text_put formulas ws (codes "aclFormula") r) (rule_cell s (codes "aclFormula") r)
  new_formula r = cell4 (codes "aclFormula") r ∙ put_none (put (text_put formulas ws (codes "aclFormula") r) (rule_cell s (codes "aclFormula") r))

  new_attribute : (r : ℕ) → rule_cell s4 (codes "userAttributes") r ≡ put (text_put attributes ws (codes "userAttributes") r) (rule_cell s (codes "userAttributes") r)
  new_attribute r = cell4 (codes "userAttributes") r ∙ ap (put (text_put attributes ws (codes "userAttributes") r)) (put_none (rule_cell s (codes "userAttributes") r))

  rows_told : (d : Document) → IsWhole d → rows_in_document d ≡ (rules d).rows
  rows_told d whole = ap (λ (o : Option Table). elim (elim o as (λ _. Option (List ℕ)) [ None ↦ None | Some t ↦ Some t.grid.rows ]) as (λ _. List ℕ) [ None ↦ [] | Some rs ↦ rs ]) (find_rules d whole)

  same_rows : rows_in_document s4 ≡ rows_in_document s
  same_rows = rows_told s4 whole4 ∙ done4.puts.rows ∙ done3.puts.rows ∙ ap (λ (x : Grid ColDef). x.rows) rules2 ∙ sym (rows_told s h.whole)

  -- ---- resources

  resources4 : resources s4 ≡ resources s1
  resources4 = done4.resources_same ∙ done3.resources_same ∙ done2.resources_same

  abbrev gr : Grid ColDef
  gr = grid_at s resources_id

  cell_resource : (c : List ℕ) (q : ℕ) → cell_at s4 resources_id c q ≡ put (cond (bytes_eq (codes "colIds") c) (value_for (moved_rows v m s h) (moved_values v m s h) q) None) (cell_at s resources_id c q)
  cell_resource c q =
      resource_cells s4 whole4 c q
      ∙ ap (λ (x : Grid ColDef). cell_in x c q) resources4
      ∙ done1.puts.cells c q
      ∙ ap (put (cond (bytes_eq (codes "colIds") c) (value_for (moved_rows v m s h) (moved_values v m s h) q) None)) (sym (resource_cells s h.whole c q))

  grid_cell : (c : List ℕ) (q : ℕ) → cell_at s resources_id c q ≡ cell_in gr c q
  grid_cell c q = resource_cells s h.whole c q ∙ ap (λ (x : Grid ColDef). cell_in x c q) (sym (grid_resources s h.whole))

  -- both columns are there
  here : (c : List ℕ) → has_id column_id resources_columns c ≡ true → (q : ℕ) → has gr.rows q ≡ true → cell_in gr c q ≡ Some (cell column_id gr c q)
  here c e q there =
      ap (λ b. cond (b && has gr.rows q) (Some (cell column_id gr c q)) None)
      (ap (λ (x : Grid ColDef). has_id column_id x.columns c) (grid_resources s h.whole) ∙ ap (λ (cs : List ColDef). has_id column_id cs c) h.whole.agrees.resources_have ∙ e)
      ∙ ap (λ b. cond b (Some (cell column_id gr c q)) None) there

  no_cell : (c : List ℕ) (q : ℕ) → has gr.rows q ≡ false → cell_in gr c q ≡ None
  no_cell c q e = ap (λ b. cond (has_id column_id gr.columns c && b) (Some (cell column_id gr c q)) None) e ∙ by (has_id column_id gr.columns c)
    where
      by : (b : Bool) → cond (b && false) (Some (cell column_id gr c q)) None ≡ None
      by true = refl
      by false = refl

  module _ (lists : RenamedListLaw) where
    resource_after : (q : ℕ) → resource_at s4 q ≡ option_map (moved_by (naming m)) (resource_at s q)
    resource_after q = by (has gr.rows q) refl
      where
        table_cell : cell_at s4 resources_id (codes "tableId") q ≡ cell_at s resources_id (codes "tableId") q
        table_cell = cell_resource (codes "tableId") q ∙ put_none (cell_at s resources_id (codes "tableId") q)

        by : (b : Bool) → has gr.rows q ≡ b → resource_at s4 q ≡ option_map (moved_by (naming m)) (resource_at s q)
        by true e =
            let t : CellValue = cell column_id gr (codes "tableId") q in
            let x : CellValue = cell column_id gr (codes "colIds") q in
            let t_is : cell_at s resources_id (codes "tableId") q ≡ Some t = grid_cell (codes "tableId") q ∙ here (codes "tableId") refl q e in
            let x_is : cell_at s resources_id (codes "colIds") q ≡ Some x = grid_cell (codes "colIds") q ∙ here (codes "colIds") refl q e in
            let x_now : cell_at s4 resources_id (codes "colIds") q ≡ Some (cond (names_table m.table t) (columns_renamed m.old m.new x) x)
            = cell_resource (codes "colIds") q ∙ ap (put (value_for (moved_rows v m s h) (moved_values v m s h) q)) x_is ∙ first_value v m s h q e x refl in
            ap (λ o. resource_from (text_in o) (text_in (cell_at s4 resources_id (codes "colIds") q))) (table_cell ∙ t_is)
            ∙ ap (λ o. resource_from (text_in (Some t)) (text_in o)) x_now
            ∙ resource_follows lists m (named_new v m s h) h.new_is_utf8 (table_named v m s h) t x (λ u i. g.resource_texts (codes "colIds") q u (x_is ∙ ap Some i))
            ∙ ap (λ o. option_map (moved_by (naming m)) (resource_from (text_in (Some t)) (text_in o))) (sym x_is)
            ∙ ap (λ o. option_map (moved_by (naming m)) (resource_from (text_in o) (text_in (cell_at s resources_id (codes "colIds") q)))) (sym t_is)
        by false e =
            let none : cell_at s resources_id (codes "tableId") q ≡ None = grid_cell (codes "tableId") q ∙ no_cell (codes "tableId") q e in
            ap (λ o. resource_from (text_in o) (text_in (cell_at s4 resources_id (codes "colIds") q))) (table_cell ∙ none)
            ∙ ap (λ o. option_map (moved_by (naming m)) (resource_from (text_in o) (text_in (cell_at s resources_id (codes "colIds") q)))) (sym none)

    named_after : (r : ℕ) → resource_named s4 r ≡ option_map (moved_by (naming m)) (resource_named s r)
    named_after r =
        ap (λ c. option_and_then (resource_at s4) (row_number (number_in c))) (same_resource r)
        ∙ by (row_number (number_in (rule_cell s (codes "resource") r)))
      where
        by : (o : Option ℕ) → option_and_then (resource_at s4) o ≡ option_map (moved_by (naming m)) (option_and_then (resource_at s) o)
        by None = refl
        by (Some q) = resource_after q

  -- what the view shows of a resource is what the document says
  shown_resource : (q : ℕ) → has (rows v s resources_id g.resources sound_resources shaped_resources) q ≡ true
      → resource_shown (ds v s resources_id g.resources sound_resources shaped_resources) (cells_of_row (rows v s resources_id g.resources sound_resources shaped_resources) (css v s resources_id g.resources sound_resources shaped_resources) q) ≡ resource_at s q
  shown_resource q there =
      ap (λ o. resource_from (text_in o) (text_shown (ds v s resources_id g.resources sound_resources shaped_resources) (cells_of_row (rows v s resources_id g.resources sound_resources shaped_resources) (css v s resources_id g.resources sound_resources shaped_resources) q) (codes "colIds")))
      (cell_is v s resources_id g.resources sound_resources shaped_resources (codes "tableId") q there ∙ sym (grid_cell (codes "tableId") q))
      ∙ ap (λ o. resource_from (text_in (cell_at s resources_id (codes "tableId") q)) (text_in o))
      (cell_is v s resources_id g.resources sound_resources shaped_resources (codes "colIds") q there ∙ sym (grid_cell (codes "colIds") q))

  absent_resource : (q : ℕ) → has gr.rows q ≡ false → resource_at s q ≡ None
  absent_resource q e = ap (λ o. resource_from (text_in o) (text_in (cell_at s resources_id (codes "colIds") q))) (grid_cell (codes "tableId") q ∙ no_cell (codes "tableId") q e)

  about_is : (q : ℕ) → about_at bs q ≡ option_map tables_in (resource_at s q)
  about_is q =
      ap (λ x. about_at (abouts_in x) q) (rows_are v s resources_id g.resources sound_resources shaped_resources)
      ∙ by (has (rows v s resources_id g.resources sound_resources shaped_resources) q) refl
    where
      shown : List ShownRow
      shown = zipped (ds v s resources_id g.resources sound_resources shaped_resources) (rows v s resources_id g.resources sound_resources shaped_resources) (css v s resources_id g.resources sound_resources shaped_resources)

      by : (b : Bool) → has (rows v s resources_id g.resources sound_resources shaped_resources) q ≡ b → about_at (abouts_in shown) q ≡ option_map tables_in (resource_at s q)
      by true e = about_row (ds v s resources_id g.resources sound_resources shaped_resources) (rows v s resources_id g.resources sound_resources shaped_resources) (css v s resources_id g.resources sound_resources shaped_resources) q (ascend v s resources_id g.resources sound_resources shaped_resources) e ∙ ap (option_map tables_in) (shown_resource q e)
      by false e =
          about_none (ds v s resources_id g.resources sound_resources shaped_resources) (rows v s resources_id g.resources sound_resources shaped_resources) (css v s resources_id g.resources sound_resources shaped_resources) q e
          ∙ ap (option_map tables_in) (sym (absent_resource q (ap (λ (rs : List ℕ). has rs q) (sym g.resources.rows) ∙ e)))

  -- no list of columns has the new name
  none_claimed : claims m 0 (resource_rows v) ≡ 0
  none_claimed = (zero_rules v m s h).1.1.0

  kept_at : (q : ℕ) → ListsKept m (resource_at s q)
  kept_at q = by (has (rows v s resources_id g.resources sound_resources shaped_resources) q) refl
    where
      by : (b : Bool) → has (rows v s resources_id g.resources sound_resources shaped_resources) q ≡ b → ListsKept m (resource_at s q)
      by true e =
          lists_kept m (resource_at s q) (ap (claims_new m) (sym (shown_resource q e)) ∙
          at_row (ds v s resources_id g.resources sound_resources shaped_resources) (λ vs. claims_new m (resource_shown (ds v s resources_id g.resources sound_resources shaped_resources) vs) ≡ false) (rows v s resources_id g.resources sound_resources shaped_resources) (css v s resources_id g.resources sound_resources shaped_resources) q
          (of_columns (ds v s resources_id g.resources sound_resources shaped_resources) (λ cs vs. claims_new m (resource_shown cs vs) ≡ false) (rows v s resources_id g.resources sound_resources shaped_resources) (css v s resources_id g.resources sound_resources shaped_resources)
          (subst (AllByRecursion (λ (w : ShownRow). claims_new m (resource_shown w.columns w.cells) ≡ false)) (rows_are v s resources_id g.resources sound_resources shaped_resources) (none_claim m (resource_rows v) none_claimed))) e)
      by false e = subst (ListsKept m) (sym (absent_resource q (ap (λ (rs : List ℕ). has rs q) (sym g.resources.rows) ∙ e))) tt

  kept_named : (r : ℕ) → ListsKept m (resource_named s r)
  kept_named r = by (row_number (number_in (rule_cell s (codes "resource") r)))
    where
      by : (o : Option ℕ) → ListsKept m (option_and_then (resource_at s) o)
      by None = tt
      by (Some q) = kept_at q

  -- ---- one row of the rules

  abbrev dr : List ViewCol
  dr = ds v s rules_id g.rules sound_rules shaped_rules

  abbrev rr : List ℕ
  rr = rows v s rules_id g.rules sound_rules shaped_rules

  abbrev cr : List (List CellValue)
  cr = css v s rules_id g.rules sound_rules shaped_rules

  abbrev shown_rules : List ShownRow
  shown_rules = zipped dr rr cr

  rules_shown : rule_rows v ≡ shown_rules
  rules_shown = rows_are v s rules_id g.rules sound_rules shaped_rules

  none_of : (f : List ViewCol → List CellValue → TextChange) → (with_changes f no_changes ws).unresolved ≡ 0 → (r : ℕ) → has rr r ≡ true → (f dr (cells_of_row rr cr r)).unresolved ≡ 0
  none_of f e r there =
      at_row dr (λ vs. (f dr vs).unresolved ≡ 0) rr cr r
      (of_columns dr (λ cs vs. (f cs vs).unresolved ≡ 0) rr cr (subst (AllByRecursion (λ (w : ShownRow). (f w.columns w.cells).unresolved ≡ 0)) rules_shown (all_none f ws e))) there

  put_of : (f : List ViewCol → List CellValue → TextChange) (c : List ℕ) (r : ℕ) → has rr r ≡ true → text_put f ws c r ≡ option_map value.Text (f dr (cells_of_row rr cr r)).text
  put_of f c r there = ap (option_map value.Text) (ap (λ x. text_for f x r) rules_shown ∙ text_at f dr rr cr r (ascend v s rules_id g.rules sound_rules shaped_rules) there)

  module _ (r : ℕ) (there : has rr r ≡ true) where
    abbrev vs : List CellValue
    vs = cells_of_row rr cr r

    rule_shown : (c : List ℕ) → shown_cell dr vs c ≡ rule_cell s c r
    rule_shown c = cell_is v s rules_id g.rules sound_rules shaped_rules c r there ∙ ap (λ (x : Grid ColDef). cell_in x c r) (grid_rules s h.whole) ∙ sym (rule_cells s h.whole c r)

    about_named : about_of bs dr vs ≡ option_map tables_in (resource_named s r)
    about_named = ap (λ c. option_and_then (about_at bs) (row_number (number_in c))) (rule_shown (codes "resource")) ∙ by (row_number (number_in (rule_cell s (codes "resource") r)))
      where
        by : (o : Option ℕ) → option_and_then (about_at bs) o ≡ option_map tables_in (option_and_then (resource_at s) o)
        by None = refl
        by (Some q) = about_is q

    abbrev formula_cell : Option CellValue
    formula_cell = rule_cell s (codes "aclFormula") r

    abbrev formula_now : TextChange
    formula_now = scoped_change m ts (option_map tables_in (resource_named s r)) (text_in formula_cell)

    formula_is : formulas dr vs ≡ formula_now
    formula_is =
        ap (λ a. scoped_change m ts a (text_shown dr vs (codes "aclFormula"))) about_named
        ∙ ap (λ c. scoped_change m ts (option_map tables_in (resource_named s r)) (text_in c)) (rule_shown (codes "aclFormula"))

    abbrev attribute_cell : Option CellValue
    attribute_cell = rule_cell s (codes "userAttributes") r

    attribute_is : attribute_shown dr vs ≡ read_attribute attribute_cell
    attribute_is = ap read_attribute (rule_shown (codes "userAttributes"))

    may_follow : MayFollow m ts (attribute_at s r)
    may_follow = by (read_attribute attribute_cell) refl
      where
        by : (o : Option AttributeRule) → read_attribute attribute_cell ≡ o → MayFollow m ts o
        by None e = tt
        by (Some a) e = (
          attribute_kept m (named_new v m s h) h.new_is_utf8 attribute_cell a e
              (ap (λ o. (attribute_change m o).unresolved) (sym (attribute_is ∙ e)) ∙ none_of attributes (zero_rules v m s h).1.0 r there),
          subst (λ (x : List ShownRow). IsListed (attributes_in x) a) (sym rules_shown) (listed_at dr rr cr r a there (attribute_is ∙ e)),
        )

    row_follows : WrittenLaw → LexemeLaw → HeightLaw → StandsLaw → RewrittenRuleLaw → RenamedListLaw → AttributeReadLaw → RowFollows m ts s s4 r
    row_follows written lexemes height stands rewrites lists reads = record {
      resource = named_after lists r;
      lists = kept_named r;
      permissions = same_permissions r;
      formula = subst (AskedFollows m ts (resource_named s r) (read_formula formula_cell))
          (sym (ap read_formula (new_formula r ∙ ap (λ o. put o formula_cell) (put_of formulas (codes "aclFormula") r there ∙ ap (λ c. option_map value.Text c.text) formula_is))))
          (formula_follows written lexemes height stands rewrites m (named_new v m s h) h.new_is_utf8 ts (resource_named s r) formula_cell (cell_text formula_cell (g.rule_texts (codes "aclFormula") r))
          (ap (λ c. c.unresolved) (sym formula_is) ∙ none_of formulas (zero_rules v m s h).0 r there));
      attribute =
          ap read_attribute (new_attribute r ∙ ap (λ o. put o attribute_cell) (put_of attributes (codes "userAttributes") r there ∙ ap (λ o. option_map value.Text (attribute_change m o).text) attribute_is))
          ∙ attribute_follows m (named_new v m s h) h.new_is_utf8 reads attribute_cell (g.attribute_names r);
      kept = may_follow;
    }

  rows_follow : WrittenLaw → LexemeLaw → HeightLaw → StandsLaw → RewrittenRuleLaw → RenamedListLaw → AttributeReadLaw → RowsFollow m ts s (after_plan v m s)
  rows_follow written lexemes height stands rewrites lists reads =
      subst (λ (d : Document). RowsFollow m ts s d) parted.last (record {
        rows = same_rows;
        places = λ r. ap number_in (same_place r);
        each = each_has (RowFollows m ts s s4) (rows_in_document s) (λ r there. row_follows r (ap (λ (rs : List ℕ). has rs r) (shown_rows ∙ sym (rows_told s h.whole)) ∙ there) written lexemes height stands rewrites lists reads);
      })
    where
      shown_rows : rr ≡ (rules s).rows
      shown_rows = g.rules.rows ∙ ap (λ (x : Grid ColDef). x.rows) (grid_rules s h.whole)

pub planned_rows : WrittenLaw → LexemeLaw → HeightLaw → StandsLaw → RewrittenRuleLaw → RenamedListLaw → AttributeReadLaw → PlannedRowsLaw
planned_rows written lexemes height stands rewrites lists reads v m s h g = rows_follow v m s h g written lexemes height stands rewrites lists reads
