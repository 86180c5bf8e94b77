-- Sums and quiet steps where a column changes.
use Rattle.std.proofs.Common.{ℕ, Bool, true, false, cond, not, ◌&&◌, ◌||◌, ◌+◌, ◌-◌, ◌≤◌, List, [], ◌∷◌, ◌++◌, map, length, ◌≡◌, refl, sym, ap, subst, ◌∙◌, Option, Some, None, arith}
use Rattle.std.proofs.lemmas.Bool.{and_parts, leb-true}
use Rattle.std.specs.List.{list_all}
use Rattle.std.specs.Option.{option_map}
use Rattle.std.specs.Str.{bytes_eq}
use Rattle.cell_types.specs.declared.value.CellValue.{CellValue}
use Rattle.cell_types.specs.declared.value.CellValue.TheVariants.{Null}
use Rattle.cell_types.specs.Conversion.{default_value, fit}
use Rattle.doc_model.specs.declared.action.DocAction.{DocAction}
use Rattle.doc_model.specs.declared.action.DocAction.TheVariants as action
use Rattle.doc_model.specs.declared.action.Step.{Step}
use Rattle.doc_model.specs.declared.column.CellColumn.{CellColumn}
use Rattle.doc_model.specs.declared.column.ColDef.{ColDef}
use Rattle.doc_model.specs.declared.column.ColInfo.{ColInfo}
use Rattle.doc_model.specs.declared.user_action.UserCol.{UserCol}
use Rattle.doc_model.specs.Apply.{all_valid, apply, apply_all, with_column, with_info}
use Rattle.doc_model.specs.ByIds.{find_id, has_id}
use Rattle.doc_model.specs.Column.{column_id, is_empty, is_short, is_sound_info, is_sound_type}
use Rattle.doc_model.specs.CountLaws.{Sums, bytes_of_formula, column_weight, nothing, sums_added, sums_removed}
use Rattle.doc_model.specs.Counts.{row_weight, total, value_weight}
use Rattle.doc_model.specs.Document.{Document, Table, on_grid, table_id, with_table}
use Rattle.doc_model.specs.DocumentLaws.{IsWhole}
use Rattle.doc_model.specs.Grid.{Grid, cell}
use Rattle.doc_model.specs.Records.{update_rows}
use Rattle.doc_model.specs.Schema.{plain_tables, resources, rules, with_schema}
use Rattle.doc_model.specs.Valid.{all_null, schema_table, valid}
use Rattle.doc_model.specs.ViewEdits.{if_any}
use Rattle.doc_model.proofs.ByIdsLaws.{bytes_itself}
use Rattle.doc_model.proofs.ByRowLaws.{find-with_id}
use Rattle.doc_model.proofs.Choices.{both_true, cond_true, parts_3}
use Rattle.doc_model.proofs.ColumnsKept.{cell-with_info}
use Rattle.doc_model.proofs.DocumentParts.{applied, find_plain, passes_parts, schema_table_parts}
use Rattle.doc_model.proofs.InverseLaws.{IsWhole-apply}
use Rattle.doc_model.proofs.TotalsLaws.{sum_of}
use Rattle.doc_model.proofs.WholeLaws.{IsPlain}
use Rattle.doc_readers.specs.Parts.{grid_at}
use Rattle.action_limits.specs.declared.limits.Counted.{Counted}
use Rattle.action_limits.specs.Capped.{all_moved, all_moved_at, capped, has_named, is_there, moved_by}
use Rattle.action_limits.specs.Left.{is_quiet}
use Rattle.user_actions.specs.CellUpdates.{column_changed, rows_changed, update_changed}
use Rattle.user_actions.specs.Columns.{info_said}
use Rattle.user_actions.specs.Marked.{direct, indirect}
use Rattle.user_actions.specs.Modified.{modified, modified_to, same_info}
use Rattle.user_actions.specs.StepLaws.{action_of}
use Rattle.action_limits.proofs.ClearingMoves.{IsLess, exact_after}
use Rattle.action_limits.proofs.ExpansionLemmas.{IsExact, TellsSums, any_there, any_told, has_named-valid, none_told, one_told}

-- the sums after steps, each taken at the document before it or at the first one
pub record TellsSteps (s : Document) (m : Counted) (steps : List Step) : Type 0 where
  pub there : list_all (is_there s) steps ≡ true
  pub alike : all_moved_at s m steps ≡ all_moved s m steps
  pub sums : TellsSums (all_moved s m steps) (apply_all s (map action_of steps))

pub few_alike : (s : Document) (m : Counted) (steps : List Step) → length steps ≤ 1 → all_moved_at s m steps ≡ all_moved s m steps
few_alike s m [] few = refl
few_alike s m (x ∷ []) few = refl
few_alike s m (x ∷ y ∷ steps) few = absurd (omega arith)

-- no step or one
pub any_steps : (s : Document) (m : Counted) (steps : List Step) → length steps ≤ 1 → IsWhole s → IsExact m s → all_valid s (map action_of steps) ≡ true → TellsSteps s m steps
any_steps s m steps few whole exact v = record {
  there = any_there s steps few v;
  alike = few_alike s m steps few;
  sums = any_told s m steps few whole v exact;
}

-- ---- what a step takes behind another one

total_ext : (f g : ℕ → ℕ) (rows : List ℕ) → ((r : ℕ) → f r ≡ g r) → sum_of f rows ≡ sum_of g rows
total_ext f g [] h = refl
total_ext f g (r ∷ rows) h = ap (λ n. n + sum_of f rows) (h r) ∙ ap (λ n. g r + n) (total_ext f g rows h)

find_modified : (r u : Grid ColDef) (p : List Table) (table column : List ℕ) (info : ColInfo) → valid (with_schema r u p) (action.ModifyColumn table column info) ≡ true
    → find_id table_id table (apply (with_schema r u p) (action.ModifyColumn table column info)) ≡ option_map (on_grid (with_column column (with_info info))) (find_id table_id table (with_schema r u p))
find_modified r u p table column info v =
    let s : Document = with_schema r u p in
    let f : Table → Table = on_grid (with_column column (with_info info)) in
    let parts : (t : Table) × ((schema_table s table ≡ Some t) × ((has_id column_id t.grid.columns column && is_sound_info info && (not info.is_formula || all_null t.grid column)) ≡ true))
    = passes_parts (schema_table s table) (λ t. has_id column_id t.grid.columns column && is_sound_info info && (not info.is_formula || all_null t.grid column)) v in
    let at : IsPlain table × (find_id table_id table p ≡ Some parts.0) = schema_table_parts r u p table parts.0 parts.1.0 in
    ap (find_id table_id table) (applied s (action.ModifyColumn table column info) v)
    ∙ find_plain r u (with_table table f p) table at.0
    ∙ find-with_id table_id table f (λ x. refl) p table
    ∙ cond_true (bytes_eq table table) (option_map f (find_id table_id table p)) (find_id table_id table p) (bytes_itself table)
    ∙ ap (option_map f) (sym (find_plain r u p table at.0))

abbrev update_gone : List ℕ → List CellColumn → Option Table → Sums
update_gone rows ks o = elim o [ None ↦ nothing | Some t ↦ record { tables = 0; cells = 0; weight = total (map (λ (k : CellColumn). column_weight t.grid rows k.id) ks) } ]

weight_modified : (column : List ℕ) (info : ColInfo) (g : Grid ColDef) (rows : List ℕ) (ks : List CellColumn)
    → total (map (λ (k : CellColumn). column_weight (with_column column (with_info info) g) rows k.id) ks) ≡ total (map (λ (k : CellColumn). column_weight g rows k.id) ks)
weight_modified column info g rows [] = refl
weight_modified column info g rows (k ∷ ks) =
    ap (λ n. n + total (map (λ (k : CellColumn). column_weight (with_column column (with_info info) g) rows k.id) ks))
    (total_ext (λ r. value_weight (cell column_id (with_column column (with_info info) g) k.id r)) (λ r. value_weight (cell column_id g k.id r)) rows (λ r. ap value_weight (cell-with_info column info g k.id r)))
    ∙ ap (λ n. column_weight g rows k.id + n) (weight_modified column info g rows ks)

-- the cells of a column weigh the same after it
sums_removed-modified : (s : Document) → IsWhole s → (table column : List ℕ) (info : ColInfo) (rows : List ℕ) (ks : List CellColumn) → valid s (action.ModifyColumn table column info) ≡ true
    → sums_removed (apply s (action.ModifyColumn table column info)) (action.BulkUpdate table rows ks) ≡ sums_removed s (action.BulkUpdate table rows ks)
sums_removed-modified s whole table column info rows ks v =
    ap (update_gone rows ks)
    (subst (λ d. valid d (action.ModifyColumn table column info) ≡ true → find_id table_id table (apply d (action.ModifyColumn table column info)) ≡ option_map (on_grid (with_column column (with_info info))) (find_id table_id table d))
    (sym whole.agrees.schema) (find_modified (resources s) (rules s) (plain_tables s) table column info) v)
    ∙ elim (find_id table_id table s) as (λ o. update_gone rows ks (option_map (on_grid (with_column column (with_info info))) o) ≡ update_gone rows ks o) [
      | None ↦ refl
      | Some t ↦ ap (λ n. let w : Sums = record { tables = 0; cells = 0; weight = n } in w) (weight_modified column info t.grid rows ks)
    ]

-- a column's formula is the same behind an update
sums_removed-updated : (s : Document) (table column : List ℕ) (info : ColInfo) (rows : List ℕ) (ks : List CellColumn) → valid s (action.BulkUpdate table rows ks) ≡ true
    → sums_removed (apply s (action.BulkUpdate table rows ks)) (action.ModifyColumn table column info) ≡ sums_removed s (action.ModifyColumn table column info)
sums_removed-updated s table column info rows ks v =
    let f : Table → Table = on_grid (update_rows column_id rows ks) in
    let gone : Option Table → Sums = λ (o : Option Table). elim o as (λ _. Sums) [ None ↦ nothing | Some t ↦ record { tables = 0; cells = 0; weight = bytes_of_formula t.grid column } ] in
    ap (λ d. sums_removed d (action.ModifyColumn table column info)) (applied s (action.BulkUpdate table rows ks) v)
    ∙ ap gone (find-with_id table_id table f (λ x. refl) s table ∙ cond_true (bytes_eq table table) (option_map f (find_id table_id table s)) (find_id table_id table s) (bytes_itself table))
    ∙ elim (find_id table_id table s) as (λ o. gone (option_map f o) ≡ gone o) [
      | None ↦ refl
      | Some t ↦ refl
    ]

-- ---- what a first step gives

-- a data column has no formula
formula_none : (s : Document) (table column : List ℕ) (info : ColInfo) → info.is_formula ≡ false → valid s (action.ModifyColumn table column info) ≡ true → length info.formula ≤ 0
formula_none s table column info data' v =
    let test : Table → Bool = λ t. has_id column_id t.grid.columns column && is_sound_info info && (not info.is_formula || all_null t.grid column) in
    let p : (t : Table) × ((schema_table s table ≡ Some t) × (test t ≡ true)) = passes_parts (schema_table s table) test v in
    let sound : is_sound_info info ≡ true = (parts_3 (has_id column_id p.0.grid.columns column) (is_sound_info info) (not info.is_formula || all_null p.0.grid column) p.1.1).1 in
    let none : (info.is_formula || is_empty info.formula) ≡ true = (parts_3 (is_sound_type info.ty) (is_short info.formula) (info.is_formula || is_empty info.formula) sound).2 in
    leb-true (length info.formula) 0 (sym (ap (λ b. b || is_empty info.formula) data') ∙ none)

modify_less : (s : Document) (table column : List ℕ) (info : ColInfo) → length info.formula ≤ 0 → IsLess s (action.ModifyColumn table column info)
modify_less s table column info none = record { tables = omega arith; cells = omega arith; weight = omega (arith, none) }

weight_nulls : (rows : List ℕ) → row_weight (map (λ _. Null) rows) ≡ 0
weight_nulls [] = refl
weight_nulls (r ∷ rows) = ap (λ n. 0 + n) (weight_nulls rows)

nulls_less : (s : Document) (table : List ℕ) (g : Grid ColDef) (c : List ℕ) (rows : List ℕ) → IsLess s (action.BulkUpdate table rows (column_changed g c (λ _. Null) rows ∷ []))
nulls_less s table g c rows = let none : row_weight (map (λ _. Null) rows) ≡ 0 = weight_nulls rows in record { tables = omega arith; cells = omega arith; weight = omega (arith, none) }

-- ---- two steps, of which the first gives no more than it takes

module _ (s : Document) (m : Counted) (whole : IsWhole s) (exact : IsExact m s) (x y : Step) (less : IsLess s x.action) (taken : sums_removed (apply s x.action) y.action ≡ sums_removed s y.action)
    (given : sums_added s y.action ≡ sums_added (apply s x.action) y.action) (here : has_named s x.action ≡ true) (there : has_named s y.action ≡ true) where
  two_alike : moved_by s (moved_by s m x.action) y.action ≡ moved_by (apply s x.action) (moved_by s m x.action) y.action
  two_alike =
      let between : Counted = moved_by s m x.action in
      let after : Sums → Sums → Counted = λ g c. record {
        tables = capped (between.tables - capped g.tables + capped c.tables);
        columns = between.columns;
        rows = between.rows;
        row_id = between.row_id;
        cells = capped (between.cells - capped g.cells + capped c.cells);
        weight = capped (between.weight - capped g.weight + capped c.weight);
      } in
      ap (λ g. after g (sums_added s y.action)) (sym taken) ∙ ap (λ c. after (sums_removed (apply s x.action) y.action) c) given

  two_told : all_valid s (map action_of (x ∷ y ∷ [])) ≡ true → TellsSteps s m (x ∷ y ∷ [])
  two_told v =
      let parts : (valid s x.action ≡ true) × ((valid (apply s x.action) y.action && true) ≡ true) = and_parts (valid s x.action) (valid (apply s x.action) y.action && true) v in
      let next : valid (apply s x.action) y.action ≡ true = (and_parts (valid (apply s x.action) y.action) true parts.1).0 in
      record {
        there = both_true (has_named s x.action) (has_named s y.action && true) here (both_true (has_named s y.action) true there refl);
        alike = two_alike;
        sums = one_told (apply s x.action) y.action (moved_by s m x.action) (IsWhole-apply s x.action whole parts.0) next (exact_after s x.action m whole parts.0 exact less);
      }

unless_told : (s : Document) (m : Counted) → IsExact m s → (b : Bool) (steps : List Step) → (all_valid s (map action_of steps) ≡ true → TellsSteps s m steps) → all_valid s (map action_of (cond b [] steps)) ≡ true → TellsSteps s m (cond b [] steps)
unless_told s m exact true steps h v = record { there = refl; alike = refl; sums = none_told s m exact }
unless_told s m exact false steps h v = h v

-- ---- the steps of a column that changes

module _ (s : Document) (m : Counted) (whole : IsWhole s) (exact : IsExact m s) (table column : List ℕ) (info : ColInfo) where
  abbrev modify : DocAction
  modify = action.ModifyColumn table column info

  abbrev update : List ℕ → List CellColumn → DocAction
  update rows ks = action.BulkUpdate table rows ks

  -- a data column, and then its cells
  filled_told : (rows : List ℕ) (ks : List CellColumn) (some : List ℕ) → info.is_formula ≡ false → all_valid s (map action_of (direct modify ∷ if_any some (indirect (update rows ks)))) ≡ true
      → TellsSteps s m (direct modify ∷ if_any some (indirect (update rows ks)))
  filled_told rows ks [] data' v = any_steps s m (direct modify ∷ []) (omega arith) whole exact v
  filled_told rows ks (q ∷ some) data' v =
      let first : valid s modify ≡ true = (and_parts (valid s modify) (valid (apply s modify) (update rows ks) && true) v).0 in
      let there : has_named s modify ≡ true = has_named-valid s modify first in
      two_told s m whole exact (direct modify) (indirect (update rows ks)) (modify_less s table column info (formula_none s table column info data' first))
      (sums_removed-modified s whole table column info rows ks first) refl there there v

  -- null cells, and then a formula column
  emptied_told : (rows : List ℕ) (ks : List CellColumn) (some : List ℕ) → IsLess s (update rows ks) → all_valid s (map action_of (if_any some (indirect (update rows ks)) ++ direct modify ∷ [] ++ [])) ≡ true
      → TellsSteps s m (if_any some (indirect (update rows ks)) ++ direct modify ∷ [] ++ [])
  emptied_told rows ks [] less v = any_steps s m (direct modify ∷ []) (omega arith) whole exact v
  emptied_told rows ks (q ∷ some) less v =
      let first : valid s (update rows ks) ≡ true = (and_parts (valid s (update rows ks)) (valid (apply s (update rows ks)) modify && true) v).0 in
      let there : has_named s (update rows ks) ≡ true = has_named-valid s (update rows ks) first in
      two_told s m whole exact (indirect (update rows ks)) (direct modify) less (sums_removed-updated s table column info rows ks first) refl there there v

module _ (s : Document) (m : Counted) (whole : IsWhole s) (exact : IsExact m s) (table : List ℕ) (g : Grid ColDef) (d : ColDef) (info : ColInfo) where
  abbrev updated : (CellValue → CellValue) → List Step
  updated f = update_changed table g d.id f g.rows

  abbrev steps_by : Bool → Bool → List Step
  steps_by was is =
      cond (is && not was) (updated (λ _. Null)) [] ++ direct (action.ModifyColumn table d.id info) ∷ [] ++ cond is [] (cond was (updated (λ _. default_value info.ty)) (updated (fit info.ty)))

  each_told : (was is : Bool) → info.is_formula ≡ is → all_valid s (map action_of (steps_by was is)) ≡ true → TellsSteps s m (steps_by was is)
  each_told true true e v = any_steps s m (direct (action.ModifyColumn table d.id info) ∷ []) (omega arith) whole exact v
  each_told false true e v =
      let rows : List ℕ = rows_changed g d.id (λ _. Null) g.rows in
      emptied_told s m whole exact table d.id info rows (column_changed g d.id (λ _. Null) rows ∷ []) rows (nulls_less s table g d.id rows) v
  each_told true false e v =
      let f : CellValue → CellValue = λ _. default_value info.ty in
      let rows : List ℕ = rows_changed g d.id f g.rows in
      filled_told s m whole exact table d.id info rows (column_changed g d.id f rows ∷ []) rows e v
  each_told false false e v =
      let rows : List ℕ = rows_changed g d.id (fit info.ty) g.rows in
      filled_told s m whole exact table d.id info rows (column_changed g d.id (fit info.ty) rows ∷ []) rows e v

  pub modified_to_told : all_valid s (map action_of (modified_to table g d info)) ≡ true → TellsSteps s m (modified_to table g d info)
  modified_to_told = unless_told s m exact (same_info d.info info) (steps_by d.info.is_formula info.is_formula) (each_told d.info.is_formula info.is_formula refl)

pub modified_told : (s : Document) (m : Counted) → IsWhole s → IsExact m s → (table : List ℕ) (c : UserCol) → all_valid s (map action_of (modified table (grid_at s table) c)) ≡ true → TellsSteps s m (modified table (grid_at s table) c)
modified_told s m whole exact table c v =
    let g : Grid ColDef = grid_at s table in
    elim (find_id column_id c.id g.columns) as (λ (o : Option ColDef). let steps : List Step = elim o as (λ _. List Step) [ None ↦ [] | Some d ↦ modified_to table g d (info_said d.info c) ] in
    all_valid s (map action_of steps) ≡ true → TellsSteps s m steps) [
      | None ↦ λ _. record { there = refl; alike = refl; sums = none_told s m exact }
      | Some d ↦ modified_to_told s m whole exact table g d (info_said d.info c)
    ] v

-- ---- they leave each table as many rows and columns as it has

abbrev AreQuiet : List Step → Type 0
AreQuiet steps = list_all (λ (x : Step). is_quiet x.action) steps ≡ true

quiet_each : (was is : Bool) (rows rows' rows'' : List ℕ) (x m y z : Step) → is_quiet x.action ≡ true → is_quiet m.action ≡ true → is_quiet y.action ≡ true → is_quiet z.action ≡ true
    → AreQuiet (cond (is && not was) (if_any rows x) [] ++ m ∷ [] ++ cond is [] (cond was (if_any rows' y) (if_any rows'' z)))
quiet_each true true rows rows' rows'' x m y z a b c d = both_true (is_quiet m.action) true b refl
quiet_each false true [] rows' rows'' x m y z a b c d = both_true (is_quiet m.action) true b refl
quiet_each false true (q ∷ rows) rows' rows'' x m y z a b c d = both_true (is_quiet x.action) (is_quiet m.action && true) a (both_true (is_quiet m.action) true b refl)
quiet_each true false rows [] rows'' x m y z a b c d = both_true (is_quiet m.action) true b refl
quiet_each true false rows (q ∷ rows') rows'' x m y z a b c d = both_true (is_quiet m.action) (is_quiet y.action && true) b (both_true (is_quiet y.action) true c refl)
quiet_each false false rows rows' [] x m y z a b c d = both_true (is_quiet m.action) true b refl
quiet_each false false rows rows' (q ∷ rows'') x m y z a b c d = both_true (is_quiet m.action) (is_quiet z.action && true) b (both_true (is_quiet z.action) true d refl)

quiet_unless : (b : Bool) (steps : List Step) → AreQuiet steps → AreQuiet (cond b [] steps)
quiet_unless true steps h = refl
quiet_unless false steps h = h

pub quiet-modified : (table : List ℕ) (g : Grid ColDef) (c : UserCol) → AreQuiet (modified table g c)
quiet-modified table g c =
    elim (find_id column_id c.id g.columns) as (λ (o : Option ColDef). AreQuiet (elim o as (λ _. List Step) [ None ↦ [] | Some d ↦ modified_to table g d (info_said d.info c) ])) [
      | None ↦ refl
      | Some d ↦ quiet_unless (same_info d.info (info_said d.info c)) _
          (let info : ColInfo = info_said d.info c in
          quiet_each d.info.is_formula info.is_formula (rows_changed g d.id (λ _. Null) g.rows) (rows_changed g d.id (λ _. default_value info.ty) g.rows) (rows_changed g d.id (fit info.ty) g.rows) _ _ _ _ refl refl refl refl)
    ]
