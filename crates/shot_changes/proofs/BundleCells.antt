-- What a bundle of records leaves of formula cells that its steps do not tell of.
use Rattle.std.proofs.Common.{◌≡◌, ◌∙◌, ℕ, Bool, true, false, not, cond, ◌||◌, List, [], ◌∷◌, Option, Some, None, is_some, refl, sym, ap, subst}
use Rattle.std.proofs.Math.Bool.{or-true}
use Rattle.std.proofs.lemmas.Bool.{and_parts, false≢true, or_parts}
use Rattle.std.proofs.lemmas.List.Folds.{list_any-append}
use Rattle.std.proofs.lemmas.Slice.Eq.{bytes_eq-Decides}
use Rattle.std.specs.List.{flat_map}
use Rattle.std.specs.Str.{bytes_eq}
use Rattle.cell_types.specs.declared.cell.CellId.{CellId}
use Rattle.cell_types.specs.declared.value.CellValue.{CellValue}
use Rattle.doc_model.specs.declared.action.DocAction.{DocAction}
use Rattle.doc_model.specs.declared.action.DocAction.TheVariants.{BulkAdd, BulkUpdate, BulkRemove, AddTable, RemoveTable, RenameTable, AddColumn, RemoveColumn, RenameColumn, ModifyColumn}
use Rattle.doc_model.specs.declared.column.ColDef.{ColDef}
use Rattle.doc_model.specs.Apply.{all_valid, apply, apply_all}
use Rattle.doc_model.specs.ByIds.{find_id, has_id}
use Rattle.doc_model.specs.Column.{column_id}
use Rattle.doc_model.specs.Document.{Document}
use Rattle.doc_model.specs.DocumentLaws.{IsWhole}
use Rattle.doc_model.specs.Grid.{Grid, cell}
use Rattle.doc_model.specs.Readers.{cell_at}
use Rattle.doc_model.specs.Rows.{has, insert_rows, without}
use Rattle.doc_model.specs.Valid.{valid}
use Rattle.doc_model.proofs.ByIdsLaws.{found_has, found_id}
use Rattle.doc_model.proofs.Choices.{both_true}
use Rattle.doc_model.proofs.InverseLaws.{IsWhole-apply}
use Rattle.doc_model.proofs.RowsLaws.{has-filter, has-insert_rows}
use Rattle.doc_readers.specs.Parts.{grid_at}
use Rattle.recalc.specs.Evaluated.{filled}
use Rattle.action_censor.specs.Back.{IsStepOf, held_before, rows_back}
use Rattle.action_censor.specs.Step.{Step, are_records, is_of_records}
use Rattle.bundle_traces.specs.TraceLaws.{TraceLaw, step_done, steps_done}
use Rattle.shot_cells.specs.Places.{is_cell}
use Rattle.shot_cells.specs.ShotDocument.{is_formula_at}
use Rattle.shot_cells.proofs.PlaceLemmas.{nothing_at}
use Rattle.shot_changes.specs.NotedCells.{added_cells, has_cell, lost_cell, row_cells, step_cells}
use Rattle.shot_changes.proofs.FilledCells.{cell_at-grid, cell_of_grid, parts_of, whole_of}
use Rattle.shot_changes.proofs.ToldCells.{held_told, in_rows}

-- ---- rows that an action adds

row_kept : (d : Document) (t k : List ℕ) (r : ℕ) → is_formula_at d t k ≡ true → (a : DocAction) (now : List ℕ) → has_cell (added_cells d a) t k r ≡ false → has now r ≡ true → has (rows_back a t now) r ≡ true
row_kept d t k r formula (BulkAdd table rows ks) now untold here =
    elim (bytes_eq table t) as (λ b. bytes_eq table t ≡ b → has (cond b (without rows now) now) r ≡ true) [
      | true ↦ λ is. has-filter (λ q. not (has rows q)) now r ∙ both_true (not (has rows r)) (has now r) (by (has rows r) refl is) here
      | false ↦ λ _. here
    ] refl
  where
    by : (b : Bool) → has rows r ≡ b → bytes_eq table t ≡ true → not b ≡ true
    by true new is = absurd (false≢true (sym untold ∙ ap (λ n. has_cell (row_cells d n rows) t k r) ((bytes_eq-Decides table t).0 is) ∙ in_rows t k r d rows formula new))
    by false new is = refl
row_kept d t k r formula (BulkUpdate table rows ks) now untold here = here
row_kept d t k r formula (BulkRemove table rows) now untold here =
    elim (bytes_eq table t) as (λ b. has (cond b (insert_rows rows now) now) r ≡ true) [
      | true ↦ has-insert_rows rows now r ∙ ap (λ b. has rows r || b) here ∙ or-true (has rows r)
      | false ↦ here
    ]
row_kept d t k r formula (AddTable table row columns) now untold here = here
row_kept d t k r formula (RemoveTable table) now untold here = here
row_kept d t k r formula (RenameTable table new) now untold here = here
row_kept d t k r formula (AddColumn table column) now untold here = here
row_kept d t k r formula (RemoveColumn table column) now untold here = here
row_kept d t k r formula (RenameColumn table column new) now untold here = here
row_kept d t k r formula (ModifyColumn table column info) now untold here = here

-- ---- one step

module _ (d : Document) (t k : List ℕ) (r : ℕ) (formula : is_formula_at d t k ≡ true) (q : Step) (g h : Grid ColDef) (is : IsStepOf q t g h) where
  abbrev Kept : Type 0
  Kept = (has h.rows r ≡ true) × (cell column_id g k r ≡ cell column_id h k r)

  -- a cell before the step that it did not lose
  kept : has_id column_id g.columns k ≡ true → has g.rows r ≡ true → has_cell (flat_map (lost_cell d) q.cells) t k r ≡ false → Kept
  kept column row untold =
      let found : (e : ColDef) × (find_id column_id k g.columns ≡ Some e) = found_has column_id k g.columns column in
      let named : found.0.id ≡ k = found_id column_id k g.columns found.0 found.1 in
      let none : held_before q.cells t k r ≡ None = nothing_at (held_before q.cells t k r) (is_some (held_before q.cells t k r)) refl (held_told d t k r formula q.cells ∙ untold) in
      subst (λ n. (has h.rows r ≡ true) × (cell column_id g n r ≡ cell column_id h n r)) named
      (is.same found.0 r (ap (λ n. find_id column_id n g.columns) named ∙ found.1) row (ap (λ n. held_before q.cells t n r) named ∙ none))

  pub step_untold : has_cell (step_cells d q) t k r ≡ false → (x : CellValue) → cell_of_grid h k r ≡ Some x → cell_of_grid g k r ≡ Some x
  step_untold untold x at =
      let parts = parts_of h k r x at in
      let two : (has_cell (added_cells d q.action) t k r ≡ false) × (has_cell (flat_map (lost_cell d) q.cells) t k r ≡ false)
      = or_parts (has_cell (added_cells d q.action) t k r) (has_cell (flat_map (lost_cell d) q.cells) t k r) (sym (list_any-append (λ c. is_cell c t k r) (added_cells d q.action) (flat_map (lost_cell d) q.cells)) ∙ untold) in
      let column : has_id column_id g.columns k ≡ true = ap (λ ds. has_id column_id ds k) is.columns ∙ parts.0 in
      let row : has g.rows r ≡ true = ap (λ rows. has rows r) is.rows ∙ row_kept d t k r formula q.action h.rows two.0 parts.1.0 in
      whole_of g k r column row ∙ ap (λ v. let o : Option CellValue = Some v in o) ((kept column row two.1).1 ∙ parts.1.1)

  pub step_gone : (x : CellValue) → cell_of_grid g k r ≡ Some x → cell_of_grid h k r ≡ None → has_cell (step_cells d q) t k r ≡ true
  step_gone x at gone =
      list_any-append (λ c. is_cell c t k r) (added_cells d q.action) (flat_map (lost_cell d) q.cells)
      ∙ ap (λ b. has_cell (added_cells d q.action) t k r || b) (by (has_cell (flat_map (lost_cell d) q.cells) t k r) refl)
      ∙ or-true (has_cell (added_cells d q.action) t k r)
    where
      by : (b : Bool) → has_cell (flat_map (lost_cell d) q.cells) t k r ≡ b → has_cell (flat_map (lost_cell d) q.cells) t k r ≡ true
      by true told = told
      by false untold =
          let parts = parts_of g k r x at in
          let there : cell_of_grid h k r ≡ Some (cell column_id h k r) = whole_of h k r (ap (λ ds. has_id column_id ds k) (sym is.columns) ∙ parts.0) (kept parts.0 parts.1.0 untold).0 in
          let some : None ≡ Some (cell column_id h k r) = sym gone ∙ there in
          absurd (cc)

-- ---- a bundle

module _ (law : TraceLaw) where
  -- columns stay
  pub columns_kept : (s : Document) (actions : List DocAction) → IsWhole s → all_valid s actions ≡ true → are_records (steps_done s actions) ≡ true → (t : List ℕ)
      → (grid_at (filled s) t).columns ≡ (grid_at (filled (apply_all s actions)) t).columns
  columns_kept s [] whole v is t = refl
  columns_kept s (a ∷ actions) whole v is t =
      let valids : (valid s a ≡ true) × (all_valid (apply s a) actions ≡ true) = and_parts (valid s a) (all_valid (apply s a) actions) v in
      let kinds : (is_of_records a ≡ true) × (are_records (steps_done (apply s a) actions) ≡ true) = and_parts (is_of_records a) (are_records (steps_done (apply s a) actions)) is in
      (law s a whole valids.0 kinds.0 t).columns ∙ columns_kept (apply s a) actions (IsWhole-apply s a whole valids.0) valids.1 kinds.1 t

  module _ (d : Document) (t k : List ℕ) (r : ℕ) (formula : is_formula_at d t k ≡ true) where
    -- a cell after it of which no step tells was there before it, and held the same
    pub untold_kept : (s : Document) (actions : List DocAction) → IsWhole s → all_valid s actions ≡ true → are_records (steps_done s actions) ≡ true
        → has_cell (flat_map (step_cells d) (steps_done s actions)) t k r ≡ false → (x : CellValue) → cell_at (filled (apply_all s actions)) t k r ≡ Some x → cell_at (filled s) t k r ≡ Some x
    untold_kept s [] whole v is untold x at = at
    untold_kept s (a ∷ actions) whole v is untold x at =
        let valids : (valid s a ≡ true) × (all_valid (apply s a) actions ≡ true) = and_parts (valid s a) (all_valid (apply s a) actions) v in
        let kinds : (is_of_records a ≡ true) × (are_records (steps_done (apply s a) actions) ≡ true) = and_parts (is_of_records a) (are_records (steps_done (apply s a) actions)) is in
        let rest : List CellId = flat_map (step_cells d) (steps_done (apply s a) actions) in
        let two : (has_cell (step_cells d (step_done s a)) t k r ≡ false) × (has_cell rest t k r ≡ false)
        = or_parts (has_cell (step_cells d (step_done s a)) t k r) (has_cell rest t k r) (sym (list_any-append (λ c. is_cell c t k r) (step_cells d (step_done s a)) rest) ∙ untold) in
        let next : cell_at (filled (apply s a)) t k r ≡ Some x = untold_kept (apply s a) actions (IsWhole-apply s a whole valids.0) valids.1 kinds.1 two.1 x at in
        cell_at-grid (filled s) t k r
        ∙ step_untold d t k r formula (step_done s a) (grid_at (filled s) t) (grid_at (filled (apply s a)) t) (law s a whole valids.0 kinds.0 t) two.0 x (sym (cell_at-grid (filled (apply s a)) t k r) ∙ next)

    -- a step tells of a cell that is gone after it
    pub gone_told : (s : Document) (actions : List DocAction) → IsWhole s → all_valid s actions ≡ true → are_records (steps_done s actions) ≡ true
        → (x : CellValue) → cell_at (filled s) t k r ≡ Some x → cell_at (filled (apply_all s actions)) t k r ≡ None → has_cell (flat_map (step_cells d) (steps_done s actions)) t k r ≡ true
    gone_told s [] whole v is x at gone = let some : Some x ≡ None = sym at ∙ gone in absurd (cc)
    gone_told s (a ∷ actions) whole v is x at gone =
        let valids : (valid s a ≡ true) × (all_valid (apply s a) actions ≡ true) = and_parts (valid s a) (all_valid (apply s a) actions) v in
        let kinds : (is_of_records a ≡ true) × (are_records (steps_done (apply s a) actions) ≡ true) = and_parts (is_of_records a) (are_records (steps_done (apply s a) actions)) is in
        let rest : List CellId = flat_map (step_cells d) (steps_done (apply s a) actions) in
        let here : Bool = has_cell (step_cells d (step_done s a)) t k r in
        list_any-append (λ c. is_cell c t k r) (step_cells d (step_done s a)) rest
        ∙ by valids.0 kinds.0 (cell_at (filled (apply s a)) t k r) refl (λ y e. gone_told (apply s a) actions (IsWhole-apply s a whole valids.0) valids.1 kinds.1 y e gone)
      where
        by : valid s a ≡ true → is_of_records a ≡ true → (o : Option CellValue) → cell_at (filled (apply s a)) t k r ≡ o
            → ((y : CellValue) → cell_at (filled (apply s a)) t k r ≡ Some y → has_cell (flat_map (step_cells d) (steps_done (apply s a) actions)) t k r ≡ true)
            → (has_cell (step_cells d (step_done s a)) t k r || has_cell (flat_map (step_cells d) (steps_done (apply s a) actions)) t k r) ≡ true
        by valid kind None e later =
            ap (λ b. b || has_cell (flat_map (step_cells d) (steps_done (apply s a) actions)) t k r)
            (step_gone d t k r formula (step_done s a) (grid_at (filled s) t) (grid_at (filled (apply s a)) t) (law s a whole valid kind t) x
            (sym (cell_at-grid (filled s) t k r) ∙ at) (sym (cell_at-grid (filled (apply s a)) t k r) ∙ e))
        by valid kind (Some y) e later = ap (λ b. has_cell (step_cells d (step_done s a)) t k r || b) (later y e) ∙ or-true (has_cell (step_cells d (step_done s a)) t k r)
