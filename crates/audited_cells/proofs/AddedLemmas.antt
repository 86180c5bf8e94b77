-- What added records hold, by what the view tells.
use Rattle.std.proofs.Common.{◌≡◌, ◌∙◌, ap, refl, subst, sym, ℕ, zero, suc, ◌+◌, true, cond, ◌||◌, List, [], ◌∷◌, Option, Some, bytes_eq, unwrap_or}
use Rattle.std.specs.List.{AllByRecursion}
use Rattle.std.specs.Option.{option_map}
use Rattle.cell_types.specs.Conversion.{default_value}
use Rattle.cell_types.specs.declared.value.CellValue.{CellValue}
use Rattle.cell_types.specs.declared.value.CellValue.TheVariants.{Null}
use Rattle.doc_model.specs.declared.action.DocAction.{DocAction}
use Rattle.doc_model.specs.declared.action.DocAction.TheVariants.{BulkAdd}
use Rattle.doc_model.specs.declared.column.ColDef.{ColDef}
use Rattle.doc_model.specs.declared.user_action.UserColumn.{UserColumn}
use Rattle.doc_model.specs.declared.view.ViewCol.{ViewCol}
use Rattle.doc_model.specs.declared.view.ViewTable.{ViewTable}
use Rattle.doc_model.specs.Apply.{apply}
use Rattle.doc_model.specs.ByIds.{find_id, has_id}
use Rattle.doc_model.specs.Column.{column_id, start_of}
use Rattle.doc_model.specs.Counts.{greatest}
use Rattle.doc_model.specs.Document.{Document, Table, on_grid, table_id}
use Rattle.doc_model.specs.Grid.{Grid, IsGrid, cell}
use Rattle.doc_model.specs.Readers.{cell_at}
use Rattle.doc_model.specs.Records.{add_rows, given}
use Rattle.doc_model.specs.Rows.{IsAscending, has, insert_rows}
use Rattle.doc_model.specs.Valid.{valid}
use Rattle.doc_model.specs.ViewEdits.{shown_id}
use Rattle.doc_model.proofs.ByIdsLaws.{bytes_itself, found_all, found_id}
use Rattle.doc_model.proofs.ByRowLaws.{find-with_id}
use Rattle.doc_model.proofs.Choices.{cond_false, cond_true}
use Rattle.doc_model.proofs.DocumentParts.{applied}
use Rattle.doc_model.proofs.GridLaws.{cell-grid_of}
use Rattle.doc_model.proofs.RowsLaws.{each_has, has-insert_rows, same_ascending}
use Rattle.doc_readers.specs.Parts.{grid_at}
use Rattle.acl_formula.specs.declared.permissions.Perm.TheVariants as perm
use Rattle.acl_rules.specs.declared.decision.Ctx.{Ctx}
use Rattle.acl_checks.specs.Checks.{row_at}
use Rattle.acl_reading.specs.RulesLet.{rules_let}
use Rattle.censored_view.specs.View.{shown_columns}
use Rattle.recalc.specs.Evaluated.{filled, value_of}
use Rattle.recalc.proofs.FilledLemmas.{filled_table, find_filled}
use Rattle.recalc.proofs.WatchedCells.{grid_filled, told_data}
use Rattle.user_actions.specs.Steps.{all_fitted, last_row, numbers_after}
use Rattle.rule_audit.specs.Open.{open_columns}
use Rattle.rule_audit.specs.Reached.{is_column_safe}
use Rattle.rule_audit.specs.SeenLaws.{IsSeen}
use Rattle.rule_audit.proofs.SeenLemmas.{seen_rows}
use Rattle.audited_checks.specs.AlikeRows.{AreAlike, AreAllAlike}
use Rattle.audited_cells.specs.CellLaws.{AddedCellsLaw}
use Rattle.audited_cells.proofs.ChangedLemmas.{given_as, given_fitted, type_is}
use Rattle.audited_cells.proofs.ColumnLemmas.{ColumnHere, column_here, grid_here, its_table, told_type, view_type}

-- ---- in one document

module _ (x : Ctx) (s : Document) (v : ViewTable) (seen : IsSeen x (filled s) v) (news : List ℕ) (ks : List UserColumn)
    (ok : valid s (BulkAdd v.id news (all_fitted s v.id ks)) ≡ true) where
  abbrev written : DocAction
  written = BulkAdd v.id news (all_fitted s v.id ks)

  abbrev changes : Table → Table
  changes = on_grid (add_rows column_id start_of news (all_fitted s v.id ks))

  module _ (r : ℕ) (new : has news r ≡ true) (c : List ℕ) (safe : is_column_safe perm.U (open_columns x v) c ≡ true) where
    col : ColumnHere s v c
    col = column_here x s v seen c safe

    name : col.column.id ≡ c
    name = found_id column_id c col.table.grid.columns col.column col.there

    here : has (insert_rows news col.table.grid.rows) r ≡ true
    here = has-insert_rows news col.table.grid.rows r ∙ ap (λ b. b || has col.table.grid.rows r) new

    after_at : find_id table_id v.id (apply s written) ≡ Some (changes col.table)
    after_at =
        ap (find_id table_id v.id) (applied s written ok)
        ∙ find-with_id table_id v.id changes (λ t. refl) s v.id
        ∙ cond_true (bytes_eq v.id v.id) (option_map changes (find_id table_id v.id s)) (find_id table_id v.id s) (bytes_itself v.id)
        ∙ ap (option_map changes) col.at

    starts : start_of col.column ≡ default_value (view_type v c)
    starts =
        cond_false col.column.info.is_formula Null (default_value col.column.info.ty) col.no_formula
        ∙ ap default_value (told_type s v c col)

    held : cell column_id (changes col.table).grid c r ≡ unwrap_or (given_as (view_type v c) news ks c r) (default_value (view_type v c))
    held =
        ap (λ n. cell column_id (changes col.table).grid n r) (sym name)
        ∙ cell-grid_of column_id col.table.grid.columns (insert_rows news col.table.grid.rows) (λ (d : ColDef) q. cond (has news q) (unwrap_or (given news (all_fitted s v.id ks) d.id q) (start_of d)) (cell column_id col.table.grid d.id q)) col.column r (ap (λ n. find_id column_id n col.table.grid.columns) name ∙ col.there) here
        ∙ cond_true (has news r) (unwrap_or (given news (all_fitted s v.id ks) col.column.id r) (start_of col.column)) (cell column_id col.table.grid col.column.id r) new
        ∙ ap (λ n. unwrap_or (given news (all_fitted s v.id ks) n r) (start_of col.column)) name
        ∙ ap (λ (o : Option CellValue). unwrap_or o (start_of col.column)) (given_fitted (grid_at s v.id) (view_type v c) news c r (type_is s v c col) ks)
        ∙ ap (unwrap_or (given_as (view_type v c) news ks c r)) starts

    -- all of it is told by the view and the request
    pub after : cell_at (filled (apply s written)) v.id c r ≡ Some (unwrap_or (given_as (view_type v c) news ks c r) (default_value (view_type v c)))
    after =
        told_data (value_of (apply s written)) (apply s written) (changes col.table) col.column v.id c r after_at name col.there here col.no_formula
        ∙ ap (λ (w : CellValue). let o : Option CellValue = Some w in o) held

-- ---- the rows of a table

module _ (x : Ctx) (s : Document) (v : ViewTable) (seen : IsSeen x (filled s) v) where
  abbrev own : (y : Table) × ((find_id table_id v.id s ≡ Some y) × (v.columns ≡ shown_columns (rules_let x v.id) y.grid.columns))
  own = its_table x s v seen

  evaluated : find_id table_id v.id (filled s) ≡ Some (filled_table (value_of s) own.0)
  evaluated = find_filled (value_of s) v.id s ∙ ap (option_map (filled_table (value_of s))) own.1.0

  shaped : IsGrid column_id (filled_table (value_of s) own.0).grid
  shaped = found_all table_id (λ (t : Table). IsGrid column_id t.grid) v.id (filled s) (filled_table (value_of s) own.0) seen.laid_out.grids evaluated

  -- those of the evaluated document ascend, and are those of the document
  rows_ascend : IsAscending (grid_at (filled s) v.id).rows
  rows_ascend = subst (λ (g : Grid ColDef). IsAscending g.rows) (sym (grid_filled (value_of s) s own.0 v.id own.1.0)) shaped.ascending

  rows_same : (grid_at (filled s) v.id).rows ≡ (grid_at s v.id).rows
  rows_same =
      ap (λ (g : Grid ColDef). g.rows) (grid_filled (value_of s) s own.0 v.id own.1.0)
      ∙ sym (ap (λ (g : Grid ColDef). g.rows) (grid_here s v.id own.0 own.1.0))

-- where a column is open, both have the same rows, and so the same last one
same_last : (x : Ctx) (s t : Document) (v : ViewTable) (c : List ℕ) → IsSeen x (filled s) v → IsSeen x (filled t) v → has_id shown_id (open_columns x v) c ≡ true → last_row s v.id ≡ last_row t v.id
same_last x s t v c seen other opened =
    let rows : (grid_at (filled s) v.id).rows ≡ (grid_at (filled t) v.id).rows
    = same_ascending (grid_at (filled s) v.id).rows (grid_at (filled t) v.id).rows (rows_ascend x s v seen) (rows_ascend x t v other) (λ q. sym (seen_rows x (filled s) v c q seen opened) ∙ seen_rows x (filled t) v c q other opened) in
    ap greatest (sym (rows_same x s v seen) ∙ rows ∙ rows_same x t v other)

-- ---- new rows in two documents

-- without an open column nothing is safe
bare : (table : List ℕ) (s t : Document) (count n m : ℕ) → AreAllAlike [] table s t (numbers_after n count) (numbers_after m count)
bare table s t zero n m = tt
bare table s t (suc count) n m = (record { ids = λ h. absurd (cc); cells = λ c h. absurd (cc) }, bare table s t count (n + 1) (m + 1))

each_alike : (opened : List ViewCol) (table : List ℕ) (s t : Document) (rows : List ℕ) → AllByRecursion (λ r. AreAlike perm.U opened (row_at s table r) (row_at t table r)) rows → AreAllAlike opened table s t rows rows
each_alike opened table s t [] h = tt
each_alike opened table s t (r ∷ rows) h = (h.0, each_alike opened table s t rows h.1)

module _ (x : Ctx) (s t : Document) (v : ViewTable) (seen : IsSeen x (filled s) v) (other : IsSeen x (filled t) v) (ks : List UserColumn) (count : ℕ) where
  abbrev of_s : DocAction
  of_s = BulkAdd v.id (numbers_after (last_row s v.id) count) (all_fitted s v.id ks)

  abbrev of_t : DocAction
  of_t = BulkAdd v.id (numbers_after (last_row t v.id) count) (all_fitted t v.id ks)

  -- the rows have the same numbers
  numbered : valid s of_s ≡ true → (n : ℕ) → last_row s v.id ≡ n → valid t (BulkAdd v.id (numbers_after n count) (all_fitted t v.id ks)) ≡ true
      → AreAllAlike (open_columns x v) v.id (filled (apply s of_s)) (filled (apply t (BulkAdd v.id (numbers_after n count) (all_fitted t v.id ks)))) (numbers_after (last_row s v.id) count) (numbers_after n count)
  numbered ok n is ok_too =
      subst (λ m. AreAllAlike (open_columns x v) v.id (filled (apply s of_s)) (filled (apply t (BulkAdd v.id (numbers_after n count) (all_fitted t v.id ks)))) (numbers_after m count) (numbers_after n count)) (sym is)
      (each_alike (open_columns x v) v.id (filled (apply s of_s)) (filled (apply t (BulkAdd v.id (numbers_after n count) (all_fitted t v.id ks)))) (numbers_after n count)
      (each_has (λ r. AreAlike perm.U (open_columns x v) (row_at (filled (apply s of_s)) v.id r) (row_at (filled (apply t (BulkAdd v.id (numbers_after n count) (all_fitted t v.id ks)))) v.id r)) (numbers_after n count) (λ r new. record {
        ids = λ h. refl;
        cells = λ c safe.
            after x s v seen (numbers_after (last_row s v.id) count) ks ok r (ap (λ m. has (numbers_after m count) r) is ∙ new) c safe
            ∙ ap (λ m. let o : Option CellValue = Some (unwrap_or (given_as (view_type v c) (numbers_after m count) ks c r) (default_value (view_type v c))) in o) is
            ∙ sym (after x t v other (numbers_after n count) ks ok_too r new c safe);
      })))

  by_open : (ds : List ViewCol) → open_columns x v ≡ ds → valid s of_s ≡ true → valid t of_t ≡ true
      → AreAllAlike (open_columns x v) v.id (filled (apply s of_s)) (filled (apply t of_t)) (numbers_after (last_row s v.id) count) (numbers_after (last_row t v.id) count)
  by_open [] none ok ok_too =
      subst (λ ds. AreAllAlike ds v.id (filled (apply s of_s)) (filled (apply t of_t)) (numbers_after (last_row s v.id) count) (numbers_after (last_row t v.id) count)) (sym none)
      (bare v.id (filled (apply s of_s)) (filled (apply t of_t)) count (last_row s v.id) (last_row t v.id))
  by_open (d ∷ ds) some ok ok_too =
      let opened : has_id shown_id (open_columns x v) d.id ≡ true = ap (λ es. has_id shown_id es d.id) some ∙ ap (λ b. b || has_id shown_id ds d.id) (bytes_itself d.id) in
      numbered ok (last_row t v.id) (same_last x s t v d.id seen other opened) ok_too

pub added_cells : AddedCellsLaw
added_cells x s t v ks count seen other ok ok_too = by_open x s t v seen other ks count (open_columns x v) refl ok ok_too
