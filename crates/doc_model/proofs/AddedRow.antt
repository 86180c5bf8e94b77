-- The edits that lead to a table with one row more: that row alone.
use Rattle.std.proofs.Common.{◌≡◌, ℕ, true, false, cond, not, ◌&&◌, ◌||◌, List, [], ◌∷◌, ◌++◌, map, filter, nat_eq, Some, None, unwrap_or, refl, sym, ap, ◌∙◌}
use Rattle.std.proofs.lemmas.Bool.{eqb-true, or_right}
use Rattle.doc_model.specs.declared.column.CellColumn.{CellColumn}
use Rattle.doc_model.specs.declared.view.ViewCol.{ViewCol}
use Rattle.doc_model.specs.ByIds.{has_id}
use Rattle.doc_model.specs.Grid.{Grid, cell}
use Rattle.doc_model.specs.Records.{given, add_rows}
use Rattle.doc_model.specs.Rows.{has, insert_row, without, IsAscending}
use Rattle.doc_model.specs.ViewEdits.{shown_id, shown_start, IsShown, remove_column, add_column, modify_column, remove, add, if_any, whole, differs, shape_edits, cell_edits, all_edited, edits}
use Rattle.doc_model.proofs.ByIdsLaws.{has_found}
use Rattle.doc_model.proofs.Choices.{filter_none}
use Rattle.doc_model.proofs.GridLaws.{cell-grid_of, filled_again}
use Rattle.doc_model.proofs.RecordsLaws.{given_own, IsGrid-add_rows}
use Rattle.doc_model.proofs.RowsLaws.{each_has, has-insert_row, has-filter, IsAscending-filter, IsAscending-insert_row, same_ascending}
use Rattle.doc_model.proofs.ViewEditsLaws.{no_cells, none_gone, none_other}

-- no row is gone
none_left : (k : ℕ) (rows : List ℕ) → without (insert_row k rows) rows ≡ []
none_left k rows =
    filter_none (λ r. not (has (insert_row k rows) r)) rows
    (each_has (λ r. not (has (insert_row k rows) r) ≡ false) rows (λ r here.
    ap not (has-insert_row k rows r ∙ or_right (nat_eq k r) (has rows r) here)))

-- that row is new
one_new : (k : ℕ) (rows : List ℕ) → IsAscending rows → has rows k ≡ false → without rows (insert_row k rows) ≡ k ∷ []
one_new k rows a apart =
    same_ascending (without rows (insert_row k rows)) (k ∷ [])
    (IsAscending-filter (λ r. not (has rows r)) (insert_row k rows) (IsAscending-insert_row k rows a))
    (tt, tt)
    (λ q. has-filter (λ r. not (has rows r)) (insert_row k rows) q
    ∙ ap (λ h. not (has rows q) && h) (has-insert_row k rows q)
    ∙ elim (nat_eq k q) as (λ b. nat_eq k q ≡ b → (not (has rows q) && (b || has rows q)) ≡ (b || false)) [
      | true ↦ λ same. ap (λ r. not (has rows r) && true) (sym (eqb-true k q same)) ∙ ap (λ h. not h && true) apart
      | false ↦ λ _. elim (has rows q) as (λ h. (not h && h) ≡ false) [ true ↦ refl | false ↦ refl ]
    ] refl)

module _ (g : Grid ViewCol) (s : IsShown g) (k : ℕ) (apart : has g.rows k ≡ false) (ks : List CellColumn) where
  -- the table with the row
  abbrev more : Grid ViewCol
  more = add_rows shown_id shown_start (k ∷ []) ks g

  shape-more : shape_edits g more ≡ add (k ∷ []) (whole more (k ∷ [])) ∷ []
  shape-more =
      ap (λ cs. map (λ (d : ViewCol). remove_column d.id) cs ++ map add_column cs ++ map modify_column (filter (differs g.columns) g.columns)
      ++ if_any (without more.rows g.rows) (remove (without more.rows g.rows)) ++ if_any (without g.rows more.rows) (add (without g.rows more.rows) (whole more (without g.rows more.rows))))
      (filter_none (λ d. not (has_id shown_id g.columns d.id)) g.columns (none_gone g s))
      ∙ ap (λ cs. map modify_column cs ++ if_any (without more.rows g.rows) (remove (without more.rows g.rows)) ++ if_any (without g.rows more.rows) (add (without g.rows more.rows) (whole more (without g.rows more.rows))))
      (filter_none (differs g.columns) g.columns (none_other g s))
      ∙ ap (λ rows. if_any rows (remove rows) ++ if_any (without g.rows more.rows) (add (without g.rows more.rows) (whole more (without g.rows more.rows)))) (none_left k g.rows)
      ∙ ap (λ rows. if_any rows (add rows (whole more rows))) (one_new k g.rows s.is_grid.ascending apart)

  -- the row's own cells make the same table
  again-more : add_rows shown_id shown_start (k ∷ []) (whole more (k ∷ [])) g ≡ more
  again-more =
      filled_again shown_id more (IsGrid-add_rows shown_id shown_start (k ∷ []) ks g s.is_grid) g.columns (insert_row k g.rows)
      (λ d r. cond (has (k ∷ []) r) (unwrap_or (given (k ∷ []) (whole more (k ∷ [])) d.id r) (shown_start d)) (cell shown_id g d.id r)) refl refl
      (λ d r found here.
      elim (has (k ∷ []) r) as (λ b. has (k ∷ []) r ≡ b → cond b (unwrap_or (given (k ∷ []) (whole more (k ∷ [])) d.id r) (shown_start d)) (cell shown_id g d.id r) ≡ cell shown_id more d.id r) [
        | true ↦ λ is.
            ap (λ o. unwrap_or o (shown_start d)) (given_own shown_id more (k ∷ []) shown_id g.columns d.id r is
            ∙ ap (λ h. cond h (Some (cell shown_id more d.id r)) None) (has_found shown_id d.id g.columns d found))
        | false ↦ λ not_it.
            sym (cell-grid_of shown_id g.columns (insert_row k g.rows) (λ e q. cond (has (k ∷ []) q) (unwrap_or (given (k ∷ []) ks e.id q) (shown_start e)) (cell shown_id g e.id q)) d r found here
            ∙ ap (λ b. cond b (unwrap_or (given (k ∷ []) ks d.id r) (shown_start d)) (cell shown_id g d.id r)) not_it)
      ] refl)

  pub edits-add_rows : edits g more ≡ add (k ∷ []) (whole more (k ∷ [])) ∷ []
  edits-add_rows =
      ap (λ es. es ++ cell_edits (all_edited es g) more more.columns) shape-more
      ∙ ap (λ h. add (k ∷ []) (whole more (k ∷ [])) ∷ cell_edits h more more.columns) again-more
      ∙ ap (λ es. add (k ∷ []) (whole more (k ∷ [])) ∷ es) (no_cells more more.columns)
