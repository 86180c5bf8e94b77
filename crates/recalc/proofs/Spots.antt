-- The place of a formula cell among what is kept.
use Rattle.std.proofs.Common.{ℕ, ◌<◌, Bool, true, false, cond, ◌&&◌, List, length, get_or, slice_get, ◌≡◌, refl, sym, ap, ◌∙◌, subst, Option, Some, None}
use Rattle.std.proofs.lemmas.Bool.{true≢false, false≢true, lt-ltb}
use Rattle.std.proofs.lemmas.Option.{slice_get_within}
use Rattle.std.proofs.lemmas.List.Folds.{find_at}
use Rattle.std.specs.List.{position, position_or_len, find}
use Rattle.std.specs.Option.{is_some}
use Rattle.std.specs.Str.{bytes_eq}
use Rattle.cell_types.specs.declared.cell.CellId.{CellId}
use Rattle.cell_types.specs.declared.value.CellValue.{CellValue}
use Rattle.doc_model.specs.declared.column.ColDef.{ColDef}
use Rattle.doc_model.specs.ByIds.{find_id}
use Rattle.doc_model.specs.Column.{column_id}
use Rattle.doc_model.specs.Document.{Table, Document, table_id}
use Rattle.doc_model.specs.Grid.{Grid}
use Rattle.doc_model.specs.Rows.{IsAscending, has}
use Rattle.doc_readers.specs.Parts.{grid_at}
use Rattle.recalc.specs.declared.kept.KeptColumn.{KeptColumn}
use Rattle.recalc.specs.declared.kept.KeptTable.{KeptTable}
use Rattle.recalc.specs.Evaluated.{formula_at, formula_in}
use Rattle.recalc.specs.Kept.{IsKeptOf, held_at, held_in, kept_column_id, kept_table_id}
use Rattle.recalc.specs.Put.{HasSpot, IsPutInTables}
use Rattle.recalc.specs.Seen.{joined}
use Rattle.recalc.specs.Cells.{same_cell}
use Rattle.recalc.proofs.KeptLemmas.{find_table, find_column, table_of, column_of, match_none, places_of, shape_kept, shape_blank, column_kept, column_blank}
use Rattle.recalc.proofs.PlaceLemmas.{IsFirst, position_first, first_there, item_there, same_item, find-first, held-get, put_done}
use Rattle.recalc.proofs.ToldCells.{grid_found, held_found}

position_none : {X : Type 0} (p : X → Bool) (xs : List X) → position p xs ≡ None → find p xs ≡ None
position_none p xs h = find_at p xs ∙ outside (slice_get xs (position_or_len p xs)) refl
  where
    outside : (o : Option _) → slice_get xs (position_or_len p xs) ≡ o → o ≡ None
    outside None e = refl
    outside (Some x) e = absurd (some_none (sym (ap (λ b. cond b (Some (position_or_len p xs)) None) (lt-ltb (position_or_len p xs) (length xs) (slice_get_within xs (position_or_len p xs) x e))) ∙ h))
      where
        some_none : Some (position_or_len p xs) ≡ None → ⊥
        some_none e = cc

and_both : (a b : Bool) → (a && b) ≡ true → (a ≡ true) × (b ≡ true)
and_both true b e = (refl, e)
and_both false b e = absurd (false≢true e)

pub text_there : (o : Option (List ℕ)) → is_some o ≡ true → (f : List ℕ) × (o ≡ Some f)
text_there None e = absurd (false≢true e)
text_there (Some f) e = (f, refl)

module _ (s : Document) (ks : List KeptTable) (kept : IsKeptOf s ks) (cell : CellId) (f : List ℕ) (opened : formula_at s cell ≡ Some f) where
  abbrev by_column : Grid ColDef → Option ColDef → Option (List ℕ)
  by_column g o = elim o as (λ _. Option (List ℕ)) [ None ↦ None | Some d ↦ formula_in g cell.row d ]

  abbrev by_table : Option Table → Option (List ℕ)
  by_table o = elim o as (λ _. Option (List ℕ)) [ None ↦ None | Some t ↦ by_column t.grid (find_id column_id cell.column t.grid.columns) ]

  no_formula : ◌≡◌ {A = Option (List ℕ)} None (Some f) → ⊥
  no_formula e = cc

  -- where a search finds no table, no column or no row
  pub table_found : (seen : List KeptTable) → seen ≡ ks → None ≡ position (λ k. bytes_eq (kept_table_id k) cell.table) seen → ⊥
  table_found seen is h =
      no_formula (sym (ap by_table (match_none shape_kept shape_blank (find_id kept_table_id cell.table ks) (find_id table_id cell.table s) (find_table s ks kept cell.table)
      (position_none (λ k. bytes_eq (kept_table_id k) cell.table) ks (sym (h ∙ ap (position (λ k. bytes_eq (kept_table_id k) cell.table)) is))))) ∙ opened)

  module _ (i : ℕ) (seen : List KeptTable) (is : seen ≡ ks) (at : Some i ≡ position (λ k. bytes_eq (kept_table_id k) cell.table) seen)
      (k : KeptTable) (here : k ≡ get_or ks i k) (es : List KeptColumn) (columns : es ≡ k.columns.items) where
    first_table : IsFirst kept_table_id cell.table ks i
    first_table = position_first kept_table_id cell.table ks i (sym (at ∙ ap (position (λ k. bytes_eq (kept_table_id k) cell.table)) is))

    k_here : slice_get ks i ≡ Some k
    k_here = let t = first_there kept_table_id cell.table ks i first_table in item_there ks i k t.0 t.1 here

    k_found : find_id kept_table_id cell.table ks ≡ Some k
    k_found = (find-first kept_table_id ks cell.table i k first_table k_here).0

    the_table : (t : Table) × (find_id table_id cell.table s ≡ Some t) × (shape_kept k ≡ shape_blank t)
    the_table = table_of s ks kept cell.table k (sym k_found)

    formula : by_column the_table.0.grid (find_id column_id cell.column the_table.0.grid.columns) ≡ Some f
    formula = sym (ap by_table the_table.1) ∙ opened

    pub column_found : None ≡ position (λ e. bytes_eq (kept_column_id e) cell.column) es → ⊥
    column_found h =
        no_formula (sym (ap (by_column the_table.0.grid) (match_none column_kept (column_blank the_table.0.grid.rows) (find_id kept_column_id cell.column k.columns.items) (find_id column_id cell.column the_table.0.grid.columns) (find_column k the_table.0 the_table.2 cell.column)
        (position_none (λ e. bytes_eq (kept_column_id e) cell.column) k.columns.items (sym (h ∙ ap (position (λ e. bytes_eq (kept_column_id e) cell.column)) columns))))) ∙ formula)

    module _ (j : ℕ) (at_column : Some j ≡ position (λ e. bytes_eq (kept_column_id e) cell.column) es) where
      first_column : IsFirst kept_column_id cell.column k.columns.items j
      first_column = position_first kept_column_id cell.column k.columns.items j (sym (at_column ∙ ap (position (λ e. bytes_eq (kept_column_id e) cell.column)) columns))

      the_place : (e : KeptColumn) × (slice_get k.columns.items j ≡ Some e)
      the_place = first_there kept_column_id cell.column k.columns.items j first_column

      the_column : (d : ColDef) × (find_id column_id cell.column the_table.0.grid.columns ≡ Some d) × (column_kept the_place.0 ≡ column_blank the_table.0.grid.rows d)
      the_column = column_of k the_table.0 the_table.2 cell.column the_place.0 (sym (find-first kept_column_id k.columns.items cell.column j the_place.0 first_column the_place.1).0)

      both : (the_column.0.info.is_formula ≡ true) × (has the_table.0.grid.rows cell.row ≡ true)
      both = and_both the_column.0.info.is_formula (has the_table.0.grid.rows cell.row) (chosen (the_column.0.info.is_formula && has the_table.0.grid.rows cell.row) (sym (ap (by_column the_table.0.grid) the_column.1) ∙ formula))
        where
          chosen : (b : Bool) → cond b (Some the_column.0.info.formula) None ≡ Some f → b ≡ true
          chosen true e = refl
          chosen false e = absurd (no_formula e)

      rows_are : (grid_at s cell.table).rows ≡ the_table.0.grid.rows
      rows_are = ap (λ (g : Grid ColDef). g.rows) (grid_found s cell.table the_table.0 the_table.1)

      module _ (rows : List ℕ) (seen_rows : rows ≡ (grid_at s cell.table).rows) where
        pub row_found : has rows cell.row ≡ false → ⊥
        row_found h = true≢false (sym (ap (λ l. has l cell.row) (seen_rows ∙ rows_are) ∙ both.1) ∙ h)

        module _ (p : ℕ) (at_row : slice_get rows p ≡ Some cell.row) where
          within : p < length the_place.0.values.items
          within = subst (λ n. p < n) (ap length (seen_rows ∙ rows_are) ∙ sym (places_of the_table.0.grid.rows the_column.0 the_place.0 the_column.2 both.0)) (slice_get_within rows p cell.row at_row)

          pub spot : HasSpot ks i j p
          spot = (k, k_here, (the_place.0, the_place.1, within))

          -- what a put does to all cells
          pub spot_put : (new : List KeptTable) (v w : Option CellValue) → IsPutInTables ks new i j p v w → IsAscending rows
              → (c : CellId) → held_at s new c ≡ cond (same_cell cell c) v (held_at s ks c)
          spot_put new v w done ascends =
              put_done s ks new cell v w i j p done first_table (λ x h. subst (λ (x : KeptTable). IsFirst kept_column_id cell.column x.columns.items j) (same_item (slice_get ks i) k x k_here h) first_column)
              rows seen_rows ascends at_row
              (λ x e h g.
              let at : slice_get k.columns.items j ≡ Some e = subst (λ (x : KeptTable). slice_get x.columns.items j ≡ Some e) (sym (same_item (slice_get ks i) k x k_here h)) g in
              subst (λ (x : KeptColumn). p < length x.values.items) (same_item (slice_get k.columns.items j) the_place.0 e the_place.1 at) within)

          -- what it takes out is what was held
          pub spot_was : (new : List KeptTable) (v w : Option CellValue) → IsPutInTables ks new i j p v w → IsAscending rows → w ≡ held_at s ks cell
          spot_was new v w done ascends =
              let e : KeptColumn = done.put.was in
              let is_k : done.was ≡ k = same_item (slice_get ks i) done.was k done.here k_here in
              let at : slice_get k.columns.items j ≡ Some e = subst (λ (x : KeptTable). slice_get x.columns.items j ≡ Some e) is_k done.put.here in
              ap joined (sym done.put.put.before)
              ∙ held-get rows e.values.items p cell.row ascends at_row
              ∙ ap (λ l. held_in l e.values.items cell.row) seen_rows
              ∙ held_found s ks cell.table cell.column cell.row k (sym k_found) e (sym (find-first kept_column_id k.columns.items cell.column j e first_column at).0)
