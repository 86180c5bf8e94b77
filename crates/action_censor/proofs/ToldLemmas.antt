-- What is told of a document in the touched rows alone tells all the changes.
use Rattle.std.proofs.Common.{ℕ, Bool, true, false, cond, ◌&&◌, nat_eq, List, [], ◌∷◌, map, filter, ◌≡◌, refl, sym, ap, subst, ◌∙◌, Some, unwrap_or}
use Rattle.std.proofs.lemmas.Bool.{or_parts}
use Rattle.std.specs.List.{list_any}
use Rattle.std.specs.Str.{bytes_eq}
use Rattle.cell_types.specs.declared.value.CellValue.{CellValue}
use Rattle.cell_types.specs.declared.value.CellValue.TheVariants.{Null}
use Rattle.doc_model.specs.declared.column.ColDef.{ColDef}
use Rattle.doc_model.specs.declared.view.ViewTable.{ViewTable}
use Rattle.doc_model.specs.ByIds.{by_id, find_id}
use Rattle.doc_model.specs.Changes.{changes, shown_table_id}
use Rattle.doc_model.specs.Column.{column_id}
use Rattle.doc_model.specs.Document.{Document, Table, on_grid}
use Rattle.doc_model.specs.Grid.{Grid, IsGrid, beside, cell}
use Rattle.doc_model.specs.Rows.{has}
use Rattle.doc_model.proofs.Choices.{cond_false, each_weaker, map_each}
use Rattle.doc_model.proofs.GridLaws.{cell-grid_of}
use Rattle.doc_model.specs.LaidOut.{IsLaidOut}
use Rattle.plain_view.proofs.PartLemmas.{each_passes}
use Rattle.censored_view.specs.Parts.{part, shown_part}
use Rattle.censored_view.specs.Readable.{Readable, row_of}
use Rattle.censored_view.specs.View.{is_shown, shown_columns, shown_rows}
use Rattle.censored_view.proofs.ShownRows.{row_same}
use Rattle.action_censor.specs.Back.{all_rows_back, back, first_held, grid_back}
use Rattle.action_censor.specs.FollowLaws.{AreToldIn, IsToldIn, NarrowLaw, ToldLaw}
use Rattle.action_censor.specs.Step.{Step, is_row_of, is_table_of}
use Rattle.action_censor.proofs.BackLemmas.{IsLaidOut-back}

-- ---- cells of rows that are not there

nothing_beside : {V : Type 0} (test : ℕ → Bool) (ks : List ℕ) (vs : List V) (d : V) → list_any test ks ≡ false → beside test ks vs d ≡ d
nothing_beside test [] vs d h = refl
nothing_beside test (k ∷ ks) [] d h = refl
nothing_beside test (k ∷ ks) (v ∷ vs) d h =
    let two : (test k ≡ false) × (list_any test ks ≡ false) = or_parts (test k) (list_any test ks) h in
    cond_false (test k) v (beside test ks vs d) two.0 ∙ nothing_beside test ks vs d two.1

empty_row : (p : ColDef → Bool) (ds : List ColDef) → beside p ds [] Null ≡ Null
empty_row p [] = refl
empty_row p (d ∷ ds) = refl

absent_cell : (g : Grid ColDef) (c : List ℕ) (r : ℕ) → has g.rows r ≡ false → cell column_id g c r ≡ Null
absent_cell g c r out =
    ap (λ row. beside (λ d. bytes_eq (column_id d) c) g.columns row Null) (nothing_beside (λ q. nat_eq q r) g.rows g.cells [] out)
    ∙ empty_row (λ d. bytes_eq (column_id d) c) g.columns

-- ---- tables that are told of in some rows

module _ (p : ℕ → Bool) (t u : Table) (is : IsGrid column_id t.grid) (told : IsToldIn p t u) where
  cells_told : (d : ColDef) (r : ℕ) → p r ≡ true → find_id column_id d.id t.grid.columns ≡ Some d → cell column_id t.grid d.id r ≡ cell column_id u.grid d.id r
  cells_told d r passes found =
      elim (has t.grid.rows r) as (λ b. has t.grid.rows r ≡ b → cell column_id t.grid d.id r ≡ cell column_id u.grid d.id r) [
        | true ↦ λ here. told.cells d r passes found here
        | false ↦ λ out. absent_cell t.grid d.id r out ∙ sym (absent_cell u.grid d.id r (ap (λ rows. has rows r) (sym told.rows) ∙ out))
      ] refl

  rows_told : map (row_of t.grid) (filter p t.grid.rows) ≡ map (row_of u.grid) (filter p u.grid.rows)
  rows_told =
      map_each (row_of t.grid) (row_of u.grid) (filter p t.grid.rows)
      (each_weaker (λ r. p r ≡ true) (λ r. row_of t.grid r ≡ row_of u.grid r)
      (λ r passes. row_same r t.grid u.grid (record {
        columns = told.columns;
        rows = ap (λ rows. has rows r) told.rows;
        cells = λ d found here. cells_told d r passes found;
      })) (filter p t.grid.rows) (each_passes p t.grid.rows))
      ∙ ap (λ rows. map (row_of u.grid) (filter p rows)) told.rows

-- ---- parts

module _ (affected : List ℕ → Bool) (test : List ℕ → ℕ → Bool) (x : List ℕ → Readable) where
  abbrev made : List ℕ → Grid ColDef → ViewTable
  made n g = shown_rows (x n) n (shown_columns (x n) g.columns) (map (row_of g) (filter (test n) g.rows))

  made_same : (t u : Table) → IsGrid column_id t.grid → IsToldIn (test t.id) t u → made t.id t.grid ≡ made u.id u.grid
  made_same t u is told =
      ap (λ cs. shown_rows (x t.id) t.id (shown_columns (x t.id) cs) (map (row_of t.grid) (filter (test t.id) t.grid.rows))) told.columns
      ∙ ap (shown_rows (x t.id) t.id (shown_columns (x t.id) u.grid.columns)) (rows_told (test t.id) t u is told)
      ∙ ap (λ n. made n u.grid) told.id

  abbrev wanted : Table → Bool
  wanted t = affected t.id && is_shown (x t.id) t.grid.columns

  wanted_same : (t u : Table) → IsToldIn (test t.id) t u → wanted t ≡ wanted u
  wanted_same t u told =
      ap (λ cs. affected t.id && is_shown (x t.id) cs) told.columns
      ∙ ap (λ n. affected n && is_shown (x n) u.grid.columns) told.id

  abbrev parts_of : Document → List ViewTable
  parts_of s = map (λ (t : Table). shown_part (test t.id) (x t.id) t) (filter wanted s)

  same_parts : (s e : Document) → IsLaidOut s → AreToldIn test s e → parts_of s ≡ parts_of e
  same_parts [] [] laid told = refl
  same_parts [] (u ∷ e) laid told = absurd told
  same_parts (t ∷ s) [] laid told = absurd told
  same_parts (t ∷ s) (u ∷ e) laid told =
      let rest : parts_of s ≡ parts_of e = same_parts s e (record { distinct = laid.distinct.1; grids = laid.grids.1; names = laid.names.1 }) told.1 in
      elim (wanted t) as (λ b. wanted t ≡ b → map (λ (t : Table). shown_part (test t.id) (x t.id) t) (cond b (t ∷ filter wanted s) (filter wanted s)) ≡ map (λ (t : Table). shown_part (test t.id) (x t.id) t) (cond (wanted u) (u ∷ filter wanted e) (filter wanted e))) [
        | true ↦ λ yes'.
            subst (λ b. made t.id t.grid ∷ parts_of s ≡ map (λ (t : Table). shown_part (test t.id) (x t.id) t) (cond b (u ∷ filter wanted e) (filter wanted e))) (sym yes' ∙ wanted_same t u told.0)
            (ap (λ v. v ∷ parts_of s) (made_same t u laid.grids.0 told.0) ∙ ap (λ l. made u.id u.grid ∷ l) rest)
        | false ↦ λ not'.
            subst (λ b. parts_of s ≡ map (λ (t : Table). shown_part (test t.id) (x t.id) t) (cond b (u ∷ filter wanted e) (filter wanted e))) (sym not' ∙ wanted_same t u told.0) rest
      ] refl

  pub part_same : (s e : Document) → IsLaidOut s → AreToldIn test s e → part affected test x s ≡ part affected test x e
  part_same s e laid told = ap (by_id shown_table_id) (same_parts s e laid told)

-- ---- what was there before is told of too

module _ (ks : List Step) where
  back_told : (t u : Table) → IsGrid column_id t.grid → IsToldIn (is_row_of ks t.id) t u → IsToldIn (is_row_of ks t.id) (on_grid (grid_back ks t.id) t) (on_grid (grid_back ks u.id) u)
  back_told t u is told =
      subst (λ n. IsToldIn (is_row_of ks t.id) (on_grid (grid_back ks t.id) t) (on_grid (grid_back ks n) u)) told.id (record {
        id = told.id;
        columns = told.columns;
        rows = ap (all_rows_back ks t.id) told.rows;
        cells = λ d r passes found here.
            let was : CellValue → CellValue = λ v. unwrap_or (first_held ks t.id d.id r) v in
            cell-grid_of column_id t.grid.columns (all_rows_back ks t.id t.grid.rows) (λ (d : ColDef) r. unwrap_or (first_held ks t.id d.id r) (cell column_id t.grid d.id r)) d r found here
            ∙ ap was (cells_told (is_row_of ks t.id) t u is told d r passes found)
            ∙ sym (cell-grid_of column_id u.grid.columns (all_rows_back ks t.id u.grid.rows) (λ (d : ColDef) r. unwrap_or (first_held ks t.id d.id r) (cell column_id u.grid d.id r)) d r
            (ap (find_id column_id d.id) (sym told.columns) ∙ found) (ap (λ rows. has (all_rows_back ks t.id rows) r) (sym told.rows) ∙ here));
      })

  all_back : (s e : Document) → IsLaidOut s → AreToldIn (is_row_of ks) s e → AreToldIn (is_row_of ks) (back ks s) (back ks e)
  all_back [] [] laid told = tt
  all_back [] (u ∷ e) laid told = absurd told
  all_back (t ∷ s) [] laid told = absurd told
  all_back (t ∷ s) (u ∷ e) laid told =
      (back_told t u laid.grids.0 told.0, all_back s e (record { distinct = laid.distinct.1; grids = laid.grids.1; names = laid.names.1 }) told.1)

pub changes-told : NarrowLaw → ToldLaw
changes-told narrow ks x d s laid laid' schema told =
    sym (narrow ks x d laid schema)
    ∙ ap (λ v. changes v (part (is_table_of ks) (is_row_of ks) x d))
    (part_same (is_table_of ks) (is_row_of ks) x (back ks d) (back ks s) (IsLaidOut-back ks d laid) (all_back ks d s laid told))
    ∙ ap (changes (part (is_table_of ks) (is_row_of ks) x (back ks s))) (part_same (is_table_of ks) (is_row_of ks) x d s laid told)
    ∙ narrow ks x s laid' schema
