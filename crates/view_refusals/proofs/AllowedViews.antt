-- What a context shows of a document has some of its tables, columns and rows, and no others.
use Rattle.std.proofs.Common.{ℕ, Bool, true, false, cond, List, [], ◌∷◌, map, filter, ◌≡◌, refl, sym, ap, subst, ◌∙◌, Option, Some, None, option_map}
use Rattle.std.proofs.lemmas.Bool.{and_parts}
use Rattle.std.specs.List.{AllByRecursion}
use Rattle.doc_model.specs.declared.column.ColDef.{ColDef}
use Rattle.doc_model.specs.declared.view.ViewTable.{ViewTable}
use Rattle.doc_model.specs.ByIds.{AreDistinct, find_id}
use Rattle.doc_model.specs.Changes.{shown_table_id}
use Rattle.doc_model.specs.Column.{column_id}
use Rattle.doc_model.specs.Document.{Document, Table, table_id}
use Rattle.doc_model.specs.Grid.{Grid, IsGrid}
use Rattle.doc_model.specs.LaidOut.{HaveSameParts, IsLaidOut, no_cells}
use Rattle.doc_model.specs.Rows.{all_in, has}
use Rattle.doc_model.specs.ViewEdits.{shown_id}
use Rattle.doc_model.proofs.ByIdsLaws.{each_by_id, each_found, found_all}
use Rattle.doc_model.proofs.Choices.{both_true, each_filter, each_mapped}
use Rattle.doc_model.proofs.RowsLaws.{all_in_itself}
use Rattle.plain_view.proofs.PartLemmas.{find-mapped}
use Rattle.user_objections.specs.Unopposed.{IsColumnOf, IsTableOf, UnopposedLaw}
use Rattle.censored_view.specs.Readable.{Readable, row_of}
use Rattle.censored_view.specs.View.{is_row_shown, is_shown, shown_column, shown_columns, shown_table, view}
use Rattle.censored_view.proofs.ShownRows.{ids_made}
use Rattle.view_refusals.specs.RefusalLaws.{AllowedLaw}

-- a table of one document is in the other, but for its cells
found_same : (s t : Document) → HaveSameParts s t → (c : List ℕ) (u : Table) → find_id table_id c t ≡ Some u → (w : Table) × (find_id table_id c s ≡ Some w) × (no_cells w ≡ no_cells u)
found_same s t same c u found =
    elim (find_id table_id c s) as (λ (o : Option Table). option_map no_cells o ≡ Some (no_cells u) → (w : Table) × (o ≡ Some w) × (no_cells w ≡ no_cells u)) [
      | None ↦ λ e. absurd (cc)
      | Some w ↦ λ e. (w, refl, cc)
    ] (sym (find-mapped table_id table_id no_cells (λ t. refl) c s) ∙ ap (find_id table_id c) same ∙ find-mapped table_id table_id no_cells (λ t. refl) c t ∙ ap (option_map no_cells) found)

-- those that pass of rows that are there are there
some_in : (p : ℕ → Bool) (rows all : List ℕ) → all_in rows all ≡ true → all_in (filter p rows) all ≡ true
some_in p [] all h = refl
some_in p (r ∷ rows) all h =
    let two : (has all r ≡ true) × (all_in rows all ≡ true) = and_parts (has all r) (all_in rows all) h in
    elim (p r) as (λ b. all_in (cond b (r ∷ filter p rows) (filter p rows)) all ≡ true) [
      | true ↦ both_true (has all r) (all_in (filter p rows) all) two.0 (some_in p rows all two.1)
      | false ↦ some_in p rows all two.1
    ]

columns_shown : (x : Readable) (w : Table) (ds : List ColDef) → AreDistinct column_id ds → w.grid.columns ≡ ds → AllByRecursion (IsColumnOf w) (shown_columns x ds)
columns_shown x w ds distinct same =
    each_by_id shown_id (IsColumnOf w) (map (shown_column x) (filter (λ (d : ColDef). x.column d.id) ds))
    (each_mapped (IsColumnOf w) (shown_column x) (filter (λ (d : ColDef). x.column d.id) ds)
    (each_filter (λ d. IsColumnOf w (shown_column x d)) (λ (d : ColDef). x.column d.id) ds
    (each_found column_id (λ d. IsColumnOf w (shown_column x d)) ds distinct
    (λ d found. record { column = d; found = ap (find_id column_id d.id) same ∙ found; same_type = refl; same_kind = refl }))))

table_shown : (x : Readable) (s : Document) (u w : Table) → find_id table_id u.id s ≡ Some w → IsGrid column_id u.grid → w.grid.columns ≡ u.grid.columns → w.grid.rows ≡ u.grid.rows → IsTableOf s (shown_table x u)
table_shown x s u w found is columns rows =
    let P : List ℕ → Type 0 = λ rows. all_in rows w.grid.rows ≡ true in
    let shows : ℕ → Bool = λ r. is_row_shown x (shown_columns x u.grid.columns) (row_of u.grid r) in
    record {
      table = w;
      found = found;
      columns = columns_shown x w u.grid.columns is.distinct columns;
      rows = subst P (sym (ids_made (is_row_shown x (shown_columns x u.grid.columns)) u.grid u.grid.rows))
          (some_in shows u.grid.rows w.grid.rows (ap (all_in u.grid.rows) rows ∙ all_in_itself u.grid.rows));
    }

each_table_shown : (x : List ℕ → Readable) (s t : Document) → HaveSameParts s t → IsLaidOut t → AllByRecursion (IsTableOf s) (view x t)
each_table_shown x s t same laid =
    let passes : Table → Bool = λ u. is_shown (x u.id) u.grid.columns in
    let as_shown : Table → ViewTable = λ u. shown_table (x u.id) u in
    each_by_id shown_table_id (IsTableOf s) (map as_shown (filter passes t))
    (each_mapped (IsTableOf s) as_shown (filter passes t)
    (each_filter (λ u. IsTableOf s (as_shown u)) passes t
    (each_found table_id (λ u. IsTableOf s (as_shown u)) t laid.distinct
    (λ u found.
    let there : (w : Table) × (find_id table_id u.id s ≡ Some w) × (no_cells w ≡ no_cells u) = found_same s t same u.id u found in
    let grids : (no_cells there.0).grid ≡ (no_cells u).grid = ap (λ (t : Table). t.grid) there.2 in
    table_shown (x u.id) s u there.0 there.1 (found_all table_id (λ t. IsGrid column_id t.grid) u.id t u laid.grids found)
    (ap (λ (g : Grid ColDef). g.columns) grids) (ap (λ (g : Grid ColDef). g.rows) grids)))))

pub allowed_shown : UnopposedLaw → AllowedLaw
allowed_shown law x s t a same laid none = law s a (record { view = view x t; shown = each_table_shown x s t same laid; none = none })
