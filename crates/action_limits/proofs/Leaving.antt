-- Maxima after an action that takes records, a column or a table away.
use Rattle.std.proofs.Common.{ℕ, true, false, cond, not, ◌+◌, ◌-◌, ◌≤◌, max, List, [], ◌∷◌, ◌++◌, map, length, ◌≡◌, refl, sym, ap, ◌∙◌, Option, Some, None, arith, ltb}
use Rattle.std.specs.Prelude.{nat_lt}
use Rattle.std.proofs.lemmas.Bool.{true≢false, le-ltb}
use Rattle.std.specs.List.{AllByRecursion}
use Rattle.std.specs.Str.{bytes_eq}
use Rattle.doc_model.specs.declared.action.DocAction.{DocAction}
use Rattle.doc_model.specs.declared.action.DocAction.TheVariants as action
use Rattle.doc_model.specs.declared.column.ColDef.{ColDef}
use Rattle.doc_model.specs.Apply.{apply}
use Rattle.doc_model.specs.ByIds.{find_id, has_id, without_id}
use Rattle.doc_model.specs.Column.{column_id, column_row}
use Rattle.doc_model.specs.Counts.{counts, greatest}
use Rattle.doc_model.specs.Document.{Document, Table, table_id}
use Rattle.doc_model.specs.DocumentLaws.{IsWhole}
use Rattle.doc_model.specs.Grid.{Grid}
use Rattle.doc_model.specs.MetadataIds.{columns_id, is_metadata_id, tables_id}
use Rattle.doc_model.specs.MaximaLaws.{AreGreatest, Maxima, at_schema, columns_then, maxima_after, maxima_then, row_of_column, rows_in, rows_out, rows_told, staying}
use Rattle.doc_model.specs.Rows.{without}
use Rattle.doc_model.specs.Valid.{schema_table, valid}
use Rattle.doc_model.proofs.ByIdsLaws.{found_has}
use Rattle.doc_model.proofs.Choices.{each_weaker, length_map, map-map, map_each}
use Rattle.doc_model.proofs.DocumentParts.{passes_parts}
use Rattle.doc_model.proofs.SchemaMaxima.{maxima-apply, rows-left}
use Rattle.doc_readers.specs.Parts.{grid_at}
use Rattle.action_limits.specs.declared.limits.Counted.{Counted}
use Rattle.action_limits.specs.Left.{TellsMaxima, columns_removed, columns_left, goes, is_growing, number_at, rows_removed, rows_left, takes_away}
use Rattle.action_limits.proofs.AddMoves.{table_there}
use Rattle.action_limits.proofs.CountedLemmas.{grid_found}
use Rattle.action_limits.proofs.ExpansionLemmas.{has_named-valid}
use Rattle.action_limits.proofs.MaximaMoves.{IsBelow, no_new_rows, no_new_table, stays-below}
use Rattle.action_limits.proofs.SumLemmas.{greatest-cons}

-- ---- the tables that stay

-- a table that goes counts for none
stay_told : (f : Table → ℕ) (table : List ℕ) (ts : List Table) → greatest (map f (without_id table_id table ts)) ≡ greatest (map (λ t. cond (bytes_eq t.id table) 0 (f t)) ts)
stay_told f table [] = refl
stay_told f table (t ∷ ts) =
    let later : greatest (map f (without_id table_id table ts)) ≡ greatest (map (λ t. cond (bytes_eq t.id table) 0 (f t)) ts) = stay_told f table ts in
    elim (bytes_eq t.id table) as (λ b. greatest (map f (cond (not b) (t ∷ without_id table_id table ts) (without_id table_id table ts))) ≡ greatest (cond b 0 (f t) ∷ map (λ t. cond (bytes_eq t.id table) 0 (f t)) ts)) [
      | true ↦ let none : greatest (0 ∷ map (λ (t : Table). cond (bytes_eq t.id table) 0 (f t)) ts) ≡ max 0 (greatest (map (λ (t : Table). cond (bytes_eq t.id table) 0 (f t)) ts)) = greatest-cons 0 (map (λ (t : Table). cond (bytes_eq t.id table) 0 (f t)) ts) in grind arith
      | false ↦ ap (λ n. cond (nat_lt (f t) n) n (f t)) later
    ]

-- ---- how many rows go

length-at : (id xs ys : List ℕ) → length (at_schema id xs ys) ≡ number_at id (length xs) (length ys)
length-at id xs ys = elim (bytes_eq tables_id id) as (λ b. length (cond b xs (cond (bytes_eq columns_id id) ys [])) ≡ cond b (length xs) (cond (bytes_eq columns_id id) (length ys) 0)) [
  | true ↦ refl
  | false ↦ elim (bytes_eq columns_id id) as (λ b. length (cond b ys []) ≡ cond b (length ys) 0) [ true ↦ refl | false ↦ refl ]
]

told_of : (s : Document) (table : List ℕ) (t : Table) (f : Table → List ℕ) → find_id table_id table s ≡ Some t → rows_told s table f ≡ f t
told_of s table t f found = ap (λ (o : Option Table). elim o as (λ _. List ℕ) [ None ↦ [] | Some t ↦ f t ]) found

records_go : (table : List ℕ) (rows : List ℕ) (id : List ℕ) → length (cond (bytes_eq id table) rows []) ≡ cond (bytes_eq id table) (length rows) 0
records_go table rows id = elim (bytes_eq id table) as (λ b. length (cond b rows []) ≡ cond b (length rows) 0) [ true ↦ refl | false ↦ refl ]

table_goes : (s : Document) (table id : List ℕ) → valid s (action.RemoveTable table) ≡ true → length (rows_out s (action.RemoveTable table) id) ≡ number_at id 1 (length (grid_at s table).columns)
table_goes s table id v =
    let at : (t : Table) × (find_id table_id table s ≡ Some t) = table_there s table (has_named-valid s (action.RemoveTable table) v) in
    ap length (ap (λ xs. at_schema id xs (rows_told s table (λ t. map column_row t.grid.columns))) (told_of s table at.0 (λ t. t.row ∷ []) at.1)
    ∙ ap (at_schema id (at.0.row ∷ [])) (told_of s table at.0 (λ t. map column_row t.grid.columns) at.1))
    ∙ length-at id (at.0.row ∷ []) (map column_row at.0.grid.columns)
    ∙ ap (number_at id 1) (length_map column_row at.0.grid.columns ∙ ap (λ (g : Grid ColDef). length g.columns) (sym (grid_found s table at.0 at.1)))

plain_found : (s : Document) (table : List ℕ) (t : Table) → schema_table s table ≡ Some t → find_id table_id table s ≡ Some t
plain_found s table t = elim (is_metadata_id table) as (λ b. cond b None (find_id table_id table s) ≡ Some t → find_id table_id table s ≡ Some t) [ true ↦ λ e. absurd (cc) | false ↦ λ e. e ]

column_goes : (s : Document) (table column id : List ℕ) → valid s (action.RemoveColumn table column) ≡ true → length (rows_out s (action.RemoveColumn table column) id) ≡ number_at id 0 1
column_goes s table column id v =
    let parts : (t : Table) × ((schema_table s table ≡ Some t) × (has_id column_id t.grid.columns column ≡ true)) = passes_parts (schema_table s table) (λ t. has_id column_id t.grid.columns column) v in
    let d : (d : ColDef) × (find_id column_id column parts.0.grid.columns ≡ Some d) = found_has column_id column parts.0.grid.columns parts.1.1 in
    ap (λ xs. length (at_schema id [] xs)) (told_of s table parts.0 (row_of_column column) (plain_found s table parts.0 parts.1.0) ∙ ap (λ (o : Option ColDef). elim o as (λ _. List ℕ) [ None ↦ [] | Some d ↦ d.row ∷ [] ]) d.1)
    ∙ length-at id [] (d.0.row ∷ [])

-- ---- the maxima after such an action

less_by : (left out all gone : ℕ) → left + out ≡ all → out ≡ gone → left ≡ all - gone
less_by left out all gone e is = omega arith

module _ (s : Document) (whole : IsWhole s) (x : DocAction) (v : valid s x ≡ true) (shrinks : is_growing x ≡ false) (rows_go : (id : List ℕ) → length (rows_out s x id) ≡ rows_removed s x id)
    (columns_go : (t : Table) → columns_then x t ≡ length t.grid.columns - columns_removed x t.id)
    (stay : (f : Table → ℕ) → greatest (map f (staying x s)) ≡ greatest (map (λ t. cond (goes x t.id) 0 (f t)) s)) where
  part_left : (f : Maxima → ℕ) (h : Table → ℕ) → AllByRecursion (λ t. f (maxima_then s x t) ≡ h t) s → greatest (map f (maxima_after s x)) ≡ greatest (map (λ t. cond (goes x t.id) 0 (h t)) s)
  part_left f h each =
      ap (λ ps. greatest (map f (ps ++ map (maxima_then s x) (staying x s)))) (no_new_table x shrinks)
      ∙ ap greatest (sym (map-map f (maxima_then s x) (staying x s)))
      ∙ stay (λ t. f (maxima_then s x t))
      ∙ ap greatest (map_each (λ t. cond (goes x t.id) 0 (f (maxima_then s x t))) (λ t. cond (goes x t.id) 0 (h t)) s
      (each_weaker (λ t. f (maxima_then s x t) ≡ h t) (λ t. cond (goes x t.id) 0 (f (maxima_then s x t)) ≡ cond (goes x t.id) 0 (h t)) (λ t e. ap (cond (goes x t.id) 0) e) s each))

  each_columns : (ts : List Table) → AllByRecursion (λ t. columns_then x t ≡ length t.grid.columns - columns_removed x t.id) ts
  each_columns [] = tt
  each_columns (t ∷ ts) = (columns_go t, each_columns ts)

  row_count : (t : Table) → length (without (rows_out s x t.id) t.grid.rows) + length (rows_out s x t.id) ≡ length t.grid.rows → length (rows_in x t.id ++ without (rows_out s x t.id) t.grid.rows) ≡ length t.grid.rows - rows_removed s x t.id
  row_count t e =
      ap (λ ins. length (ins ++ without (rows_out s x t.id) t.grid.rows)) (no_new_rows x t.id shrinks)
      ∙ less_by (length (without (rows_out s x t.id) t.grid.rows)) (length (rows_out s x t.id)) (length t.grid.rows) (rows_removed s x t.id) e (rows_go t.id)

  told_left : (e : Counted) → (counts s).row_id ≤ 4294967295 → e.columns ≡ greatest (map (columns_left x) s) → e.rows ≡ greatest (map (rows_left s x) s) → e.row_id ≡ 0 → TellsMaxima e (apply s x)
  told_left e small columns rows row_id =
      let most : AreGreatest (counts (apply s x)) (maxima_after s x) = maxima-apply s x whole v in
      let below : IsBelow (apply s x) (counts s).columns (counts s).rows 4294967295
      = stays-below s x (counts s).columns (counts s).rows 4294967295 whole v shrinks (record { columns = omega arith; rows = omega arith; row_id = small }) in
      record {
        columns = ap (ltb 1024) (columns ∙ sym (most.columns ∙ part_left (λ (p : Maxima). p.columns) (λ t. length t.grid.columns - columns_removed x t.id) (each_columns s)));
        rows = ap (ltb 1000000) (rows ∙ sym (most.rows ∙ part_left (λ (p : Maxima). p.rows) (λ t. length t.grid.rows - rows_removed s x t.id)
            (each_weaker (λ t. length (without (rows_out s x t.id) t.grid.rows) + length (rows_out s x t.id) ≡ length t.grid.rows) (λ t. (maxima_then s x t).rows ≡ length t.grid.rows - rows_removed s x t.id) row_count s (rows-left s x whole v))));
        row_id = ap (ltb 4294967295) row_id ∙ sym (le-ltb 4294967295 (counts (apply s x)).row_id below.row_id);
      }

no_column : (t : Table) → length t.grid.columns ≡ length t.grid.columns - 0
no_column t = omega arith

-- what is left tells the maxima after an action that takes something away
pub left_maxima : (s : Document) (x : DocAction) (e : Counted) → IsWhole s → takes_away x ≡ true → valid s x ≡ true
    → (counts s).row_id ≤ 4294967295 → e.columns ≡ greatest (map (columns_left x) s) → e.rows ≡ greatest (map (rows_left s x) s) → e.row_id ≡ 0 → TellsMaxima e (apply s x)
left_maxima s (action.BulkRemove table rows) e whole takes v = told_left s whole (action.BulkRemove table rows) v refl (λ id. records_go table rows id) no_column (λ f. refl) e
left_maxima s (action.RemoveTable table) e whole takes v = told_left s whole (action.RemoveTable table) v refl (λ id. table_goes s table id v) no_column (λ f. stay_told f table s) e
left_maxima s (action.RemoveColumn table column) e whole takes v = told_left s whole (action.RemoveColumn table column) v refl (λ id. column_goes s table column id v) (λ t. refl) (λ f. refl) e
left_maxima s (action.BulkAdd table rows ks) e whole takes v = absurd (true≢false (sym takes))
left_maxima s (action.BulkUpdate table rows ks) e whole takes v = absurd (true≢false (sym takes))
left_maxima s (action.AddTable table row columns) e whole takes v = absurd (true≢false (sym takes))
left_maxima s (action.RenameTable table new) e whole takes v = absurd (true≢false (sym takes))
left_maxima s (action.AddColumn table d) e whole takes v = absurd (true≢false (sym takes))
left_maxima s (action.RenameColumn table column new) e whole takes v = absurd (true≢false (sym takes))
left_maxima s (action.ModifyColumn table column info) e whole takes v = absurd (true≢false (sym takes))
