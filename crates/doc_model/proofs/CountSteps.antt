-- The counted sums of a document after each action.
use Rattle.std.proofs.Common.{ℕ, Bool, true, false, cond, not, ◌&&◌, ◌+◌, ◌*◌, List, [], ◌∷◌, map, filter, ◌≡◌, length, refl, sym, ap, ◌∙◌, Option, Some, None, eqb, arith}
use Rattle.std.proofs.Math.Nat.{add-mul}
use Rattle.std.proofs.lemmas.Bool.{false≢true, true≢false, and_parts}
use Rattle.std.specs.List.{list_all, AllByRecursion}
use Rattle.std.specs.Str.{bytes_eq}
use Rattle.doc_model.specs.declared.action.DocAction.TheVariants.{BulkAdd, BulkUpdate, BulkRemove}
use Rattle.doc_model.specs.declared.column.CellColumn.{CellColumn}
use Rattle.doc_model.specs.declared.column.ColDef.{ColDef}
use Rattle.doc_model.specs.MetadataIds.{is_schema_id, is_metadata_id}
use Rattle.doc_model.specs.ByIds.{find_id, has_id, AreDistinct, are_distinct, with_id}
use Rattle.doc_model.specs.Rows.{insert_rows, without, has_no_duplicates, all_in, none_in, IsAscending}
use Rattle.doc_model.specs.Grid.{Grid}
use Rattle.doc_model.specs.Records.{given_id, add_rows, update_rows, remove_rows}
use Rattle.doc_model.specs.Column.{column_id, column_row, start_of}
use Rattle.doc_model.specs.Document.{Table, Document, table_id, on_grid, with_table}
use Rattle.doc_model.specs.Sound.{IsSoundGrid, IsSound}
use Rattle.doc_model.specs.Valid.{passes, record_table, is_data, gives_column, gives_data, from_one, valid}
use Rattle.doc_model.specs.Counts.{total, grid_weight, grid_cells, counted, counts}
use Rattle.doc_model.specs.CountLaws.{Sums, nothing, sums_of, column_weight, rows_weight, given_weight, sums_removed, sums_added, SumsMove}
use Rattle.doc_model.specs.Apply.{effect}
use Rattle.doc_model.proofs.Choices.{cond_true, cond_false, keep, parts_3, parts_4, each_true, each_weaker, filter_all}
use Rattle.doc_model.proofs.ByIdsLaws.{find-filtered, found_all, has_found, AreDistinct-are_distinct}
use Rattle.doc_model.proofs.ByRowLaws.{AreDistinct-filter}
use Rattle.doc_model.proofs.TotalsLaws.{sum_of, length-total, total-with_id, total-insert_rows, total-without}
use Rattle.doc_model.proofs.WeightLaws.{weight-add_rows, weight-update_rows, weight-remove_rows}
use Rattle.doc_model.proofs.DocumentParts.{passes_parts}

-- the cells of rows
length-insert_rows : (qs rows : List ℕ) → has_no_duplicates qs ≡ true → none_in qs rows ≡ true → length (insert_rows qs rows) ≡ length qs + length rows
length-insert_rows qs rows o n =
    let all : sum_of (λ _. 1) (insert_rows qs rows) ≡ sum_of (λ _. 1) qs + sum_of (λ _. 1) rows = total-insert_rows (λ _. 1) qs rows o n in
    let a : sum_of (λ _. 1) (insert_rows qs rows) ≡ length (insert_rows qs rows) = length-total (insert_rows qs rows) in
    let b : sum_of (λ _. 1) qs ≡ length qs = length-total qs in
    let c : sum_of (λ _. 1) rows ≡ length rows = length-total rows in
    omega arith

pub length-without : (qs rows : List ℕ) → IsAscending rows → has_no_duplicates qs ≡ true → all_in qs rows ≡ true → length (without qs rows) + length qs ≡ length rows
length-without qs rows asc o t =
    let all : sum_of (λ _. 1) (without qs rows) + sum_of (λ _. 1) qs ≡ sum_of (λ _. 1) rows = total-without (λ _. 1) qs rows asc o t in
    let a : sum_of (λ _. 1) (without qs rows) ≡ length (without qs rows) = length-total (without qs rows) in
    let b : sum_of (λ _. 1) qs ≡ length qs = length-total qs in
    let c : sum_of (λ _. 1) rows ≡ length rows = length-total rows in
    omega arith

-- a test of ids is met alike after a change that keeps ids
filter-with_id : (p : List ℕ → Bool) (c : List ℕ) (f : Table → Table) (xs : List Table) → ((x : Table) → (f x).id ≡ x.id)
    → filter (λ (t : Table). p t.id) (with_id table_id c f xs) ≡ with_id table_id c f (filter (λ (t : Table). p t.id) xs)
filter-with_id p c f [] k = refl
filter-with_id p c f (x ∷ xs) k =
    ap (λ b. cond b (cond (bytes_eq x.id c) (f x) x ∷ filter (λ (t : Table). p t.id) (with_id table_id c f xs)) (filter (λ (t : Table). p t.id) (with_id table_id c f xs)))
    (elim (bytes_eq x.id c) as (λ b. p (cond b (f x) x).id ≡ p x.id) [ true ↦ ap p (k x) | false ↦ refl ])
    ∙ ap (λ ys. cond (p x.id) (cond (bytes_eq x.id c) (f x) x ∷ ys) ys) (filter-with_id p c f xs k)
    ∙ elim (p x.id) as (λ b. cond b (cond (bytes_eq x.id c) (f x) x ∷ with_id table_id c f (filter (λ (t : Table). p t.id) xs)) (with_id table_id c f (filter (λ (t : Table). p t.id) xs))
    ≡ with_id table_id c f (cond b (x ∷ filter (λ (t : Table). p t.id) xs) (filter (λ (t : Table). p t.id) xs))) [ true ↦ refl | false ↦ refl ]

length_with_id : (c : List ℕ) (f : Table → Table) (xs : List Table) → length (with_id table_id c f xs) ≡ length xs
length_with_id c f xs = Rattle.doc_model.proofs.Choices.length_map (λ x. cond (bytes_eq (table_id x) c) (f x) x) xs

-- sums after a record action
module _ (s : Document) (sound : IsSound s) (id : List ℕ) (t : Table) (found : record_table s id ≡ Some t) (f : Grid ColDef → Grid ColDef) where
  abbrev after : Document
  after = with_table id (on_grid f) s

  record_parts : (is_schema_id id ≡ false) × (find_id table_id id s ≡ Some t)
  record_parts =
      elim (is_schema_id id) as (λ b. is_schema_id id ≡ b → cond b None (find_id table_id id s) ≡ Some t → (is_schema_id id ≡ false) × (find_id table_id id s ≡ Some t)) [
        | true ↦ λ _ e. absurd (cc)
        | false ↦ λ no e. (no, e)
      ] refl found

  counted-after : (m : Table → ℕ) → sum_of m (counted after) + m t ≡ sum_of m (counted s) + m (on_grid f t)
  counted-after m =
      let test : Table → Bool = λ (t : Table). not (is_schema_id t.id) in
      let moved : sum_of m (counted after) ≡ sum_of m (with_table id (on_grid f) (counted s)) = ap (sum_of m) (filter-with_id (λ i. not (is_schema_id i)) id (on_grid f) s (λ x. refl)) in
      let there : find_id table_id id (counted s) ≡ Some t
      = find-filtered table_id test id s sound.distinct ∙ ap (keep test) record_parts.1
      ∙ cond_true (not (is_schema_id t.id)) (Some t) None (ap not (ap is_schema_id (Rattle.doc_model.proofs.ByIdsLaws.found_id table_id id s t record_parts.1) ∙ record_parts.0)) in
      let sums : sum_of m (with_table id (on_grid f) (counted s)) + m t ≡ sum_of m (counted s) + m (on_grid f t)
      = total-with_id table_id m id (on_grid f) (counted s) t (AreDistinct-filter table_id test s sound.distinct) there in
      omega arith

  tables-after : (counts after).tables ≡ (counts s).tables
  tables-after =
      ap length (filter-with_id (λ i. not (is_metadata_id i)) id (on_grid f) s (λ x. refl)) ∙ length_with_id id (on_grid f) (filter (λ (t : Table). not (is_metadata_id t.id)) s)

  pub grid_sound : IsSoundGrid t.grid
  grid_sound = found_all table_id (λ t. IsSoundGrid t.grid) id s t sound.grids record_parts.1

  pub found_record : find_id table_id id s ≡ Some t
  found_record = record_parts.1

  pub cells_move : (counts after).cells + grid_cells t.grid ≡ (counts s).cells + grid_cells (f t.grid)
  cells_move = counted-after (λ t. grid_cells t.grid)

  pub weight_move : (counts after).weight + grid_weight t.grid ≡ (counts s).weight + grid_weight (f t.grid)
  weight_move = counted-after (λ t. grid_weight t.grid)

  pub tables_same : (counts after).tables ≡ (counts s).tables
  tables_same = tables-after

-- what validity says of the given columns
given_parts : (g : Grid ColDef) (rows : List ℕ) (ks : List CellColumn) → gives_data g rows ks ≡ true
    → AreDistinct given_id ks × AllByRecursion (λ k. has_id column_id g.columns k.id ≡ true) ks × AllByRecursion (λ k. length k.values ≡ length rows) ks
given_parts g rows ks e =
    let two : (are_distinct given_id ks ≡ true) × (list_all (gives_column g rows) ks ≡ true) = and_parts (are_distinct given_id ks) (list_all (gives_column g rows) ks) e in
    let each : AllByRecursion (λ k. gives_column g rows k ≡ true) ks = each_true (gives_column g rows) ks two.1 in (
      AreDistinct-are_distinct given_id ks two.0,
      each_weaker (λ k. gives_column g rows k ≡ true) (λ k. has_id column_id g.columns k.id ≡ true) (λ k h. data_there g k.id (three k h).0) ks each,
      each_weaker (λ k. gives_column g rows k ≡ true) (λ k. length k.values ≡ length rows) (λ k h. Rattle.std.proofs.lemmas.Bool.eqb-true (length k.values) (length rows) (three k h).1) ks each,
    )
  where
    three : (k : CellColumn) → gives_column g rows k ≡ true → (is_data g k.id ≡ true) × (eqb (length k.values) (length rows) ≡ true) × (list_all Rattle.doc_model.specs.Column.is_base k.values ≡ true)
    three k h = parts_3 (is_data g k.id) (eqb (length k.values) (length rows)) (list_all Rattle.doc_model.specs.Column.is_base k.values) h

    data_there : (g : Grid ColDef) (c : List ℕ) → is_data g c ≡ true → has_id column_id g.columns c ≡ true
    data_there g c h = by (find_id column_id c g.columns) refl h
      where
        by : (o : Option ColDef) → find_id column_id c g.columns ≡ o → passes o (λ (d : ColDef). not d.info.is_formula) ≡ true → has_id column_id g.columns c ≡ true
        by None e h = absurd (false≢true h)
        by (Some d) e h = has_found column_id c g.columns d e

module _ (s : Document) (sound : IsSound s) (table : List ℕ) where
  pub add_sums : (rows : List ℕ) (ks : List CellColumn) → valid s (BulkAdd table rows ks) ≡ true → SumsMove s (effect s (BulkAdd table rows ks)) (BulkAdd table rows ks)
  add_sums rows ks v =
      let parts : (t : Table) × ((record_table s table ≡ Some t) × ((((has_no_duplicates rows && from_one rows) && none_in rows t.grid.rows) && gives_data t.grid rows ks) ≡ true))
      = passes_parts (record_table s table) (λ t. has_no_duplicates rows && from_one rows && none_in rows t.grid.rows && gives_data t.grid rows ks) v in
      let t : Table = parts.0 in
      let tests : (has_no_duplicates rows ≡ true) × (from_one rows ≡ true) × (none_in rows t.grid.rows ≡ true) × (gives_data t.grid rows ks ≡ true) = parts_4 (has_no_duplicates rows) (from_one rows) (none_in rows t.grid.rows) (gives_data t.grid rows ks) parts.1.1 in
      let f : Grid ColDef → Grid ColDef = add_rows column_id start_of rows ks in
      let g : IsSoundGrid t.grid = grid_sound s sound table t parts.1.0 f in
      let given : AreDistinct given_id ks × AllByRecursion (λ k. has_id column_id t.grid.columns k.id ≡ true) ks × AllByRecursion (λ k. length k.values ≡ length rows) ks = given_parts t.grid rows ks tests.3 in
      let here : sums_of s table (λ g. record { tables = 0; cells = length rows * length g.columns; weight = given_weight ks }) ≡ record { tables = 0; cells = length rows * length t.grid.columns; weight = given_weight ks }
      = ap (λ o. elim o as (λ _. Sums) [ None ↦ nothing | Some t ↦ record { tables = 0; cells = length rows * length t.grid.columns; weight = given_weight ks } ]) (found_record s sound table t parts.1.0 f) in
      let c : (sums_added s (BulkAdd table rows ks)).cells ≡ length rows * length t.grid.columns = ap (λ x. x.cells) here in
      let w : (sums_added s (BulkAdd table rows ks)).weight ≡ given_weight ks = ap (λ x. x.weight) here in
      let n : (sums_added s (BulkAdd table rows ks)).tables ≡ 0 = ap (λ x. x.tables) here in
      let tables : (counts (effect s (BulkAdd table rows ks))).tables ≡ (counts s).tables = tables_same s sound table t parts.1.0 f in
      let cells : (counts (effect s (BulkAdd table rows ks))).cells + length t.grid.rows * length t.grid.columns ≡ (counts s).cells + length (insert_rows rows t.grid.rows) * length t.grid.columns = cells_move s sound table t parts.1.0 f in
      let more : length (insert_rows rows t.grid.rows) * length t.grid.columns ≡ length rows * length t.grid.columns + length t.grid.rows * length t.grid.columns
      = ap (λ n. n * length t.grid.columns) (length-insert_rows rows t.grid.rows tests.0 tests.2) ∙ add-mul (length rows) (length t.grid.rows) (length t.grid.columns) in
      let weight : (counts (effect s (BulkAdd table rows ks))).weight + grid_weight t.grid ≡ (counts s).weight + grid_weight (f t.grid) = weight_move s sound table t parts.1.0 f in
      let heavier : grid_weight (f t.grid) ≡ grid_weight t.grid + given_weight ks = weight-add_rows t.grid g.is_grid rows tests.0 ks given.0 given.1 given.2 tests.2 in
      record { tables = omega arith; cells = omega arith; weight = omega arith }

  pub update_sums : (rows : List ℕ) (ks : List CellColumn) → valid s (BulkUpdate table rows ks) ≡ true → SumsMove s (effect s (BulkUpdate table rows ks)) (BulkUpdate table rows ks)
  update_sums rows ks v =
      let parts : (t : Table) × ((record_table s table ≡ Some t) × ((((has_no_duplicates rows && from_one rows) && all_in rows t.grid.rows) && gives_data t.grid rows ks) ≡ true))
      = passes_parts (record_table s table) (λ t. has_no_duplicates rows && from_one rows && all_in rows t.grid.rows && gives_data t.grid rows ks) v in
      let t : Table = parts.0 in
      let tests : (has_no_duplicates rows ≡ true) × (from_one rows ≡ true) × (all_in rows t.grid.rows ≡ true) × (gives_data t.grid rows ks ≡ true) = parts_4 (has_no_duplicates rows) (from_one rows) (all_in rows t.grid.rows) (gives_data t.grid rows ks) parts.1.1 in
      let f : Grid ColDef → Grid ColDef = update_rows column_id rows ks in
      let g : IsSoundGrid t.grid = grid_sound s sound table t parts.1.0 f in
      let given : AreDistinct given_id ks × AllByRecursion (λ k. has_id column_id t.grid.columns k.id ≡ true) ks × AllByRecursion (λ k. length k.values ≡ length rows) ks = given_parts t.grid rows ks tests.3 in
      let here : sums_removed s (BulkUpdate table rows ks) ≡ record { tables = 0; cells = 0; weight = total (map (λ (k : CellColumn). column_weight t.grid rows k.id) ks) }
      = ap (λ o. elim o as (λ _. Sums) [ None ↦ nothing | Some t ↦ record { tables = 0; cells = 0; weight = total (map (λ (k : CellColumn). column_weight t.grid rows k.id) ks) } ]) (found_record s sound table t parts.1.0 f) in
      let c : (sums_removed s (BulkUpdate table rows ks)).cells ≡ 0 = ap (λ x. x.cells) here in
      let w : (sums_removed s (BulkUpdate table rows ks)).weight ≡ total (map (λ (k : CellColumn). column_weight t.grid rows k.id) ks) = ap (λ x. x.weight) here in
      let n : (sums_removed s (BulkUpdate table rows ks)).tables ≡ 0 = ap (λ x. x.tables) here in
      let tables : (counts (effect s (BulkUpdate table rows ks))).tables ≡ (counts s).tables = tables_same s sound table t parts.1.0 f in
      let cells : (counts (effect s (BulkUpdate table rows ks))).cells + grid_cells t.grid ≡ (counts s).cells + grid_cells t.grid = cells_move s sound table t parts.1.0 f in
      let weight : (counts (effect s (BulkUpdate table rows ks))).weight + grid_weight t.grid ≡ (counts s).weight + grid_weight (f t.grid) = weight_move s sound table t parts.1.0 f in
      let moved : grid_weight (f t.grid) + total (map (λ (k : CellColumn). column_weight t.grid rows k.id) ks) ≡ grid_weight t.grid + given_weight ks = weight-update_rows t.grid g.is_grid rows tests.0 ks given.0 given.1 given.2 tests.2 in
      record { tables = omega arith; cells = omega arith; weight = omega arith }

  pub remove_sums : (rows : List ℕ) → valid s (BulkRemove table rows) ≡ true → SumsMove s (effect s (BulkRemove table rows)) (BulkRemove table rows)
  remove_sums rows v =
      let parts : (t : Table) × ((record_table s table ≡ Some t) × ((has_no_duplicates rows && all_in rows t.grid.rows) ≡ true)) = passes_parts (record_table s table) (λ t. has_no_duplicates rows && all_in rows t.grid.rows) v in
      let t : Table = parts.0 in
      let tests : (has_no_duplicates rows ≡ true) × (all_in rows t.grid.rows ≡ true) = and_parts (has_no_duplicates rows) (all_in rows t.grid.rows) parts.1.1 in
      let f : Grid ColDef → Grid ColDef = remove_rows column_id rows in
      let g : IsSoundGrid t.grid = grid_sound s sound table t parts.1.0 f in
      let here : sums_removed s (BulkRemove table rows) ≡ record { tables = 0; cells = length rows * length t.grid.columns; weight = rows_weight t.grid rows }
      = ap (λ o. elim o as (λ _. Sums) [ None ↦ nothing | Some t ↦ record { tables = 0; cells = length rows * length t.grid.columns; weight = rows_weight t.grid rows } ]) (found_record s sound table t parts.1.0 f) in
      let c : (sums_removed s (BulkRemove table rows)).cells ≡ length rows * length t.grid.columns = ap (λ x. x.cells) here in
      let w : (sums_removed s (BulkRemove table rows)).weight ≡ rows_weight t.grid rows = ap (λ x. x.weight) here in
      let n : (sums_removed s (BulkRemove table rows)).tables ≡ 0 = ap (λ x. x.tables) here in
      let tables : (counts (effect s (BulkRemove table rows))).tables ≡ (counts s).tables = tables_same s sound table t parts.1.0 f in
      let cells : (counts (effect s (BulkRemove table rows))).cells + length t.grid.rows * length t.grid.columns ≡ (counts s).cells + length (without rows t.grid.rows) * length t.grid.columns = cells_move s sound table t parts.1.0 f in
      let less : length t.grid.rows * length t.grid.columns ≡ length (without rows t.grid.rows) * length t.grid.columns + length rows * length t.grid.columns
      = ap (λ n. n * length t.grid.columns) (sym (length-without rows t.grid.rows g.is_grid.ascending tests.0 tests.1)) ∙ add-mul (length (without rows t.grid.rows)) (length rows) (length t.grid.columns) in
      let weight : (counts (effect s (BulkRemove table rows))).weight + grid_weight t.grid ≡ (counts s).weight + grid_weight (f t.grid) = weight_move s sound table t parts.1.0 f in
      let lighter : grid_weight (f t.grid) + rows_weight t.grid rows ≡ grid_weight t.grid = weight-remove_rows t.grid g.is_grid rows tests.0 tests.1 in
      record { tables = omega arith; cells = omega arith; weight = omega arith }
