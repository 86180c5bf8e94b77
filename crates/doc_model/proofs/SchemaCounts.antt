-- The counted sums of a document after schema actions, and after all actions.
use Rattle.std.proofs.Common.{ℕ, Bool, true, false, cond, not, ◌||◌, ◌&&◌, ◌+◌, ◌*◌, List, [], ◌∷◌, map, filter, ◌≡◌, length, refl, sym, ap, subst, ◌∙◌, Some, None, arith}
use Rattle.std.proofs.Math.Nat.{zero-mul, mul-add, mul-one}
use Rattle.std.proofs.lemmas.Bool.{true≢false, and_parts}
use Rattle.std.specs.List.{AllByRecursion}
use Rattle.std.specs.Str.{bytes_eq}
use Rattle.cell_types.specs.declared.value.CellValue.{CellValue}
use Rattle.doc_model.specs.declared.action.DocAction.{DocAction}
use Rattle.doc_model.specs.declared.action.DocAction.TheVariants.{BulkAdd, BulkUpdate, BulkRemove, AddTable, RemoveTable, RenameTable, AddColumn, RemoveColumn, RenameColumn, ModifyColumn}
use Rattle.doc_model.specs.declared.column.ColDef.{ColDef}
use Rattle.doc_model.specs.declared.column.ColInfo.{ColInfo}
use Rattle.doc_model.specs.MetadataIds.{tables_id, columns_id, resources_id, rules_id, is_schema_id, is_metadata_id}
use Rattle.doc_model.specs.ByIds.{find_id, has_id, with_id, without_id}
use Rattle.doc_model.specs.Grid.{Grid, IsGrid, cell}
use Rattle.doc_model.specs.Column.{column_id, column_row, start_of, is_sound_info}
use Rattle.doc_model.specs.Document.{Table, Document, table_id, table_row, on_grid, renamed, with_table, put_by_row, by_row}
use Rattle.doc_model.specs.Schema.{metadata_table, with_schema, plain_tables, resources, rules}
use Rattle.doc_model.specs.Sound.{IsSoundGrid}
use Rattle.doc_model.specs.Valid.{schema_table, are_free, is_new_table, is_new_column, all_null, valid}
use Rattle.doc_model.specs.Counts.{total, value_weight, row_weight, formula_bytes, grid_weight, grid_cells, counted, counts}
use Rattle.doc_model.specs.CountLaws.{Sums, nothing, sums_of, column_weight, bytes_of_formula, sums_removed, sums_added, SumsMove}
use Rattle.doc_model.specs.Apply.{new_table, add_column, remove_column, with_column, with_name, with_info, effect, apply}
use Rattle.doc_model.specs.DocumentLaws.{IsWhole}
use Rattle.doc_model.proofs.Choices.{not_true, parts_3, each_weaker, filter_all, length_map}
use Rattle.doc_model.proofs.ByIdsLaws.{bytes_itself, bytes_apart, found_id, found_all, found_has, each_found, has_found}
use Rattle.doc_model.proofs.ByRowLaws.{map-with_id}
use Rattle.doc_model.proofs.RowsLaws.{each_has}
use Rattle.doc_model.proofs.TotalsLaws.{sum_of, total-same, total-plus, length-total, total-with_id, total-without_id, total-put_by_row}
use Rattle.doc_model.proofs.WeightLaws.{weights, grid_weight-grid_of, grid_weight-own, start_weight}
use Rattle.doc_model.proofs.WholeLaws.{IsGood, IsPlain, good_from, whole_from}
use Rattle.doc_model.proofs.DocumentParts.{find_plain, schema_table_parts, passes_parts, applied, Outcome}
use Rattle.doc_model.proofs.InverseLaws.{outcome}
use Rattle.doc_model.proofs.CountSteps.{add_sums, update_sums, remove_sums}

-- ---- columns

module _ (d : ColDef) (g : Grid ColDef) (s : IsGrid column_id g) where
  length-put : length (put_by_row column_row d g.columns) ≡ length g.columns + 1
  length-put =
      let all : sum_of (λ _. 1) (put_by_row column_row d g.columns) ≡ 1 + sum_of (λ _. 1) g.columns = total-put_by_row column_id (λ _. 1) column_row d g.columns in
      let a : sum_of (λ _. 1) (put_by_row column_row d g.columns) ≡ length (put_by_row column_row d g.columns) = length-total (put_by_row column_row d g.columns) in
      let b : sum_of (λ _. 1) g.columns ≡ length g.columns = length-total g.columns in
      omega arith

  cells-add_column : grid_cells (add_column d g) ≡ grid_cells g + length g.rows
  cells-add_column =
      let more : length g.rows * length (put_by_row column_row d g.columns) ≡ length g.rows * length g.columns + length g.rows * 1 = ap (λ n. length g.rows * n) length-put ∙ mul-add (length g.rows) (length g.columns) 1 in
      let one : length g.rows * 1 ≡ length g.rows = mul-one (length g.rows) in
      omega arith

  weight-add_column : has_id column_id g.columns d.id ≡ false → grid_weight (add_column d g) ≡ grid_weight g + formula_bytes d
  weight-add_column fresh =
      let f : ColDef → ℕ → CellValue = λ e r. cond (bytes_eq e.id d.id) (start_of d) (cell column_id g e.id r) in
      let all : grid_weight (add_column d g) ≡ weights (put_by_row column_row d g.columns) g.rows f + sum_of formula_bytes (put_by_row column_row d g.columns) = grid_weight-grid_of (put_by_row column_row d g.columns) g.rows f in
      let old : grid_weight g ≡ weights g.columns g.rows (λ e r. cell column_id g e.id r) + sum_of formula_bytes g.columns = grid_weight-own g s in
      let formulas : sum_of formula_bytes (put_by_row column_row d g.columns) ≡ formula_bytes d + sum_of formula_bytes g.columns = total-put_by_row column_id formula_bytes column_row d g.columns in
      let same : weights (put_by_row column_row d g.columns) g.rows f ≡ weights g.columns g.rows (λ e r. cell column_id g e.id r)
      = total-same (λ r. sum_of (λ e. value_weight (f e r)) (put_by_row column_row d g.columns)) (λ r. sum_of (λ (e : ColDef). value_weight (cell column_id g e.id r)) g.columns) g.rows
      (each_has (λ r. sum_of (λ e. value_weight (f e r)) (put_by_row column_row d g.columns) ≡ sum_of (λ (e : ColDef). value_weight (cell column_id g e.id r)) g.columns) g.rows (λ r here. row r)) in
      omega arith
    where
      others : (r : ℕ) (cs : List ColDef) → AllByRecursion (λ e. bytes_eq d.id e.id ≡ false) cs → AllByRecursion (λ e. value_weight (cond (bytes_eq e.id d.id) (start_of d) (cell column_id g e.id r)) ≡ value_weight (cell column_id g e.id r)) cs
      others r [] h = tt
      others r (e ∷ cs) h = (ap (λ b. value_weight (cond b (start_of d) (cell column_id g e.id r))) (bytes_apart d.id e.id h.0), others r cs h.1)

      row : (r : ℕ) → sum_of (λ (e : ColDef). value_weight (cond (bytes_eq e.id d.id) (start_of d) (cell column_id g e.id r))) (put_by_row column_row d g.columns) ≡ sum_of (λ (e : ColDef). value_weight (cell column_id g e.id r)) g.columns
      row r =
          let put : sum_of (λ (e : ColDef). value_weight (cond (bytes_eq e.id d.id) (start_of d) (cell column_id g e.id r))) (put_by_row column_row d g.columns)
          ≡ value_weight (cond (bytes_eq d.id d.id) (start_of d) (cell column_id g d.id r)) + sum_of (λ (e : ColDef). value_weight (cond (bytes_eq e.id d.id) (start_of d) (cell column_id g e.id r))) g.columns
          = total-put_by_row column_id (λ (e : ColDef). value_weight (cond (bytes_eq e.id d.id) (start_of d) (cell column_id g e.id r))) column_row d g.columns in
          let mine : value_weight (cond (bytes_eq d.id d.id) (start_of d) (cell column_id g d.id r)) ≡ 0 = ap (λ b. value_weight (cond b (start_of d) (cell column_id g d.id r))) (bytes_itself d.id) ∙ start_weight d in
          let rest : sum_of (λ (e : ColDef). value_weight (cond (bytes_eq e.id d.id) (start_of d) (cell column_id g e.id r))) g.columns ≡ sum_of (λ (e : ColDef). value_weight (cell column_id g e.id r)) g.columns
          = total-same (λ (e : ColDef). value_weight (cond (bytes_eq e.id d.id) (start_of d) (cell column_id g e.id r))) (λ (e : ColDef). value_weight (cell column_id g e.id r)) g.columns (others r g.columns (Rattle.doc_model.proofs.ByIdsLaws.apart_has column_id d.id g.columns fresh)) in
          omega arith

module _ (c : List ℕ) (d : ColDef) (g : Grid ColDef) (s : IsGrid column_id g) (found : find_id column_id c g.columns ≡ Some d) where
  cells-remove_column : grid_cells (remove_column c g) + length g.rows ≡ grid_cells g
  cells-remove_column =
      let all : sum_of (λ _. 1) (without_id column_id c g.columns) + 1 ≡ sum_of (λ _. 1) g.columns = total-without_id column_id (λ _. 1) c g.columns d s.distinct found in
      let a : sum_of (λ _. 1) (without_id column_id c g.columns) ≡ length (without_id column_id c g.columns) = length-total (without_id column_id c g.columns) in
      let b : sum_of (λ _. 1) g.columns ≡ length g.columns = length-total g.columns in
      let n : length g.columns ≡ length (without_id column_id c g.columns) + 1 = omega arith in
      let more : length g.rows * length g.columns ≡ length g.rows * length (without_id column_id c g.columns) + length g.rows * 1 = ap (λ m. length g.rows * m) n ∙ mul-add (length g.rows) (length (without_id column_id c g.columns)) 1 in
      let one : length g.rows * 1 ≡ length g.rows = mul-one (length g.rows) in
      omega arith

  weight-remove_column : grid_weight (remove_column c g) + (column_weight g g.rows c + formula_bytes d) ≡ grid_weight g
  weight-remove_column =
      let own : ColDef → ℕ → CellValue = λ e r. cell column_id g e.id r in
      let all : grid_weight (remove_column c g) ≡ weights (without_id column_id c g.columns) g.rows own + sum_of formula_bytes (without_id column_id c g.columns) = grid_weight-grid_of (without_id column_id c g.columns) g.rows own in
      let old : grid_weight g ≡ weights g.columns g.rows own + sum_of formula_bytes g.columns = grid_weight-own g s in
      let formulas : sum_of formula_bytes (without_id column_id c g.columns) + formula_bytes d ≡ sum_of formula_bytes g.columns = total-without_id column_id formula_bytes c g.columns d s.distinct found in
      let named : d.id ≡ c = found_id column_id c g.columns d found in
      let plus : sum_of (λ r. sum_of (λ e. value_weight (own e r)) (without_id column_id c g.columns) + value_weight (own d r)) g.rows
      ≡ weights (without_id column_id c g.columns) g.rows own + sum_of (λ r. value_weight (own d r)) g.rows
      = total-plus (λ r. sum_of (λ e. value_weight (own e r)) (without_id column_id c g.columns)) (λ r. value_weight (own d r)) g.rows in
      let same : sum_of (λ r. sum_of (λ e. value_weight (own e r)) (without_id column_id c g.columns) + value_weight (own d r)) g.rows ≡ weights g.columns g.rows own
      = total-same (λ r. sum_of (λ e. value_weight (own e r)) (without_id column_id c g.columns) + value_weight (own d r)) (λ r. sum_of (λ e. value_weight (own e r)) g.columns) g.rows
      (each_has (λ r. sum_of (λ e. value_weight (own e r)) (without_id column_id c g.columns) + value_weight (own d r) ≡ sum_of (λ e. value_weight (own e r)) g.columns) g.rows (λ r here.
      total-without_id column_id (λ e. value_weight (own e r)) c g.columns d s.distinct found)) in
      let mine : sum_of (λ r. value_weight (own d r)) g.rows ≡ column_weight g g.rows c = ap (λ n. sum_of (λ r. value_weight (cell column_id g n r)) g.rows) named in
      omega arith

  weight-with_info : (info : ColInfo) → grid_weight (with_column c (with_info info) g) + formula_bytes d ≡ grid_weight g + length info.formula
  weight-with_info info =
      let formulas : sum_of formula_bytes (with_id column_id c (with_info info) g.columns) + formula_bytes d ≡ sum_of formula_bytes g.columns + length info.formula
      = total-with_id column_id formula_bytes c (with_info info) g.columns d s.distinct found in
      omega arith

cells-with_column : (c : List ℕ) (f : ColDef → ColDef) (g : Grid ColDef) → grid_cells (with_column c f g) ≡ grid_cells g
cells-with_column c f g = ap (λ n. length g.rows * n) (length_map (λ x. cond (bytes_eq (column_id x) c) (f x) x) g.columns)

weight-with_name : (c new : List ℕ) (g : Grid ColDef) → grid_weight (with_column c (with_name new) g) ≡ grid_weight g
weight-with_name c new g = ap (λ ns. total (map row_weight g.cells) + total ns) (map-with_id column_id formula_bytes c (with_name new) g.columns (λ x. refl))

-- ---- documents

module _ (r u : Grid ColDef) where
  counted-schema : (p : List Table) → AllByRecursion (λ t. is_metadata_id t.id ≡ false) p → counted (with_schema r u p) ≡ metadata_table resources_id r ∷ metadata_table rules_id u ∷ p
  unfolding tables_id columns_id resources_id rules_id
  counted-schema p h =
      ap (λ q. metadata_table resources_id r ∷ metadata_table rules_id u ∷ q)
      (filter_all (λ (t : Table). not (is_schema_id t.id)) p (each_weaker (λ t. is_metadata_id t.id ≡ false) (λ t. not (is_schema_id t.id) ≡ true) (λ t e. ap not (first (is_schema_id t.id) (Rattle.doc_model.specs.MetadataIds.is_acl_id t.id) e)) p h))
    where
      first : (a b : Bool) → (a || b) ≡ false → a ≡ false
      first true b e = absurd (true≢false e)
      first false b e = refl

  plain-schema : (p : List Table) → AllByRecursion (λ t. is_metadata_id t.id ≡ false) p → filter (λ (t : Table). not (is_metadata_id t.id)) (with_schema r u p) ≡ p
  unfolding tables_id columns_id resources_id rules_id
  plain-schema p h = filter_all (λ (t : Table). not (is_metadata_id t.id)) p (each_weaker (λ t. is_metadata_id t.id ≡ false) (λ t. not (is_metadata_id t.id) ≡ true) (λ t e. ap not e) p h)

  -- the sums move as those of the plain tables do
  schema_move : (p q : List Table) (a : DocAction) → AllByRecursion (λ t. is_metadata_id t.id ≡ false) p → AllByRecursion (λ t. is_metadata_id t.id ≡ false) q
      → length q + (sums_removed (with_schema r u p) a).tables ≡ length p + (sums_added (with_schema r u p) a).tables
      → sum_of (λ t. grid_cells t.grid) q + (sums_removed (with_schema r u p) a).cells ≡ sum_of (λ (t : Table). grid_cells t.grid) p + (sums_added (with_schema r u p) a).cells
      → sum_of (λ t. grid_weight t.grid) q + (sums_removed (with_schema r u p) a).weight ≡ sum_of (λ (t : Table). grid_weight t.grid) p + (sums_added (with_schema r u p) a).weight
      → SumsMove (with_schema r u p) (with_schema r u q) a
  schema_move p q a hp hq et ec ew =
      let tp : (counts (with_schema r u p)).tables ≡ length p = ap length (plain-schema p hp) in
      let tq : (counts (with_schema r u q)).tables ≡ length q = ap length (plain-schema q hq) in
      let cp : (counts (with_schema r u p)).cells ≡ grid_cells r + (grid_cells u + sum_of (λ (t : Table). grid_cells t.grid) p) = ap (sum_of (λ (t : Table). grid_cells t.grid)) (counted-schema p hp) in
      let cq : (counts (with_schema r u q)).cells ≡ grid_cells r + (grid_cells u + sum_of (λ (t : Table). grid_cells t.grid) q) = ap (sum_of (λ (t : Table). grid_cells t.grid)) (counted-schema q hq) in
      let wp : (counts (with_schema r u p)).weight ≡ grid_weight r + (grid_weight u + sum_of (λ (t : Table). grid_weight t.grid) p) = ap (sum_of (λ (t : Table). grid_weight t.grid)) (counted-schema p hp) in
      let wq : (counts (with_schema r u q)).weight ≡ grid_weight r + (grid_weight u + sum_of (λ (t : Table). grid_weight t.grid) q) = ap (sum_of (λ (t : Table). grid_weight t.grid)) (counted-schema q hq) in
      record { tables = omega arith; cells = omega arith; weight = omega arith }

  module _ (p : List Table) (good : IsGood r u p) where
    abbrev whole : Document
    whole = with_schema r u p

    -- the plain tables after an action are plain
    plain_after : (a : DocAction) (q : List Table) → valid whole a ≡ true → effect whole a ≡ with_schema r u q → AllByRecursion (λ t. is_metadata_id t.id ≡ false) q
    plain_after a q v e =
        let o : Outcome whole a (Rattle.doc_model.specs.Inverse.inverse whole a) = outcome whole a (whole_from r u p good) v in
        subst (AllByRecursion (λ t. is_metadata_id t.id ≡ false)) (ap plain_tables (sym o.becomes ∙ e)) o.good.plain

    module _ (table : List ℕ) where
      found_sums : (t : Table) (f : Grid ColDef → Sums) → IsPlain table → find_id table_id table p ≡ Some t → sums_of whole table f ≡ f t.grid
      found_sums t f plain found = ap (λ o. elim o as (λ _. Sums) [ None ↦ nothing | Some t ↦ f t.grid ]) (find_plain r u p table plain ∙ found)

      add_table_sums : (row : ℕ) (columns : List ColDef) → valid whole (AddTable table row columns) ≡ true → SumsMove whole (effect whole (AddTable table row columns)) (AddTable table row columns)
      add_table_sums row columns v =
          let t : Table = new_table table row columns in
          let q : List Table = put_by_row table_row t p in
          let lengths : sum_of (λ _. 1) q ≡ 1 + sum_of (λ _. 1) p = total-put_by_row table_id (λ _. 1) table_row t p in
          let a : sum_of (λ _. 1) q ≡ length q = length-total q in
          let b : sum_of (λ _. 1) p ≡ length p = length-total p in
          let cells : sum_of (λ (t : Table). grid_cells t.grid) q ≡ grid_cells t.grid + sum_of (λ (t : Table). grid_cells t.grid) p = total-put_by_row table_id (λ (t : Table). grid_cells t.grid) table_row t p in
          let zero' : grid_cells t.grid ≡ 0 = zero-mul (length (by_row column_row columns)) in
          let weight : sum_of (λ (t : Table). grid_weight t.grid) q ≡ grid_weight t.grid + sum_of (λ (t : Table). grid_weight t.grid) p = total-put_by_row table_id (λ (t : Table). grid_weight t.grid) table_row t p in
          let formulas : sum_of formula_bytes (by_row column_row columns) ≡ total (map formula_bytes columns) = sorted columns in
          schema_move p q (AddTable table row columns) good.plain (plain_after (AddTable table row columns) q v refl) (omega arith) (omega arith) (omega arith)
        where
          sorted : (cs : List ColDef) → sum_of formula_bytes (by_row column_row cs) ≡ sum_of formula_bytes cs
          sorted [] = refl
          sorted (d ∷ cs) = total-put_by_row column_id formula_bytes column_row d (by_row column_row cs) ∙ ap (λ n. formula_bytes d + n) (sorted cs)

      remove_table_sums : valid whole (RemoveTable table) ≡ true → SumsMove whole (effect whole (RemoveTable table)) (RemoveTable table)
      remove_table_sums v =
          let parts : (t : Table) × ((schema_table whole table ≡ Some t) × (true ≡ true)) = passes_parts (schema_table whole table) (λ (_ : Table). true) v in
          let t : Table = parts.0 in
          let at : IsPlain table × (find_id table_id table p ≡ Some t) = schema_table_parts r u p table t parts.1.0 in
          let q : List Table = without_id table_id table p in
          let lengths : sum_of (λ _. 1) q + 1 ≡ sum_of (λ _. 1) p = total-without_id table_id (λ _. 1) table p t good.distinct at.1 in
          let a : sum_of (λ _. 1) q ≡ length q = length-total q in
          let b : sum_of (λ _. 1) p ≡ length p = length-total p in
          let cells : sum_of (λ (t : Table). grid_cells t.grid) q + grid_cells t.grid ≡ sum_of (λ (t : Table). grid_cells t.grid) p = total-without_id table_id (λ (t : Table). grid_cells t.grid) table p t good.distinct at.1 in
          let weight : sum_of (λ (t : Table). grid_weight t.grid) q + grid_weight t.grid ≡ sum_of (λ (t : Table). grid_weight t.grid) p = total-without_id table_id (λ (t : Table). grid_weight t.grid) table p t good.distinct at.1 in
          let here : sums_removed whole (RemoveTable table) ≡ record { tables = 1; cells = grid_cells t.grid; weight = grid_weight t.grid } = found_sums t (λ g. record { tables = 1; cells = grid_cells g; weight = grid_weight g }) at.0 at.1 in
          let gt : (sums_removed whole (RemoveTable table)).tables ≡ 1 = ap (λ x. x.tables) here in
          let gc : (sums_removed whole (RemoveTable table)).cells ≡ grid_cells t.grid = ap (λ x. x.cells) here in
          let gw : (sums_removed whole (RemoveTable table)).weight ≡ grid_weight t.grid = ap (λ x. x.weight) here in
          schema_move p q (RemoveTable table) good.plain (plain_after (RemoveTable table) q v refl) (omega arith) (omega arith) (omega arith)

      -- a change of one table's columns
      columns_move : (a : DocAction) (t : Table) (f : Table → Table) → valid whole a ≡ true → effect whole a ≡ with_schema r u (with_table table f p) → find_id table_id table p ≡ Some t
          → (sums_removed whole a).tables ≡ 0 → (sums_added whole a).tables ≡ 0
          → grid_cells (f t).grid + (sums_removed whole a).cells ≡ grid_cells t.grid + (sums_added whole a).cells
          → grid_weight (f t).grid + (sums_removed whole a).weight ≡ grid_weight t.grid + (sums_added whole a).weight
          → SumsMove whole (with_schema r u (with_table table f p)) a
      columns_move a t f v e found zg zc ec ew =
          let q : List Table = with_table table f p in
          let lengths : length q ≡ length p = length_map (λ x. cond (bytes_eq (table_id x) table) (f x) x) p in
          let cells : sum_of (λ (t : Table). grid_cells t.grid) q + grid_cells t.grid ≡ sum_of (λ (t : Table). grid_cells t.grid) p + grid_cells (f t).grid = total-with_id table_id (λ (t : Table). grid_cells t.grid) table f p t good.distinct found in
          let weight : sum_of (λ (t : Table). grid_weight t.grid) q + grid_weight t.grid ≡ sum_of (λ (t : Table). grid_weight t.grid) p + grid_weight (f t).grid = total-with_id table_id (λ (t : Table). grid_weight t.grid) table f p t good.distinct found in
          schema_move p q a good.plain (plain_after a q v e) (omega arith) (omega arith) (omega arith)

      rename_table_sums : (new : List ℕ) → valid whole (RenameTable table new) ≡ true → SumsMove whole (effect whole (RenameTable table new)) (RenameTable table new)
      rename_table_sums new v =
          let parts : (t : Table) × ((schema_table whole table ≡ Some t) × (is_new_table whole new ≡ true)) = passes_parts (schema_table whole table) (λ (_ : Table). is_new_table whole new) v in
          let at : IsPlain table × (find_id table_id table p ≡ Some parts.0) = schema_table_parts r u p table parts.0 parts.1.0 in
          columns_move (RenameTable table new) parts.0 (renamed new) v refl at.1 refl refl refl refl

      add_column_sums : (d : ColDef) → valid whole (AddColumn table d) ≡ true → SumsMove whole (effect whole (AddColumn table d)) (AddColumn table d)
      add_column_sums d v =
          let parts : (t : Table) × ((schema_table whole table ≡ Some t) × (((is_new_column t.grid d.id && are_free whole columns_id (d.row ∷ [])) && is_sound_info d.info) ≡ true))
          = passes_parts (schema_table whole table) (λ t. is_new_column t.grid d.id && are_free whole columns_id (d.row ∷ []) && is_sound_info d.info) v in
          let t : Table = parts.0 in
          let at : IsPlain table × (find_id table_id table p ≡ Some t) = schema_table_parts r u p table t parts.1.0 in
          let tests : (is_new_column t.grid d.id ≡ true) × (are_free whole columns_id (d.row ∷ []) ≡ true) × (is_sound_info d.info ≡ true) = parts_3 (is_new_column t.grid d.id) (are_free whole columns_id (d.row ∷ [])) (is_sound_info d.info) parts.1.1 in
          let fresh : has_id column_id t.grid.columns d.id ≡ false = not_true (has_id column_id t.grid.columns d.id) (and_parts (not (has_id column_id t.grid.columns d.id)) (Rattle.cell_types.specs.NameRule.is_name d.id) tests.0).0 in
          let s : IsSoundGrid t.grid = found_all table_id (λ t. IsSoundGrid t.grid) table p t good.grids at.1 in
          let here : sums_added whole (AddColumn table d) ≡ record { tables = 0; cells = length t.grid.rows; weight = formula_bytes d } = found_sums t (λ g. record { tables = 0; cells = length g.rows; weight = formula_bytes d }) at.0 at.1 in
          let ct : (sums_added whole (AddColumn table d)).tables ≡ 0 = ap (λ x. x.tables) here in
          let cc' : (sums_added whole (AddColumn table d)).cells ≡ length t.grid.rows = ap (λ x. x.cells) here in
          let cw : (sums_added whole (AddColumn table d)).weight ≡ formula_bytes d = ap (λ x. x.weight) here in
          let cells : grid_cells (add_column d t.grid) ≡ grid_cells t.grid + length t.grid.rows = cells-add_column d t.grid s.is_grid in
          let weight : grid_weight (add_column d t.grid) ≡ grid_weight t.grid + formula_bytes d = weight-add_column d t.grid s.is_grid fresh in
          columns_move (AddColumn table d) t (on_grid (add_column d)) v refl at.1 refl ct (omega arith) (omega arith)

      module _ (t : Table) (at : IsPlain table × (find_id table_id table p ≡ Some t)) (column : List ℕ) (is_there : has_id column_id t.grid.columns column ≡ true) where
        found_column : (d : ColDef) × (find_id column_id column t.grid.columns ≡ Some d)
        found_column = found_has column_id column t.grid.columns is_there

        bytes_found : bytes_of_formula t.grid column ≡ formula_bytes found_column.0
        bytes_found = ap (λ o. elim o as (λ _. ℕ) [ None ↦ 0 | Some d ↦ formula_bytes d ]) found_column.1

        grid_t : IsSoundGrid t.grid
        grid_t = found_all table_id (λ t. IsSoundGrid t.grid) table p t good.grids at.1

        remove_column_from : valid whole (RemoveColumn table column) ≡ true → SumsMove whole (effect whole (RemoveColumn table column)) (RemoveColumn table column)
        remove_column_from v =
            let d : ColDef = found_column.0 in
            let here : sums_removed whole (RemoveColumn table column) ≡ record { tables = 0; cells = length t.grid.rows; weight = column_weight t.grid t.grid.rows column + bytes_of_formula t.grid column }
            = found_sums t (λ g. record { tables = 0; cells = length g.rows; weight = column_weight g g.rows column + bytes_of_formula g column }) at.0 at.1 in
            let gt : (sums_removed whole (RemoveColumn table column)).tables ≡ 0 = ap (λ x. x.tables) here in
            let gc : (sums_removed whole (RemoveColumn table column)).cells ≡ length t.grid.rows = ap (λ x. x.cells) here in
            let gw : (sums_removed whole (RemoveColumn table column)).weight ≡ column_weight t.grid t.grid.rows column + bytes_of_formula t.grid column = ap (λ x. x.weight) here in
            let bytes : bytes_of_formula t.grid column ≡ formula_bytes d = bytes_found in
            let cells : grid_cells (remove_column column t.grid) + length t.grid.rows ≡ grid_cells t.grid = cells-remove_column column d t.grid grid_t.is_grid found_column.1 in
            let weight : grid_weight (remove_column column t.grid) + (column_weight t.grid t.grid.rows column + formula_bytes d) ≡ grid_weight t.grid = weight-remove_column column d t.grid grid_t.is_grid found_column.1 in
            columns_move (RemoveColumn table column) t (on_grid (remove_column column)) v refl at.1 gt refl (omega arith) (omega arith)

        modify_column_from : (info : ColInfo) → valid whole (ModifyColumn table column info) ≡ true → SumsMove whole (effect whole (ModifyColumn table column info)) (ModifyColumn table column info)
        modify_column_from info v =
            let d : ColDef = found_column.0 in
            let here : sums_removed whole (ModifyColumn table column info) ≡ record { tables = 0; cells = 0; weight = bytes_of_formula t.grid column } = found_sums t (λ g. record { tables = 0; cells = 0; weight = bytes_of_formula g column }) at.0 at.1 in
            let gt : (sums_removed whole (ModifyColumn table column info)).tables ≡ 0 = ap (λ x. x.tables) here in
            let gc : (sums_removed whole (ModifyColumn table column info)).cells ≡ 0 = ap (λ x. x.cells) here in
            let gw : (sums_removed whole (ModifyColumn table column info)).weight ≡ bytes_of_formula t.grid column = ap (λ x. x.weight) here in
            let bytes : bytes_of_formula t.grid column ≡ formula_bytes d = bytes_found in
            let cells : grid_cells (with_column column (with_info info) t.grid) ≡ grid_cells t.grid = cells-with_column column (with_info info) t.grid in
            let weight : grid_weight (with_column column (with_info info) t.grid) + formula_bytes d ≡ grid_weight t.grid + length info.formula = weight-with_info column d t.grid grid_t.is_grid found_column.1 info in
            columns_move (ModifyColumn table column info) t (on_grid (with_column column (with_info info))) v refl at.1 gt refl (omega arith) (omega arith)

      remove_column_sums : (column : List ℕ) → valid whole (RemoveColumn table column) ≡ true → SumsMove whole (effect whole (RemoveColumn table column)) (RemoveColumn table column)
      remove_column_sums column v =
          let parts : (t : Table) × ((schema_table whole table ≡ Some t) × (has_id column_id t.grid.columns column ≡ true)) = passes_parts (schema_table whole table) (λ t. has_id column_id t.grid.columns column) v in
          remove_column_from parts.0 (schema_table_parts r u p table parts.0 parts.1.0) column parts.1.1 v

      rename_column_sums : (column new : List ℕ) → valid whole (RenameColumn table column new) ≡ true → SumsMove whole (effect whole (RenameColumn table column new)) (RenameColumn table column new)
      rename_column_sums column new v =
          let parts : (t : Table) × ((schema_table whole table ≡ Some t) × ((has_id column_id t.grid.columns column && is_new_column t.grid new) ≡ true)) = passes_parts (schema_table whole table) (λ t. has_id column_id t.grid.columns column && is_new_column t.grid new) v in
          let t : Table = parts.0 in
          let at : IsPlain table × (find_id table_id table p ≡ Some t) = schema_table_parts r u p table t parts.1.0 in
          let cells : grid_cells (with_column column (with_name new) t.grid) ≡ grid_cells t.grid = cells-with_column column (with_name new) t.grid in
          let weight : grid_weight (with_column column (with_name new) t.grid) ≡ grid_weight t.grid = weight-with_name column new t.grid in
          columns_move (RenameColumn table column new) t (on_grid (with_column column (with_name new))) v refl at.1 refl refl (omega arith) (omega arith)

      modify_column_sums : (column : List ℕ) (info : ColInfo) → valid whole (ModifyColumn table column info) ≡ true → SumsMove whole (effect whole (ModifyColumn table column info)) (ModifyColumn table column info)
      modify_column_sums column info v =
          let parts : (t : Table) × ((schema_table whole table ≡ Some t) × (((has_id column_id t.grid.columns column && is_sound_info info) && (not info.is_formula || all_null t.grid column)) ≡ true))
          = passes_parts (schema_table whole table) (λ t. has_id column_id t.grid.columns column && is_sound_info info && (not info.is_formula || all_null t.grid column)) v in
          let tests : (has_id column_id parts.0.grid.columns column ≡ true) × (is_sound_info info ≡ true) × ((not info.is_formula || all_null parts.0.grid column) ≡ true)
          = parts_3 (has_id column_id parts.0.grid.columns column) (is_sound_info info) (not info.is_formula || all_null parts.0.grid column) parts.1.1 in
          modify_column_from parts.0 (schema_table_parts r u p table parts.0 parts.1.0) column tests.0 info v

    sums : (a : DocAction) → valid whole a ≡ true → SumsMove whole (effect whole a) a
    sums (BulkAdd table rows ks) v = add_sums whole (whole_from r u p good).sound table rows ks v
    sums (BulkUpdate table rows ks) v = update_sums whole (whole_from r u p good).sound table rows ks v
    sums (BulkRemove table rows) v = remove_sums whole (whole_from r u p good).sound table rows v
    sums (AddTable table row columns) v = add_table_sums table row columns v
    sums (RemoveTable table) v = remove_table_sums table v
    sums (RenameTable table new) v = rename_table_sums table new v
    sums (AddColumn table d) v = add_column_sums table d v
    sums (RemoveColumn table column) v = remove_column_sums table column v
    sums (RenameColumn table column new) v = rename_column_sums table column new v
    sums (ModifyColumn table column info) v = modify_column_sums table column info v

-- the sums move by what the action takes and brings
pub counts-apply : (s : Document) (a : DocAction) → IsWhole s → valid s a ≡ true → SumsMove s (apply s a) a
counts-apply s a whole v =
    let same : s ≡ with_schema (resources s) (rules s) (plain_tables s) = whole.agrees.schema in
    subst (λ d. SumsMove s d a) (sym (applied s a v))
    (subst (λ d. SumsMove d (effect d a) a) (sym same) (sums (resources s) (rules s) (plain_tables s) (good_from s whole) a (ap (λ d. valid d a) (sym same) ∙ v)))
