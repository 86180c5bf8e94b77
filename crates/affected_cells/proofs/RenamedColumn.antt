-- A column that is renamed touches what is said of it under both names, and its id in the table of columns.
use Rattle.std.proofs.Common.{ℕ, Bool, true, false, cond, not, ◌&&◌, ◌||◌, List, [], ◌∷◌, ◌≡◌, refl, sym, ap, ◌∙◌, subst, Some, is_some, eqb, codes}
use Rattle.std.proofs.lemmas.Bool.{true≢false, false≢true}
use Rattle.std.proofs.lemmas.Slice.Eq.{bytes_eq-Decides}
use Rattle.std.specs.Str.{bytes_eq}
use Rattle.cell_types.specs.declared.cell.CellId.{CellId}
use Rattle.cell_types.specs.declared.cell.Read.TheVariants.{Cell, Key}
use Rattle.cell_types.specs.declared.value.CellValue.{CellValue}
use Rattle.cell_types.specs.declared.value.CellValue.TheVariants.{Null}
use Rattle.cell_types.specs.NameRule.{is_name}
use Rattle.doc_model.specs.declared.action.DocAction.TheVariants.{RenameColumn}
use Rattle.doc_model.specs.declared.column.ColDef.{ColDef}
use Rattle.doc_model.specs.Apply.{with_column, with_name}
use Rattle.doc_model.specs.ByIds.{find_id, has_id, with_id, AreDistinct}
use Rattle.doc_model.specs.Column.{column_id}
use Rattle.doc_model.specs.Document.{Table, Document, table_id, on_grid, with_table}
use Rattle.doc_model.specs.Grid.{Grid, beside}
use Rattle.doc_model.specs.MetadataIds.{columns_id}
use Rattle.doc_model.specs.Rows.{has}
use Rattle.doc_model.specs.Schema.{Described, all_columns, with_schema, resources, rules, plain_tables}
use Rattle.doc_model.specs.Sound.{IsSoundGrid}
use Rattle.doc_model.specs.Touched.{column_described}
use Rattle.doc_model.specs.Valid.{is_new_column, schema_table, valid}
use Rattle.doc_model.proofs.ByIdsLaws.{found_all, bytes_apart, found_has, has_found}
use Rattle.doc_model.proofs.ByRowLaws.{apart_ids, has-old_id}
use Rattle.doc_model.proofs.DescribedRows.{described_at, described_in}
use Rattle.doc_model.proofs.DocumentParts.{passes_parts, schema_table_parts}
use Rattle.doc_model.proofs.FirstRows.{each_of_id}
use Rattle.doc_model.proofs.WholeLaws.{IsGood, IsPlain, good_from}
use Rattle.recalc.specs.Cells.{cell_of}
use Rattle.affected_cells.specs.Laws.{RenameColumnLaw}
use Rattle.affected_cells.specs.Touched.{is_touched}
use Rattle.affected_cells.specs.TouchedRight.{TouchesRight}
use Rattle.affected_cells.proofs.Alike.{IsEqualOf, grids_equal}
use Rattle.affected_cells.proofs.Described.{described_equal, described_rows, is_told, said, told, told-with_id, told-with_table}
use Rattle.affected_cells.proofs.RemovedColumn.{its_row}
use Rattle.affected_cells.proofs.Renamed.{found_kept, neither}
use Rattle.affected_cells.proofs.RowsLaw.{was_there, valid_right}
use Rattle.affected_cells.proofs.SchemaActions.{column_action_right}
use Rattle.affected_cells.proofs.Tests.{found_once}

said_same : (k : List ℕ) (parent : ℕ) (new : List ℕ) (e : ColDef) → bytes_eq k (codes "colId") ≡ false → (let x : Described = record { parent = parent; column = with_name new e } in said k x) ≡ (let x : Described = record { parent = parent; column = e } in said k x)
said_same k parent new e apart = two (bytes_eq (codes "parentId") k) (bytes_eq (codes "colId") k) _ _ _ _ (bytes_apart k (codes "colId") apart)
  where
    two : (a b : Bool) (v w x n : CellValue) → b ≡ false → cond a v (cond b w n) ≡ cond a v (cond b x n)
    two true b v w x n p = refl
    two false true v w x n p = absurd (true≢false p)
    two false false v w x n p = refl

-- cells of columns that are neither the old nor the new one
module _ (c new k : List ℕ) (not_old : bytes_eq k c ≡ false) (not_new : bytes_eq k new ≡ false) where
  beside_kept : (cs : List ColDef) (vs : List CellValue) → beside (λ (d : ColDef). bytes_eq d.id k) (with_id column_id c (with_name new) cs) vs Null ≡ beside (λ (d : ColDef). bytes_eq d.id k) cs vs Null
  beside_kept [] vs = refl
  beside_kept (d ∷ cs) [] = refl
  beside_kept (d ∷ cs) (v ∷ vs) =
      ap (λ b. cond b v (beside (λ (d : ColDef). bytes_eq d.id k) (with_id column_id c (with_name new) cs) vs Null)) (same (bytes_eq d.id c) refl)
      ∙ ap (λ x. cond (bytes_eq d.id k) v x) (beside_kept cs vs)
    where
      same : (b : Bool) → bytes_eq d.id c ≡ b → bytes_eq (cond b (with_name new d) d).id k ≡ bytes_eq d.id k
      same true is = let n = neither column_id c new k (with_name new) (λ _. refl) not_old not_new d is in n.0 ∙ sym n.1
      same false is = refl

module _ (r u : Grid ColDef) (p : List Table) (table c new : List ℕ) (t : Table) (d : ColDef) (plain : IsPlain table) (at_table : find_id table_id table p ≡ Some t) (at_column : find_id column_id c t.grid.columns ≡ Some d)
    (fresh : has_id column_id t.grid.columns new ≡ false) (distinct : AreDistinct table_id p) (columns_distinct : AreDistinct column_id t.grid.columns) where
  abbrev w : Document
  w = with_schema r u p

  abbrev f : Grid ColDef → Grid ColDef
  f = with_column c (with_name new)

  abbrev q : List Table
  q = with_table table (on_grid f) p

  -- what is touched, by the row of the column
  abbrev by_rows : CellId → List ℕ → Bool
  by_rows e rows =
      (bytes_eq e.table table && bytes_eq e.column c)
      || ((bytes_eq e.table table && bytes_eq e.column new)
      || ((bytes_eq e.table columns_id && (bytes_eq e.column (codes "colId") && has rows e.row)) || false))

  free_columns : (e : CellId) → is_touched w (RenameColumn table c new) (Cell e) ≡ false → e.table ≡ table → (bytes_eq e.column c ≡ false) × (bytes_eq e.column new ≡ false)
  free_columns e free is = each (bytes_eq e.table table) (bytes_eq e.column c) (bytes_eq e.column new) _ free ((bytes_eq-Decides e.table table).1 is)
    where
      each : (a x y m : Bool) → ((a && x) || ((a && y) || m)) ≡ false → a ≡ true → (x ≡ false) × (y ≡ false)
      each true true y m h e = absurd (true≢false h)
      each true false true m h e = absurd (true≢false h)
      each true false false m h e = (refl, refl)
      each false x y m h e = absurd (false≢true e)

  free_said : (e : CellId) → is_touched w (RenameColumn table c new) (Cell e) ≡ false → e.table ≡ columns_id → eqb d.row e.row ≡ true → bytes_eq e.column (codes "colId") ≡ false
  free_said e free is here =
      each (bytes_eq e.table table && bytes_eq e.column c) (bytes_eq e.table table && bytes_eq e.column new) (bytes_eq e.table columns_id) (bytes_eq e.column (codes "colId")) (eqb d.row e.row)
      (ap (by_rows e) (sym (its_row r u p table c t d plain at_table at_column)) ∙ free) ((bytes_eq-Decides e.table columns_id).1 is) here
    where
      each : (m n a x b : Bool) → (m || (n || ((a && (x && (b || false))) || false))) ≡ false → a ≡ true → b ≡ true → x ≡ false
      each true n a x b h i j = absurd (true≢false h)
      each false true a x b h i j = absurd (true≢false h)
      each false false false x b h i j = absurd (false≢true i)
      each false false true x false h i j = absurd (false≢true j)
      each false false true true true h i j = absurd (true≢false h)
      each false false true false true h i j = refl

  free_cells : (x k : List ℕ) (n : ℕ) → is_touched w (RenameColumn table c new) (Key x k) ≡ false → is_touched w (RenameColumn table c new) (Cell (cell_of x k n)) ≡ false
  free_cells x k n h =
      each (bytes_eq x table && bytes_eq k c) (bytes_eq x table && bytes_eq k new) (bytes_eq x columns_id) (bytes_eq k (codes "colId")) (has (column_described w table c) n) h
    where
      each : (m n a x b : Bool) → (m || (n || ((a && x) || false))) ≡ false → (m || (n || ((a && (x && b)) || false))) ≡ false
      each true n a x b h = absurd (true≢false h)
      each false true a x b h = absurd (true≢false h)
      each false false false x b h = refl
      each false false true true b h = absurd (true≢false h)
      each false false true false b h = refl

  -- the same is said in other rows, and in that row but for the id
  told_same : (k : List ℕ) (n : ℕ) → (eqb d.row n ≡ true → bytes_eq k (codes "colId") ≡ false) → told k (described_at n (all_columns q)) ≡ told k (described_at n (all_columns p))
  told_same k n free = told-with_table k table n f p
      (each_of_id table_id (λ (x : Table). told k (described_at n (described_in (on_grid f x))) ≡ told k (described_at n (described_in x))) table p distinct
      (λ x found. subst (λ (y : Table). told k (described_at n (described_in (on_grid f y))) ≡ told k (described_at n (described_in y))) (found_once t x (sym at_table ∙ found)) there))
    where
      there : told k (described_at n (described_in (on_grid f t))) ≡ told k (described_at n (described_in t))
      there = told-with_id k c n t.row (with_name new) (λ _. refl) t.grid.columns
          (each_of_id column_id (λ (e : ColDef). eqb e.row n ≡ true → (let x : Described = record { parent = t.row; column = with_name new e } in said k x) ≡ (let x : Described = record { parent = t.row; column = e } in said k x)) c t.grid.columns columns_distinct
          (λ e found here. said_same k t.row new e (free (ap (λ (y : ColDef). eqb y.row n) (found_once d e (sym at_column ∙ found)) ∙ here))))

  own : (e : CellId) → (bytes_eq e.column c ≡ false) × (bytes_eq e.column new ≡ false) → IsEqualOf e (Some t) (Some (on_grid f t))
  own e free = grids_equal e t (on_grid f t) (found_kept column_id c new e.column (with_name new) (λ _. refl) free.0 free.1 t.grid.columns) refl
      (λ _ _ _. beside_kept c new e.column free.0 free.1 t.grid.columns (beside (λ n. eqb n e.row) t.grid.rows t.grid.cells []))

  -- a column that is there before and after is neither
  kept_column : (k : List ℕ) (x y : ColDef) → find_id column_id k t.grid.columns ≡ Some x → find_id column_id k (with_id column_id c (with_name new) t.grid.columns) ≡ Some y → x ≡ y
  kept_column k x y h g = by (bytes_eq k c) refl (bytes_eq k new) refl
    where
      by : (a : Bool) → bytes_eq k c ≡ a → (b : Bool) → bytes_eq k new ≡ b → x ≡ y
      by true old b is = absurd (false≢true (sym (has-old_id column_id c new (with_name new) t.grid.columns (λ _. refl) (apart_ids column_id c new t.grid.columns (has_found column_id c t.grid.columns d at_column) fresh))
          ∙ has_found column_id c (with_id column_id c (with_name new) t.grid.columns) y (ap (λ n. find_id column_id n (with_id column_id c (with_name new) t.grid.columns)) (sym ((bytes_eq-Decides k c).0 old)) ∙ g)))
      by false old true is = absurd (false≢true (sym fresh ∙ has_found column_id new t.grid.columns x (ap (λ n. find_id column_id n t.grid.columns) (sym ((bytes_eq-Decides k new).0 is)) ∙ h)))
      by false old false is = found_once x y (sym h ∙ sym (found_kept column_id c new k (with_name new) (λ _. refl) old is t.grid.columns) ∙ g)

  renamed_right : valid w (RenameColumn table c new) ≡ true → TouchesRight w (RenameColumn table c new)
  renamed_right v = valid_right w (RenameColumn table c new) v (column_action_right r u p table f t at_table (RenameColumn table c new) (record {
    was = was_there w;
    keys = free_cells;
    columns = λ e free is. described_equal p q e (told_same e.column e.row (free_said e free is));
    own = λ e free is. own e (free_columns e free is);
    column = λ e _ _ x y h g. kept_column e.column x y h g;
    columns_rows = λ _. described_rows p q (λ n. is_told (codes "parentId") (described_at n (all_columns q))
        ∙ ap is_some (told_same (codes "parentId") n (λ _. refl)) ∙ sym (is_told (codes "parentId") (described_at n (all_columns p))));
    rows = refl;
  }))

of_parts : (r u : Grid ColDef) (p : List Table) (table c new : List ℕ) → IsGood r u p → valid (with_schema r u p) (RenameColumn table c new) ≡ true → TouchesRight (with_schema r u p) (RenameColumn table c new)
of_parts r u p table c new good v =
    let found : (t : Table) × ((schema_table (with_schema r u p) table ≡ Some t) × ((has_id column_id t.grid.columns c && is_new_column t.grid new) ≡ true))
    = passes_parts (schema_table (with_schema r u p) table) (λ t. has_id column_id t.grid.columns c && is_new_column t.grid new) v in
    let at = schema_table_parts r u p table found.0 found.1.0 in
    let tests = both (has_id column_id found.0.grid.columns c) (has_id column_id found.0.grid.columns new) (is_name new) found.1.1 in
    let column = found_has column_id c found.0.grid.columns tests.0 in
    let sound : IsSoundGrid found.0.grid = found_all table_id (λ (t : Table). IsSoundGrid t.grid) table p found.0 good.grids at.1 in
    renamed_right r u p table c new found.0 column.0 at.0 at.1 column.1 tests.1 good.distinct sound.is_grid.distinct v
  where
    both : (a b e : Bool) → (a && (not b && e)) ≡ true → (a ≡ true) × (b ≡ false)
    both true true e h = absurd (false≢true h)
    both true false e h = (refl, refl)
    both false b e h = absurd (false≢true h)

pub rename_column_law : RenameColumnLaw
rename_column_law s table c new whole v =
    subst (λ x. TouchesRight x (RenameColumn table c new)) (sym whole.agrees.schema)
    (of_parts (resources s) (rules s) (plain_tables s) table c new (good_from s whole) (subst (λ x. valid x (RenameColumn table c new) ≡ true) whole.agrees.schema v))
