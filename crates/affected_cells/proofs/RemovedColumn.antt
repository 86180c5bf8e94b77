-- A column that is removed touches what is said of it, its row in the table of columns included.
use Rattle.std.proofs.Common.{ℕ, Bool, true, false, cond, ◌&&◌, ◌||◌, List, [], ◌∷◌, ◌≡◌, refl, sym, ap, ◌∙◌, subst, Option, Some, None, eqb}
use Rattle.std.proofs.lemmas.Bool.{true≢false, false≢true}
use Rattle.std.proofs.lemmas.Slice.Eq.{bytes_eq-Decides}
use Rattle.std.specs.Str.{bytes_eq}
use Rattle.cell_types.specs.declared.cell.CellId.{CellId}
use Rattle.cell_types.specs.declared.cell.Read.TheVariants.{Cell, Key, Rows}
use Rattle.doc_model.specs.declared.action.DocAction.TheVariants.{RemoveColumn}
use Rattle.doc_model.specs.declared.column.ColDef.{ColDef}
use Rattle.doc_model.specs.Apply.{remove_column}
use Rattle.doc_model.specs.ByIds.{find_id, has_id, without_id, AreDistinct}
use Rattle.doc_model.specs.Column.{column_id, column_row}
use Rattle.doc_model.specs.Document.{Table, Document, table_id, on_grid, with_table}
use Rattle.doc_model.specs.Grid.{Grid, cell}
use Rattle.doc_model.specs.MetadataIds.{columns_id}
use Rattle.doc_model.specs.Rows.{has}
use Rattle.doc_model.specs.Schema.{all_columns, with_schema, resources, rules, plain_tables}
use Rattle.doc_model.specs.Sound.{IsSoundGrid}
use Rattle.doc_model.specs.Touched.{column_described}
use Rattle.doc_model.specs.Valid.{schema_table, valid}
use Rattle.doc_model.proofs.ByIdsLaws.{found_id, found_all, bytes_apart, find-without_id, found_has}
use Rattle.doc_model.proofs.Choices.{cond_false}
use Rattle.doc_model.proofs.DescribedRows.{described_at, described_in, described-with_table, same_described}
use Rattle.doc_model.proofs.DocumentParts.{passes_parts, schema_table_parts, find_plain}
use Rattle.doc_model.proofs.FirstRows.{each_of_id, first-without_id}
use Rattle.doc_model.proofs.GridLaws.{cell-grid_of}
use Rattle.doc_model.proofs.WholeLaws.{IsGood, IsPlain, good_from}
use Rattle.recalc.specs.Cells.{cell_of}
use Rattle.affected_cells.specs.Laws.{RemoveColumnLaw}
use Rattle.affected_cells.specs.Touched.{is_touched}
use Rattle.affected_cells.specs.TouchedRight.{TouchesRight}
use Rattle.affected_cells.proofs.Alike.{IsEqualOf, grids_equal}
use Rattle.affected_cells.proofs.Described.{described_equal, told}
use Rattle.affected_cells.proofs.RowsLaw.{was_there, valid_right}
use Rattle.affected_cells.proofs.SchemaActions.{column_action_right}
use Rattle.affected_cells.proofs.Tests.{found_once}

-- the row that describes a column of a plain table
pub its_row : (r u : Grid ColDef) (p : List Table) (table c : List ℕ) (t : Table) (d : ColDef) → IsPlain table → find_id table_id table p ≡ Some t → find_id column_id c t.grid.columns ≡ Some d
    → column_described (with_schema r u p) table c ≡ d.row ∷ []
its_row r u p table c t d plain at_table at_column =
    ap (λ (o : Option Table). elim o as (λ _. List ℕ) [ None ↦ [] | Some x ↦ elim (find_id column_id c x.grid.columns) as (λ _. List ℕ) [ None ↦ [] | Some e ↦ e.row ∷ [] ] ]) (find_plain r u p table plain ∙ at_table)
    ∙ ap (λ (o : Option ColDef). elim o as (λ _. List ℕ) [ None ↦ [] | Some e ↦ e.row ∷ [] ]) at_column

module _ (r u : Grid ColDef) (p : List Table) (table c : List ℕ) (t : Table) (d : ColDef) (plain : IsPlain table) (at_table : find_id table_id table p ≡ Some t) (at_column : find_id column_id c t.grid.columns ≡ Some d)
    (distinct : AreDistinct table_id p) (columns_distinct : AreDistinct column_id t.grid.columns) where
  abbrev w : Document
  w = with_schema r u p

  abbrev q : List Table
  q = with_table table (on_grid (remove_column c)) p

  free_column : (e : CellId) → is_touched w (RemoveColumn table c) (Cell e) ≡ false → e.table ≡ table → bytes_eq e.column c ≡ false
  free_column e free is = each (bytes_eq e.table table) (bytes_eq e.column c) ((bytes_eq e.table columns_id && has (column_described w table c) e.row) || false) free ((bytes_eq-Decides e.table table).1 is)
    where
      each : (a b m : Bool) → ((a && b) || m) ≡ false → a ≡ true → b ≡ false
      each true true m h e = absurd (true≢false h)
      each true false m h e = refl
      each false b m h e = absurd (false≢true e)

  free_row : (e : CellId) → is_touched w (RemoveColumn table c) (Cell e) ≡ false → e.table ≡ columns_id → eqb d.row e.row ≡ false
  free_row e free is = each (bytes_eq e.table table && bytes_eq e.column c) (bytes_eq e.table columns_id) (eqb d.row e.row)
      (ap (λ rows. (bytes_eq e.table table && bytes_eq e.column c) || ((bytes_eq e.table columns_id && has rows e.row) || false)) (sym (its_row r u p table c t d plain at_table at_column)) ∙ free)
      ((bytes_eq-Decides e.table columns_id).1 is)
    where
      each : (m a b : Bool) → (m || ((a && (b || false)) || false)) ≡ false → a ≡ true → b ≡ false
      each true a b h e = absurd (true≢false h)
      each false true true h e = absurd (true≢false h)
      each false true false h e = refl
      each false false b h e = absurd (false≢true e)

  free_cells : (x k : List ℕ) (n : ℕ) → is_touched w (RemoveColumn table c) (Key x k) ≡ false → is_touched w (RemoveColumn table c) (Cell (cell_of x k n)) ≡ false
  free_cells x k n h = each (bytes_eq x table && bytes_eq k c) (bytes_eq x columns_id) (has (column_described w table c) n) h
    where
      each : (m a b : Bool) → (m || (a || false)) ≡ false → (m || ((a && b) || false)) ≡ false
      each true a b h = absurd (true≢false h)
      each false true b h = absurd (true≢false h)
      each false false b h = refl

  no_rows : is_touched w (RemoveColumn table c) (Rows columns_id) ≡ false → ⊥
  no_rows h = each (bytes_eq columns_id columns_id) h ((bytes_eq-Decides columns_id columns_id).1 refl)
    where
      each : (a : Bool) → (false || (a || false)) ≡ false → a ≡ true → ⊥
      each true h e = true≢false h
      each false h e = false≢true e

  found_beside : (k : List ℕ) → bytes_eq k c ≡ false → find_id column_id k (without_id column_id c t.grid.columns) ≡ find_id column_id k t.grid.columns
  found_beside k apart = find-without_id column_id c t.grid.columns k ∙ cond_false (bytes_eq c k) None (find_id column_id k t.grid.columns) (bytes_apart k c apart)

  -- other rows describe what they described
  same_at : (n : ℕ) → eqb d.row n ≡ false → described_at n (all_columns q) ≡ described_at n (all_columns p)
  same_at n apart = described-with_table table n (on_grid (remove_column c)) p
      (each_of_id table_id (λ (x : Table). described_at n (described_in (on_grid (remove_column c) x)) ≡ described_at n (described_in x)) table p distinct
      (λ x found. subst (λ (y : Table). described_at n (described_in (on_grid (remove_column c) y)) ≡ described_at n (described_in y)) (found_once t x (sym at_table ∙ found)) there))
    where
      there : described_at n (described_in (on_grid (remove_column c) t)) ≡ described_at n (described_in t)
      there = same_described t (on_grid (remove_column c) t) n refl (first-without_id column_row column_id c n t.grid.columns
          (each_of_id column_id (λ (e : ColDef). eqb e.row n ≡ false) c t.grid.columns columns_distinct (λ e found. ap (λ (y : ColDef). eqb y.row n) (found_once e d (sym found ∙ at_column)) ∙ apart)))

  own : (e : CellId) → bytes_eq e.column c ≡ false → IsEqualOf e (Some t) (Some (on_grid (remove_column c) t))
  own e apart = grids_equal e t (on_grid (remove_column c) t) (found_beside e.column apart) refl (λ y found here.
      let name : y.id ≡ e.column = found_id column_id e.column t.grid.columns y found in
      ap (λ n. cell column_id (remove_column c t.grid) n e.row) (sym name)
      ∙ cell-grid_of column_id (without_id column_id c t.grid.columns) t.grid.rows (λ (z : ColDef) n. cell column_id t.grid z.id n) y e.row
      (ap (λ n. find_id column_id n (without_id column_id c t.grid.columns)) name ∙ found_beside e.column apart ∙ found) here
      ∙ ap (λ n. cell column_id t.grid n e.row) name)

  kept_column : (k : List ℕ) (x y : ColDef) → find_id column_id k t.grid.columns ≡ Some x → find_id column_id k (without_id column_id c t.grid.columns) ≡ Some y → x ≡ y
  kept_column k x y h g = by (bytes_eq c k) (sym (find-without_id column_id c t.grid.columns k) ∙ g)
    where
      by : (b : Bool) → cond b None (find_id column_id k t.grid.columns) ≡ Some y → x ≡ y
      by true g = absurd (cc)
      by false g = found_once x y (sym h ∙ g)

  removed_right : valid w (RemoveColumn table c) ≡ true → TouchesRight w (RemoveColumn table c)
  removed_right v = valid_right w (RemoveColumn table c) v (column_action_right r u p table (remove_column c) t at_table (RemoveColumn table c) (record {
    was = was_there w;
    keys = free_cells;
    columns = λ e free is. described_equal p q e (ap (told e.column) (same_at e.row (free_row e free is)));
    own = λ e free is. own e (free_column e free is);
    column = λ e _ _ x y h g. kept_column e.column x y h g;
    columns_rows = λ free. absurd (no_rows free);
    rows = refl;
  }))

of_parts : (r u : Grid ColDef) (p : List Table) (table c : List ℕ) → IsGood r u p → valid (with_schema r u p) (RemoveColumn table c) ≡ true → TouchesRight (with_schema r u p) (RemoveColumn table c)
of_parts r u p table c good v =
    let found : (t : Table) × ((schema_table (with_schema r u p) table ≡ Some t) × (has_id column_id t.grid.columns c ≡ true)) = passes_parts (schema_table (with_schema r u p) table) (λ t. has_id column_id t.grid.columns c) v in
    let at = schema_table_parts r u p table found.0 found.1.0 in
    let column = found_has column_id c found.0.grid.columns found.1.1 in
    let sound : IsSoundGrid found.0.grid = found_all table_id (λ (t : Table). IsSoundGrid t.grid) table p found.0 good.grids at.1 in
    removed_right r u p table c found.0 column.0 at.0 at.1 column.1 good.distinct sound.is_grid.distinct v

pub remove_column_law : RemoveColumnLaw
remove_column_law s table c whole v =
    subst (λ x. TouchesRight x (RemoveColumn table c)) (sym whole.agrees.schema)
    (of_parts (resources s) (rules s) (plain_tables s) table c (good_from s whole) (subst (λ x. valid x (RemoveColumn table c) ≡ true) whole.agrees.schema v))
