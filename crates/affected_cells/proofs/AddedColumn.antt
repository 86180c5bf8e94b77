-- A column that is added touches what is said of it, its row in the table of columns included.
use Rattle.std.proofs.Common.{ℕ, Bool, true, false, cond, not, ◌&&◌, ◌||◌, List, [], ◌∷◌, ◌≡◌, refl, sym, ap, ◌∙◌, subst, Some, eqb}
use Rattle.std.proofs.lemmas.Bool.{true≢false, false≢true}
use Rattle.std.proofs.lemmas.Slice.Eq.{bytes_eq-Decides}
use Rattle.std.specs.Str.{bytes_eq}
use Rattle.cell_types.specs.declared.cell.CellId.{CellId}
use Rattle.cell_types.specs.declared.cell.Read.TheVariants.{Cell, Key, Rows}
use Rattle.cell_types.specs.NameRule.{is_name}
use Rattle.doc_model.specs.declared.action.DocAction.TheVariants.{AddColumn}
use Rattle.doc_model.specs.declared.column.ColDef.{ColDef}
use Rattle.doc_model.specs.Apply.{add_column}
use Rattle.doc_model.specs.ByIds.{find_id, has_id}
use Rattle.doc_model.specs.Column.{column_id, column_row, start_of, is_sound_info}
use Rattle.doc_model.specs.Document.{Table, Document, table_id, on_grid, with_table, put_by_row}
use Rattle.doc_model.specs.Grid.{Grid, cell}
use Rattle.doc_model.specs.MetadataIds.{columns_id}
use Rattle.doc_model.specs.Rows.{has}
use Rattle.doc_model.specs.Schema.{all_columns, with_schema, resources, rules, plain_tables}
use Rattle.doc_model.specs.Valid.{schema_table, are_free, is_new_column, valid}
use Rattle.doc_model.proofs.ByIdsLaws.{found_id, has_found, bytes_apart}
use Rattle.doc_model.proofs.ByRowLaws.{find-put_by_row}
use Rattle.doc_model.proofs.Choices.{cond_false, parts_3}
use Rattle.doc_model.proofs.DescribedRows.{described_at, described_in, described-with_table, same_described}
use Rattle.doc_model.proofs.DocumentParts.{passes_parts, schema_table_parts}
use Rattle.doc_model.proofs.FirstRows.{first-put_by_row}
use Rattle.doc_model.proofs.GridLaws.{cell-grid_of}
use Rattle.recalc.specs.Cells.{cell_of}
use Rattle.recalc.proofs.Over.{all_each}
use Rattle.affected_cells.specs.Laws.{AddColumnLaw}
use Rattle.affected_cells.specs.Touched.{is_touched}
use Rattle.affected_cells.specs.TouchedRight.{TouchesRight}
use Rattle.affected_cells.proofs.Alike.{IsEqualOf, grids_equal}
use Rattle.affected_cells.proofs.Described.{described_equal, told}
use Rattle.affected_cells.proofs.RowsLaw.{was_there, valid_right}
use Rattle.affected_cells.proofs.SchemaActions.{column_action_right}
use Rattle.affected_cells.proofs.Tests.{found_once}

-- a column that is found is another than one that is not there
found_apart : (cs : List ColDef) (d e : ColDef) (k : List ℕ) → has_id column_id cs d.id ≡ false → find_id column_id k cs ≡ Some e → bytes_eq d.id k ≡ false
found_apart cs d e k absent found = by (bytes_eq d.id k) refl
  where
    by : (b : Bool) → bytes_eq d.id k ≡ b → b ≡ false
    by false is = refl
    by true is = absurd (false≢true (sym absent ∙ ap (has_id column_id cs) ((bytes_eq-Decides d.id k).0 is) ∙ has_found column_id k cs e found))

found_beside : (cs : List ColDef) (d : ColDef) (k : List ℕ) → has_id column_id cs d.id ≡ false → bytes_eq d.id k ≡ false → find_id column_id k (put_by_row column_row d cs) ≡ find_id column_id k cs
found_beside cs d k absent apart = find-put_by_row column_row column_id d cs k absent ∙ cond_false (bytes_eq d.id k) (Some d) (find_id column_id k cs) apart

module _ (r u : Grid ColDef) (p : List Table) (table : List ℕ) (d : ColDef) (t : Table) (at_table : find_id table_id table p ≡ Some t) (absent : has_id column_id t.grid.columns d.id ≡ false) where
  abbrev w : Document
  w = with_schema r u p

  abbrev q : List Table
  q = with_table table (on_grid (add_column d)) p

  free_column : (c : CellId) → is_touched w (AddColumn table d) (Cell c) ≡ false → c.table ≡ table → bytes_eq c.column d.id ≡ false
  free_column c free is = each (bytes_eq c.table table) (bytes_eq c.column d.id) ((bytes_eq c.table columns_id && has (d.row ∷ []) c.row) || false) free ((bytes_eq-Decides c.table table).1 is)
    where
      each : (a b m : Bool) → ((a && b) || m) ≡ false → a ≡ true → b ≡ false
      each true true m h e = absurd (true≢false h)
      each true false m h e = refl
      each false b m h e = absurd (false≢true e)

  free_row : (c : CellId) → is_touched w (AddColumn table d) (Cell c) ≡ false → c.table ≡ columns_id → eqb d.row c.row ≡ false
  free_row c free is = each (bytes_eq c.table table && bytes_eq c.column d.id) (bytes_eq c.table columns_id) (eqb d.row c.row) free ((bytes_eq-Decides c.table columns_id).1 is)
    where
      each : (m a b : Bool) → (m || ((a && (b || false)) || false)) ≡ false → a ≡ true → b ≡ false
      each true a b h e = absurd (true≢false h)
      each false true true h e = absurd (true≢false h)
      each false true false h e = refl
      each false false b h e = absurd (false≢true e)

  free_cells : (x k : List ℕ) (n : ℕ) → is_touched w (AddColumn table d) (Key x k) ≡ false → is_touched w (AddColumn table d) (Cell (cell_of x k n)) ≡ false
  free_cells x k n h = each (bytes_eq x table && bytes_eq k d.id) (bytes_eq x columns_id) (has (d.row ∷ []) n) h
    where
      each : (m a b : Bool) → (m || (a || false)) ≡ false → (m || ((a && b) || false)) ≡ false
      each true a b h = absurd (true≢false h)
      each false true b h = absurd (true≢false h)
      each false false b h = refl

  no_rows : is_touched w (AddColumn table d) (Rows columns_id) ≡ false → ⊥
  no_rows h = each (bytes_eq columns_id columns_id) h ((bytes_eq-Decides columns_id columns_id).1 refl)
    where
      each : (a : Bool) → (false || (a || false)) ≡ false → a ≡ true → ⊥
      each true h e = true≢false h
      each false h e = false≢true e

  same_at : (n : ℕ) → eqb d.row n ≡ false → described_at n (all_columns q) ≡ described_at n (all_columns p)
  same_at n apart = described-with_table table n (on_grid (add_column d)) p
      (all_each (λ (x : Table). bytes_eq (table_id x) table ≡ true → described_at n (described_in (on_grid (add_column d) x)) ≡ described_at n (described_in x))
      (λ x _. same_described x (on_grid (add_column d) x) n refl (first-put_by_row column_row d x.grid.columns n apart)) p)

  own : (c : CellId) → bytes_eq c.column d.id ≡ false → IsEqualOf c (Some t) (Some (on_grid (add_column d) t))
  own c apart =
      let beside : find_id column_id c.column (put_by_row column_row d t.grid.columns) ≡ find_id column_id c.column t.grid.columns = found_beside t.grid.columns d c.column absent (bytes_apart c.column d.id apart) in
      grids_equal c t (on_grid (add_column d) t) beside refl (λ e found here.
      let name : e.id ≡ c.column = found_id column_id c.column t.grid.columns e found in
      ap (λ n. cell column_id (add_column d t.grid) n c.row) (sym name)
      ∙ cell-grid_of column_id (put_by_row column_row d t.grid.columns) t.grid.rows (λ (e : ColDef) n. cond (bytes_eq e.id d.id) (start_of d) (cell column_id t.grid e.id n)) e c.row
      (ap (λ n. find_id column_id n (put_by_row column_row d t.grid.columns)) name ∙ beside ∙ found) here
      ∙ cond_false (bytes_eq e.id d.id) (start_of d) (cell column_id t.grid e.id c.row) (ap (λ n. bytes_eq n d.id) name ∙ apart)
      ∙ ap (λ n. cell column_id t.grid n c.row) name)

  added_right : valid w (AddColumn table d) ≡ true → TouchesRight w (AddColumn table d)
  added_right v = valid_right w (AddColumn table d) v (column_action_right r u p table (add_column d) t at_table (AddColumn table d) (record {
    was = was_there w;
    keys = free_cells;
    columns = λ c free is. described_equal p q c (ap (told c.column) (same_at c.row (free_row c free is)));
    own = λ c free is. own c (free_column c free is);
    column = λ c _ _ x y h k. found_once x y (sym h ∙ sym (found_beside t.grid.columns d c.column absent (found_apart t.grid.columns d x c.column absent h)) ∙ k);
    columns_rows = λ free. absurd (no_rows free);
    rows = refl;
  }))

of_parts : (r u : Grid ColDef) (p : List Table) (table : List ℕ) (d : ColDef) → valid (with_schema r u p) (AddColumn table d) ≡ true → TouchesRight (with_schema r u p) (AddColumn table d)
of_parts r u p table d v =
    let w : Document = with_schema r u p in
    let found : (t : Table) × ((schema_table w table ≡ Some t) × (((is_new_column t.grid d.id && are_free w columns_id (d.row ∷ [])) && is_sound_info d.info) ≡ true))
    = passes_parts (schema_table w table) (λ t. is_new_column t.grid d.id && are_free w columns_id (d.row ∷ []) && is_sound_info d.info) v in
    let tests = parts_3 (is_new_column found.0.grid d.id) (are_free w columns_id (d.row ∷ [])) (is_sound_info d.info) found.1.1 in
    added_right r u p table d found.0 (schema_table_parts r u p table found.0 found.1.0).1 (new (has_id column_id found.0.grid.columns d.id) (is_name d.id) tests.0) v
  where
    new : (a b : Bool) → (not a && b) ≡ true → a ≡ false
    new true b h = absurd (false≢true h)
    new false b h = refl

pub add_column_law : AddColumnLaw
add_column_law s table d whole v =
    subst (λ x. TouchesRight x (AddColumn table d)) (sym whole.agrees.schema)
    (of_parts (resources s) (rules s) (plain_tables s) table d (subst (λ x. valid x (AddColumn table d) ≡ true) whole.agrees.schema v))
