-- What is owed for an action that leads from plain tables to others, table by table.
use Rattle.std.proofs.Common.{ℕ, false, List, ◌≡◌, refl, sym, ap, ◌∙◌, subst, Option, Some}
use Rattle.cell_types.specs.declared.cell.CellId.{CellId}
use Rattle.cell_types.specs.declared.cell.Read.TheVariants.{Cell, Key, Rows}
use Rattle.doc_model.specs.declared.action.DocAction.{DocAction}
use Rattle.doc_model.specs.declared.column.ColDef.{ColDef}
use Rattle.doc_model.specs.ByIds.{find_id}
use Rattle.doc_model.specs.Column.{column_id}
use Rattle.doc_model.specs.Document.{Table, Document, table_id, on_grid, with_table}
use Rattle.doc_model.specs.Grid.{Grid}
use Rattle.doc_model.specs.MetadataIds.{tables_id, columns_id}
use Rattle.doc_model.specs.Schema.{tables_grid, columns_grid, metadata_table, with_schema}
use Rattle.doc_model.proofs.DocumentParts.{tables_grid_same}
use Rattle.recalc.specs.Cells.{cell_of}
use Rattle.recalc.specs.Evaluated.{formula_at, sheet_of}
use Rattle.affected_cells.specs.Affected.{is_fresh_cell}
use Rattle.affected_cells.specs.Touched.{is_touched}
use Rattle.affected_cells.specs.TouchedRight.{IsTouchedRight}
use Rattle.affected_cells.proofs.Alike.{IsEqualOf, column_of, rows_told, in_schema, in_plain, alike_right}
use Rattle.affected_cells.proofs.Tests.{found_once}

abbrev pub described_by : (List Table → Grid ColDef) → List ℕ → List Table → Option Table
described_by grid id p = Some (metadata_table id (grid p))

module _ (r u : Grid ColDef) (p q : List Table) (a : DocAction) where
  abbrev before : Document
  before = with_schema r u p

  -- of cells and rows that the action does not touch, and of formula cells that are not fresh
  pub record IsSchemaAction : Type 0 where
    pub was : (c : CellId) → is_fresh_cell before a c ≡ false → (f : List ℕ) × (formula_at before c ≡ Some f)
    pub keys : (x k : List ℕ) (n : ℕ) → is_touched before a (Key x k) ≡ false → is_touched before a (Cell (cell_of x k n)) ≡ false
    pub tables : (c : CellId) → is_touched before a (Cell c) ≡ false → c.table ≡ tables_id → IsEqualOf c (described_by tables_grid tables_id p) (described_by tables_grid tables_id q)
    pub columns : (c : CellId) → is_touched before a (Cell c) ≡ false → c.table ≡ columns_id → IsEqualOf c (described_by columns_grid columns_id p) (described_by columns_grid columns_id q)
    pub others : (c : CellId) → is_touched before a (Cell c) ≡ false → IsEqualOf c (find_id table_id c.table p) (find_id table_id c.table q)
    pub column : (c : CellId) → is_fresh_cell before a c ≡ false → (d e : ColDef) → column_of (find_id table_id c.table p) c.column ≡ Some d → column_of (find_id table_id c.table q) c.column ≡ Some e → d ≡ e
    pub tables_rows : is_touched before a (Rows tables_id) ≡ false → (tables_grid p).rows ≡ (tables_grid q).rows
    pub columns_rows : is_touched before a (Rows columns_id) ≡ false → (columns_grid p).rows ≡ (columns_grid q).rows
    pub rows : (x : List ℕ) → is_touched before a (Rows x) ≡ false → rows_told (find_id table_id x p) ≡ rows_told (find_id table_id x q)

  pub schema_action_right : IsSchemaAction → IsTouchedRight (sheet_of before) (sheet_of (with_schema r u q)) (is_fresh_cell before a) (is_touched before a)
  schema_action_right h = alike_right before (with_schema r u q) (is_fresh_cell before a) (is_touched before a) (record {
    was = h.was;
    column = λ c d e free. in_schema (λ o o'. column_of o c.column ≡ Some d → column_of o' c.column ≡ Some e → d ≡ e) (λ o x y. found_once d e (sym x ∙ y)) r u p q c.table
        (λ _ x y. found_once d e (sym x ∙ y)) (λ _ x y. found_once d e (sym x ∙ y)) (h.column c free d e);
    cell = λ c free. in_schema (IsEqualOf c) (λ o. (refl, refl, refl)) r u p q c.table (h.tables c free) (h.columns c free) (h.others c free);
    key = h.keys;
    rows = λ x free. in_schema (λ o o'. rows_told o ≡ rows_told o') (λ o. refl) r u p q x
        (λ is. ap (λ l. Some l) (h.tables_rows (subst (λ n. is_touched before a (Rows n) ≡ false) is free)))
        (λ is. ap (λ l. Some l) (h.columns_rows (subst (λ n. is_touched before a (Rows n) ≡ false) is free)))
        (h.rows x free);
  })

-- what is owed where one table's columns change, and no table comes or goes
module _ (r u : Grid ColDef) (p : List Table) (table : List ℕ) (f : Grid ColDef → Grid ColDef) (t : Table) (at_table : find_id table_id table p ≡ Some t) (a : DocAction) where
  abbrev first : Document
  first = with_schema r u p

  abbrev after : List Table
  after = with_table table (on_grid f) p

  pub record IsColumnAction : Type 0 where
    pub was : (c : CellId) → is_fresh_cell first a c ≡ false → (f : List ℕ) × (formula_at first c ≡ Some f)
    pub keys : (x k : List ℕ) (n : ℕ) → is_touched first a (Key x k) ≡ false → is_touched first a (Cell (cell_of x k n)) ≡ false
    pub columns : (c : CellId) → is_touched first a (Cell c) ≡ false → c.table ≡ columns_id → IsEqualOf c (described_by columns_grid columns_id p) (described_by columns_grid columns_id after)
    pub own : (c : CellId) → is_touched first a (Cell c) ≡ false → c.table ≡ table → IsEqualOf c (Some t) (Some (on_grid f t))
    pub column : (c : CellId) → is_fresh_cell first a c ≡ false → c.table ≡ table → (d e : ColDef) → find_id column_id c.column t.grid.columns ≡ Some d → find_id column_id c.column (f t.grid).columns ≡ Some e → d ≡ e
    pub columns_rows : is_touched first a (Rows columns_id) ≡ false → (columns_grid p).rows ≡ (columns_grid after).rows
    pub rows : (f t.grid).rows ≡ t.grid.rows

  its_table : (n : List ℕ) (x : Table) → find_id table_id n p ≡ Some x → n ≡ table → t ≡ x
  its_table n x found is = found_once t x (sym at_table ∙ ap (λ m. find_id table_id m p) (sym is) ∙ found)

  same_tables : tables_grid after ≡ tables_grid p
  same_tables = tables_grid_same table (on_grid f) p (λ t. refl) (λ t. refl)

  pub column_action_right : IsColumnAction → IsTouchedRight (sheet_of first) (sheet_of (with_schema r u after)) (is_fresh_cell first a) (is_touched first a)
  column_action_right h = schema_action_right r u p after a (record {
    was = h.was;
    keys = h.keys;
    tables = λ c free is. subst (λ g. IsEqualOf c (Some (metadata_table tables_id (tables_grid p))) (Some (metadata_table tables_id g))) (sym same_tables) (refl, refl, refl);
    columns = h.columns;
    others = λ c free. in_plain (IsEqualOf c) (λ o. (refl, refl, refl)) table f p c.table (λ x found is. subst (λ z. IsEqualOf c (Some z) (Some (on_grid f z))) (its_table c.table x found is) (h.own c free is));
    column = λ c free d e. in_plain (λ o o'. column_of o c.column ≡ Some d → column_of o' c.column ≡ Some e → d ≡ e) (λ o x y. found_once d e (sym x ∙ y)) table f p c.table
        (λ x found is. subst (λ (z : Table). find_id column_id c.column z.grid.columns ≡ Some d → find_id column_id c.column (f z.grid).columns ≡ Some e → d ≡ e) (its_table c.table x found is) (h.column c free is d e));
    tables_rows = λ _. ap (λ (g : Grid ColDef). g.rows) (sym same_tables);
    columns_rows = h.columns_rows;
    rows = λ x free. in_plain (λ o o'. rows_told o ≡ rows_told o') (λ o. refl) table f p x (λ y found is. subst (λ (z : Table). rows_told (Some z) ≡ rows_told (Some (on_grid f z))) (its_table x y found is) (ap (λ l. Some l) (sym h.rows)));
  })
