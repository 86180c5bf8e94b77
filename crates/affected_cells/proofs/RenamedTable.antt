-- A table that is renamed touches what is said of it under both names, and its id in the table of tables.
use Rattle.std.proofs.Common.{ℕ, Bool, true, false, cond, not, ◌&&◌, ◌||◌, List, [], ◌∷◌, ◌++◌, map, ◌≡◌, refl, sym, ap, ◌∙◌, subst, Option, Some, None, option_map, eqb, codes}
use Rattle.std.proofs.lemmas.Bool.{true≢false, false≢true}
use Rattle.std.proofs.lemmas.Slice.Eq.{bytes_eq-Decides}
use Rattle.std.specs.Str.{bytes_eq}
use Rattle.cell_types.specs.declared.cell.CellId.{CellId}
use Rattle.cell_types.specs.declared.cell.Read.TheVariants.{Cell, Key}
use Rattle.cell_types.specs.declared.column_type.ColType.TheVariants as type
use Rattle.cell_types.specs.declared.value.CellValue.TheVariants as value
use Rattle.cell_types.specs.NameRule.{is_name}
use Rattle.doc_model.specs.declared.action.DocAction.TheVariants.{RenameTable}
use Rattle.doc_model.specs.declared.column.ColDef.{ColDef}
use Rattle.doc_model.specs.ByIds.{find_id, has_id, with_id, AreDistinct}
use Rattle.doc_model.specs.Column.{column_id}
use Rattle.doc_model.specs.Document.{Table, Document, table_id, table_row, renamed}
use Rattle.doc_model.specs.Grid.{Grid}
use Rattle.doc_model.specs.MetadataIds.{tables_id, columns_id}
use Rattle.doc_model.specs.Rows.{has}
use Rattle.doc_model.specs.Schema.{Described, all_columns, columns_columns, columns_grid, describe, described_row, in_order, metadata_column, metadata_table, tables_columns, tables_grid, with_schema, resources, rules, plain_tables}
use Rattle.doc_model.specs.Touched.{table_described}
use Rattle.doc_model.specs.Valid.{is_new_table, schema_table, valid}
use Rattle.doc_model.proofs.ByIdsLaws.{find_absent, has_found}
use Rattle.doc_model.proofs.ByRowLaws.{apart_ids, has-old_id, map-with_id}
use Rattle.doc_model.proofs.DocumentParts.{absent_parts, find_plain, passes_parts, schema_table_parts}
use Rattle.doc_model.proofs.FirstRows.{each_of_id, first-with_id, same_row_by}
use Rattle.doc_model.proofs.WholeLaws.{IsGood, IsPlain, good_from}
use Rattle.recalc.specs.Cells.{cell_of}
use Rattle.affected_cells.specs.Laws.{RenameTableLaw}
use Rattle.affected_cells.specs.Touched.{is_touched}
use Rattle.affected_cells.specs.TouchedRight.{TouchesRight}
use Rattle.affected_cells.proofs.Alike.{IsEqualOf, column_of, grids_equal, row_equal, rows_told}
use Rattle.affected_cells.proofs.Renamed.{found_kept}
use Rattle.affected_cells.proofs.RowsLaw.{was_there, valid_right}
use Rattle.affected_cells.proofs.SchemaActions.{described_by, schema_action_right}
use Rattle.affected_cells.proofs.Tests.{flipped, found_once}

-- a table under another id describes the same columns
same_columns : (table new : List ℕ) (p : List Table) → all_columns (with_id table_id table (renamed new) p) ≡ all_columns p
same_columns table new [] = refl
same_columns table new (t ∷ p) =
    elim (bytes_eq t.id table) as (λ b. all_columns (cond b (renamed new t) t ∷ with_id table_id table (renamed new) p) ≡ all_columns (t ∷ p)) [
      | true ↦ ap (λ es. map (λ (d : ColDef). let e : Described = record { parent = t.row; column = d } in e) t.grid.columns ++ es) (same_columns table new p)
      | false ↦ ap (λ es. map (λ (d : ColDef). let e : Described = record { parent = t.row; column = d } in e) t.grid.columns ++ es) (same_columns table new p)
    ]

module _ (r u : Grid ColDef) (p : List Table) (table new : List ℕ) (t : Table) (plain : IsPlain table) (at_table : find_id table_id table p ≡ Some t) (fresh : has_id table_id p new ≡ false) (distinct : AreDistinct table_id p) where
  abbrev w : Document
  w = with_schema r u p

  abbrev q : List Table
  q = with_id table_id table (renamed new) p

  its_row : table_described w table ≡ t.row ∷ []
  its_row = ap (λ (o : Option Table). elim o as (λ _. List ℕ) [ None ↦ [] | Some x ↦ x.row ∷ [] ]) (find_plain r u p table plain ∙ at_table)

  -- what is touched, by the row of the table
  abbrev by_rows : CellId → List ℕ → Bool
  by_rows c rows = bytes_eq c.table table || (bytes_eq c.table new || ((bytes_eq c.table tables_id && (bytes_eq c.column (codes "tableId") && has rows c.row)) || false))

  free_tables : (a b m : Bool) → (a || (b || m)) ≡ false → (a ≡ false) × (b ≡ false)
  free_tables true b m h = absurd (true≢false h)
  free_tables false true m h = absurd (true≢false h)
  free_tables false false m h = (refl, refl)

  free_row : (c : CellId) → is_touched w (RenameTable table new) (Cell c) ≡ false → c.table ≡ tables_id → bytes_eq c.column (codes "tableId") ≡ true → eqb t.row c.row ≡ false
  free_row c free is named =
      each (bytes_eq c.table table) (bytes_eq c.table new) (bytes_eq c.table tables_id) (bytes_eq c.column (codes "tableId")) (eqb t.row c.row) (ap (by_rows c) (sym its_row) ∙ free) ((bytes_eq-Decides c.table tables_id).1 is) named
    where
      each : (m n a x b : Bool) → (m || (n || ((a && (x && (b || false))) || false))) ≡ false → a ≡ true → x ≡ true → b ≡ false
      each true n a x b h i j = absurd (true≢false h)
      each false true a x b h i j = absurd (true≢false h)
      each false false false x b h i j = absurd (false≢true i)
      each false false true false b h i j = absurd (false≢true j)
      each false false true true true h i j = absurd (true≢false h)
      each false false true true false h i j = refl

  free_cells : (x k : List ℕ) (n : ℕ) → is_touched w (RenameTable table new) (Key x k) ≡ false → is_touched w (RenameTable table new) (Cell (cell_of x k n)) ≡ false
  free_cells x k n h = each (bytes_eq x table) (bytes_eq x new) (bytes_eq x tables_id) (bytes_eq k (codes "tableId")) (has (table_described w table) n) h
    where
      each : (m n a x b : Bool) → (m || (n || ((a && x) || false))) ≡ false → (m || (n || ((a && (x && b)) || false))) ≡ false
      each true n a x b h = absurd (true≢false h)
      each false true a x b h = absurd (true≢false h)
      each false false false x b h = refl
      each false false true true b h = absurd (true≢false h)
      each false false true false b h = refl

  same_rows : (tables_grid q).rows ≡ (tables_grid p).rows
  same_rows = map-with_id table_id table_row table (renamed new) p (λ _. refl)

  -- the table of tables: another column is not there, and another row describes the same table
  in_tables : (c : CellId) → is_touched w (RenameTable table new) (Cell c) ≡ false → c.table ≡ tables_id → IsEqualOf c (described_by tables_grid tables_id p) (described_by tables_grid tables_id q)
  in_tables c free is = by (bytes_eq (codes "tableId") c.column) refl
    where
      by : (b : Bool) → bytes_eq (codes "tableId") c.column ≡ b → IsEqualOf c (described_by tables_grid tables_id p) (described_by tables_grid tables_id q)
      by false apart = grids_equal c (metadata_table tables_id (tables_grid p)) (metadata_table tables_id (tables_grid q)) refl (ap (λ rows. has rows c.row) same_rows)
          (λ e found _. absurd (none (sym (ap (λ b. cond b (Some (metadata_column (codes "tableId") type.Text)) None) apart) ∙ found)))
        where
          none : {e : ColDef} → None ≡ Some e → ⊥
          none e = cc
      by true named =
          let apart : eqb t.row c.row ≡ false = free_row c free is (sym (flipped (codes "tableId") c.column) ∙ named) in
          row_equal c (metadata_table tables_id (tables_grid p)) (metadata_table tables_id (tables_grid q))
          (same_row_by column_id tables_columns table_row (λ (x : Table). value.Text x.id ∷ []) p q c.row
          (ap (option_map (λ (x : Table). value.Text x.id ∷ [])) (sym (first-with_id table_row table_id table c.row (renamed new) (λ _. refl) p
          (each_of_id table_id (λ (x : Table). eqb x.row c.row ≡ false) table p distinct (λ x found. ap (λ (y : Table). eqb y.row c.row) (found_once x t (sym found ∙ at_table)) ∙ apart))))))

  kept : (n : List ℕ) → bytes_eq n table ≡ false → bytes_eq n new ≡ false → find_id table_id n q ≡ find_id table_id n p
  kept n old is = found_kept table_id table new n (renamed new) (λ _. refl) old is p

  -- a table that is there before and after has neither id
  kept_column : (n k : List ℕ) (d e : ColDef) → column_of (find_id table_id n p) k ≡ Some d → column_of (find_id table_id n q) k ≡ Some e → d ≡ e
  kept_column n k d e x y = by (bytes_eq n table) refl (bytes_eq n new) refl
    where
      none : {d : ColDef} → None ≡ Some d → ⊥
      none e = cc

      by : (a : Bool) → bytes_eq n table ≡ a → (b : Bool) → bytes_eq n new ≡ b → d ≡ e
      by true old b is = absurd (none (sym (ap (λ o. column_of o k) (ap (λ m. find_id table_id m q) ((bytes_eq-Decides n table).0 old)
          ∙ find_absent table_id table q (has-old_id table_id table new (renamed new) p (λ _. refl) (apart_ids table_id table new p (has_found table_id table p t at_table) fresh)))) ∙ y))
      by false old true is = absurd (none (sym (ap (λ o. column_of o k) (ap (λ m. find_id table_id m p) ((bytes_eq-Decides n new).0 is) ∙ find_absent table_id new p fresh)) ∙ x))
      by false old false is = found_once d e (sym x ∙ sym (ap (λ o. column_of o k) (kept n old is)) ∙ y)

  renamed_right : valid w (RenameTable table new) ≡ true → TouchesRight w (RenameTable table new)
  renamed_right v = valid_right w (RenameTable table new) v (schema_action_right r u p q (RenameTable table new) (record {
    was = was_there w;
    keys = free_cells;
    tables = in_tables;
    columns = λ c _ _. subst (λ g. IsEqualOf c (Some (metadata_table columns_id (columns_grid p))) (Some (metadata_table columns_id g))) (sym same_grid) (refl, refl, refl);
    others = λ c free. let e = free_tables (bytes_eq c.table table) (bytes_eq c.table new) _ free in subst (IsEqualOf c (find_id table_id c.table p)) (sym (kept c.table e.0 e.1)) (refl, refl, refl);
    column = λ c _ d e. kept_column c.table c.column d e;
    tables_rows = λ _. sym same_rows;
    columns_rows = λ _. ap (λ (g : Grid ColDef). g.rows) (sym same_grid);
    rows = λ x free. let e = free_tables (bytes_eq x table) (bytes_eq x new) _ free in ap rows_told (sym (kept x e.0 e.1));
  }))
    where
      same_grid : columns_grid q ≡ columns_grid p
      same_grid = ap (λ es. let g : Grid ColDef = record { columns = columns_columns; rows = map described_row (in_order es); cells = map describe (in_order es) } in g) (same_columns table new p)

of_parts : (r u : Grid ColDef) (p : List Table) (table new : List ℕ) → IsGood r u p → valid (with_schema r u p) (RenameTable table new) ≡ true → TouchesRight (with_schema r u p) (RenameTable table new)
of_parts r u p table new good v =
    let found : (t : Table) × ((schema_table (with_schema r u p) table ≡ Some t) × (is_new_table (with_schema r u p) new ≡ true)) = passes_parts (schema_table (with_schema r u p) table) (λ _. is_new_table (with_schema r u p) new) v in
    let at = schema_table_parts r u p table found.0 found.1.0 in
    renamed_right r u p table new found.0 at.0 at.1 (absent_parts r u p new (absent (has_id table_id (with_schema r u p) new) (is_name new) found.1.1)).1 good.distinct v
  where
    absent : (a b : Bool) → (not a && b) ≡ true → a ≡ false
    absent true b h = absurd (false≢true h)
    absent false b h = refl

pub rename_table_law : RenameTableLaw
rename_table_law s table new whole v =
    subst (λ x. TouchesRight x (RenameTable table new)) (sym whole.agrees.schema)
    (of_parts (resources s) (rules s) (plain_tables s) table new (good_from s whole) (subst (λ x. valid x (RenameTable table new) ≡ true) whole.agrees.schema v))
