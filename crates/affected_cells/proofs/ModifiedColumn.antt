-- A column that is modified touches what is said of it, what describes it in the table of columns included.
use Rattle.std.proofs.Common.{ℕ, Bool, true, false, cond, not, ◌&&◌, ◌||◌, List, ◌≡◌, refl, sym, ap, ◌∙◌, subst, Some, option_map, is_some, eqb, codes}
use Rattle.std.proofs.lemmas.Bool.{true≢false, false≢true}
use Rattle.std.proofs.lemmas.Slice.Eq.{bytes_eq-Decides}
use Rattle.std.specs.Str.{bytes_eq}
use Rattle.cell_types.specs.declared.cell.CellId.{CellId}
use Rattle.cell_types.specs.declared.cell.Read.TheVariants.{Cell, Key}
use Rattle.cell_types.specs.declared.value.CellValue.{CellValue}
use Rattle.doc_model.specs.declared.action.DocAction.TheVariants.{ModifyColumn}
use Rattle.doc_model.specs.declared.column.ColDef.{ColDef}
use Rattle.doc_model.specs.declared.column.ColInfo.{ColInfo}
use Rattle.doc_model.specs.Apply.{with_column, with_info}
use Rattle.doc_model.specs.ByIds.{find_id, has_id, with_id, AreDistinct}
use Rattle.doc_model.specs.Column.{column_id, is_sound_info}
use Rattle.doc_model.specs.Document.{Table, Document, table_id, on_grid, with_table}
use Rattle.doc_model.specs.Grid.{Grid}
use Rattle.doc_model.specs.MetadataIds.{columns_id}
use Rattle.doc_model.specs.Rows.{has}
use Rattle.doc_model.specs.Schema.{Described, all_columns, with_schema, resources, rules, plain_tables}
use Rattle.doc_model.specs.Sound.{IsSoundGrid}
use Rattle.doc_model.specs.Touched.{column_described}
use Rattle.doc_model.specs.Valid.{all_null, schema_table, valid}
use Rattle.doc_model.proofs.ByIdsLaws.{found_all, bytes_apart, found_has}
use Rattle.doc_model.proofs.ByRowLaws.{find-with_id}
use Rattle.doc_model.proofs.Choices.{cond_false, parts_3}
use Rattle.doc_model.proofs.ColumnsKept.{cell-with_info}
use Rattle.doc_model.proofs.DescribedRows.{described_at, described_in}
use Rattle.doc_model.proofs.DocumentParts.{passes_parts, schema_table_parts}
use Rattle.doc_model.proofs.FirstRows.{each_of_id}
use Rattle.doc_model.proofs.WholeLaws.{IsGood, IsPlain, good_from}
use Rattle.recalc.specs.Cells.{cell_of}
use Rattle.recalc.specs.Evaluated.{formula_at}
use Rattle.affected_cells.specs.Affected.{is_fresh_cell}
use Rattle.affected_cells.specs.Laws.{ModifyColumnLaw}
use Rattle.affected_cells.specs.Touched.{is_touched}
use Rattle.affected_cells.specs.TouchedRight.{TouchesRight}
use Rattle.affected_cells.proofs.Alike.{IsEqualOf, grids_equal}
use Rattle.affected_cells.proofs.Described.{described_equal, described_rows, is_told, said, told, told-with_id, told-with_table}
use Rattle.affected_cells.proofs.RemovedColumn.{its_row}
use Rattle.affected_cells.proofs.RowsLaw.{was_there, valid_right}
use Rattle.affected_cells.proofs.SchemaActions.{column_action_right}
use Rattle.affected_cells.proofs.Tests.{found_once, or_false}

-- the column of the table of columns says nothing of what an info has
pub record IsNoInfo (k : List ℕ) : Type 0 where
  pub type_apart : bytes_eq k (codes "type") ≡ false
  pub flag_apart : bytes_eq k (codes "isFormula") ≡ false
  pub text_apart : bytes_eq k (codes "formula") ≡ false

said_same : (k : List ℕ) (parent : ℕ) (info : ColInfo) (e : ColDef) → IsNoInfo k → (let x : Described = record { parent = parent; column = with_info info e } in said k x) ≡ (let x : Described = record { parent = parent; column = e } in said k x)
said_same k parent info e free =
    five (bytes_eq (codes "parentId") k) (bytes_eq (codes "colId") k) (bytes_eq (codes "type") k) (bytes_eq (codes "isFormula") k) (bytes_eq (codes "formula") k) _ _ _ _ _ _ _ _ _
    (bytes_apart k (codes "type") free.type_apart) (bytes_apart k (codes "isFormula") free.flag_apart) (bytes_apart k (codes "formula") free.text_apart)
  where
    five : (a b c d e : Bool) (v w x y z x' y' z' n : CellValue) → c ≡ false → d ≡ false → e ≡ false
        → cond a v (cond b w (cond c x (cond d y (cond e z n)))) ≡ cond a v (cond b w (cond c x' (cond d y' (cond e z' n))))
    five true b c d e v w x y z x' y' z' n p q r = refl
    five false true c d e v w x y z x' y' z' n p q r = refl
    five false false true d e v w x y z x' y' z' n p q r = absurd (true≢false p)
    five false false false true e v w x y z x' y' z' n p q r = absurd (true≢false q)
    five false false false false true v w x y z x' y' z' n p q r = absurd (true≢false r)
    five false false false false false v w x y z x' y' z' n p q r = refl

module _ (r u : Grid ColDef) (p : List Table) (table c : List ℕ) (info : ColInfo) (t : Table) (d : ColDef) (plain : IsPlain table) (at_table : find_id table_id table p ≡ Some t) (at_column : find_id column_id c t.grid.columns ≡ Some d)
    (distinct : AreDistinct table_id p) (columns_distinct : AreDistinct column_id t.grid.columns) where
  abbrev w : Document
  w = with_schema r u p

  abbrev f : Grid ColDef → Grid ColDef
  f = with_column c (with_info info)

  abbrev q : List Table
  q = with_table table (on_grid f) p

  -- what is touched, by the row of the column
  abbrev by_rows : CellId → List ℕ → Bool
  by_rows e rows =
      (bytes_eq e.table table && bytes_eq e.column c)
      || ((bytes_eq e.table columns_id && (bytes_eq e.column (codes "type") && has rows e.row))
      || ((bytes_eq e.table columns_id && (bytes_eq e.column (codes "isFormula") && has rows e.row))
      || ((bytes_eq e.table columns_id && (bytes_eq e.column (codes "formula") && has rows e.row)) || false)))

  free_column : (e : CellId) → is_touched w (ModifyColumn table c info) (Cell e) ≡ false → e.table ≡ table → bytes_eq e.column c ≡ false
  free_column e free is = each (bytes_eq e.table table) (bytes_eq e.column c) (or_false (bytes_eq e.table table && bytes_eq e.column c) _ free).0 ((bytes_eq-Decides e.table table).1 is)
    where
      each : (a b : Bool) → (a && b) ≡ false → a ≡ true → b ≡ false
      each true b h e = h
      each false b h e = absurd (false≢true e)

  free_said : (e : CellId) → is_touched w (ModifyColumn table c info) (Cell e) ≡ false → e.table ≡ columns_id → eqb d.row e.row ≡ true → IsNoInfo e.column
  free_said e free is here =
      let parts = each (bytes_eq e.table table && bytes_eq e.column c) (bytes_eq e.table columns_id) (bytes_eq e.column (codes "type")) (bytes_eq e.column (codes "isFormula")) (bytes_eq e.column (codes "formula")) (eqb d.row e.row)
      (ap (by_rows e) (sym (its_row r u p table c t d plain at_table at_column)) ∙ free) ((bytes_eq-Decides e.table columns_id).1 is) here in
      record { type_apart = parts.0; flag_apart = parts.1; text_apart = parts.2 }
    where
      each : (m a x y z b : Bool) → (m || ((a && (x && (b || false))) || ((a && (y && (b || false))) || ((a && (z && (b || false))) || false)))) ≡ false → a ≡ true → b ≡ true → (x ≡ false) × (y ≡ false) × (z ≡ false)
      each true a x y z b h i j = absurd (true≢false h)
      each false false x y z b h i j = absurd (false≢true i)
      each false true x y z false h i j = absurd (false≢true j)
      each false true true y z true h i j = absurd (true≢false h)
      each false true false true z true h i j = absurd (true≢false h)
      each false true false false true true h i j = absurd (true≢false h)
      each false true false false false true h i j = (refl, refl, refl)

  free_cells : (x k : List ℕ) (n : ℕ) → is_touched w (ModifyColumn table c info) (Key x k) ≡ false → is_touched w (ModifyColumn table c info) (Cell (cell_of x k n)) ≡ false
  free_cells x k n h =
      each (bytes_eq x table && bytes_eq k c) (bytes_eq x columns_id) (bytes_eq k (codes "type")) (bytes_eq k (codes "isFormula")) (bytes_eq k (codes "formula")) (has (column_described w table c) n) h
    where
      each : (m a x y z b : Bool) → (m || ((a && x) || ((a && y) || ((a && z) || false)))) ≡ false → (m || ((a && (x && b)) || ((a && (y && b)) || ((a && (z && b)) || false)))) ≡ false
      each true a x y z b h = absurd (true≢false h)
      each false false x y z b h = refl
      each false true true y z b h = absurd (true≢false h)
      each false true false true z b h = absurd (true≢false h)
      each false true false false true b h = absurd (true≢false h)
      each false true false false false b h = refl

  -- the same is said in other rows, and in that row of what is no info
  told_same : (k : List ℕ) (n : ℕ) → (eqb d.row n ≡ true → IsNoInfo k) → told k (described_at n (all_columns q)) ≡ told k (described_at n (all_columns p))
  told_same k n free = told-with_table k table n f p
      (each_of_id table_id (λ (x : Table). told k (described_at n (described_in (on_grid f x))) ≡ told k (described_at n (described_in x))) table p distinct
      (λ x found. subst (λ (y : Table). told k (described_at n (described_in (on_grid f y))) ≡ told k (described_at n (described_in y))) (found_once t x (sym at_table ∙ found)) there))
    where
      there : told k (described_at n (described_in (on_grid f t))) ≡ told k (described_at n (described_in t))
      there = told-with_id k c n t.row (with_info info) (λ _. refl) t.grid.columns
          (each_of_id column_id (λ (e : ColDef). eqb e.row n ≡ true → (let x : Described = record { parent = t.row; column = with_info info e } in said k x) ≡ (let x : Described = record { parent = t.row; column = e } in said k x)) c t.grid.columns columns_distinct
          (λ e found here. said_same k t.row info e (free (ap (λ (y : ColDef). eqb y.row n) (found_once d e (sym at_column ∙ found)) ∙ here))))

  found_beside : (k : List ℕ) → bytes_eq k c ≡ false → find_id column_id k (with_id column_id c (with_info info) t.grid.columns) ≡ find_id column_id k t.grid.columns
  found_beside k apart =
      find-with_id column_id c (with_info info) (λ _. refl) t.grid.columns k
      ∙ cond_false (bytes_eq c k) (option_map (with_info info) (find_id column_id k t.grid.columns)) (find_id column_id k t.grid.columns) (bytes_apart k c apart)

  own : (e : CellId) → bytes_eq e.column c ≡ false → IsEqualOf e (Some t) (Some (on_grid f t))
  own e apart = grids_equal e t (on_grid f t) (found_beside e.column apart) refl (λ _ _ _. cell-with_info c info t.grid e.column e.row)

  not_modified : (e : CellId) → is_fresh_cell w (ModifyColumn table c info) e ≡ false → e.table ≡ table → bytes_eq e.column c ≡ false
  not_modified e free is = each (bytes_eq e.table table) (bytes_eq e.column c) (or_false (not (is_some (formula_at w e))) (bytes_eq e.table table && bytes_eq e.column c) free).1 ((bytes_eq-Decides e.table table).1 is)
    where
      each : (a b : Bool) → (a && b) ≡ false → a ≡ true → b ≡ false
      each true b h e = h
      each false b h e = absurd (false≢true e)

  modified_right : valid w (ModifyColumn table c info) ≡ true → TouchesRight w (ModifyColumn table c info)
  modified_right v = valid_right w (ModifyColumn table c info) v (column_action_right r u p table f t at_table (ModifyColumn table c info) (record {
    was = λ e free. was_there w e (ap (λ b. b || false) (or_false (not (is_some (formula_at w e))) (bytes_eq e.table table && bytes_eq e.column c) free).0);
    keys = free_cells;
    columns = λ e free is. described_equal p q e (told_same e.column e.row (free_said e free is));
    own = λ e free is. own e (free_column e free is);
    column = λ e free is x y h g. found_once x y (sym h ∙ sym (found_beside e.column (not_modified e free is)) ∙ g);
    columns_rows = λ _. described_rows p q (λ n. is_told (codes "parentId") (described_at n (all_columns q))
        ∙ ap is_some (told_same (codes "parentId") n (λ _. record { type_apart = refl; flag_apart = refl; text_apart = refl }))
        ∙ sym (is_told (codes "parentId") (described_at n (all_columns p))));
    rows = refl;
  }))

of_parts : (r u : Grid ColDef) (p : List Table) (table c : List ℕ) (info : ColInfo) → IsGood r u p → valid (with_schema r u p) (ModifyColumn table c info) ≡ true → TouchesRight (with_schema r u p) (ModifyColumn table c info)
of_parts r u p table c info good v =
    let found : (t : Table) × ((schema_table (with_schema r u p) table ≡ Some t) × (((has_id column_id t.grid.columns c && is_sound_info info) && (not info.is_formula || all_null t.grid c)) ≡ true))
    = passes_parts (schema_table (with_schema r u p) table) (λ t. has_id column_id t.grid.columns c && is_sound_info info && (not info.is_formula || all_null t.grid c)) v in
    let at = schema_table_parts r u p table found.0 found.1.0 in
    let tests = parts_3 (has_id column_id found.0.grid.columns c) (is_sound_info info) (not info.is_formula || all_null found.0.grid c) found.1.1 in
    let column = found_has column_id c found.0.grid.columns tests.0 in
    let sound : IsSoundGrid found.0.grid = found_all table_id (λ (t : Table). IsSoundGrid t.grid) table p found.0 good.grids at.1 in
    modified_right r u p table c info found.0 column.0 at.0 at.1 column.1 good.distinct sound.is_grid.distinct v

pub modify_column_law : ModifyColumnLaw
modify_column_law s table c info whole v =
    subst (λ x. TouchesRight x (ModifyColumn table c info)) (sym whole.agrees.schema)
    (of_parts (resources s) (rules s) (plain_tables s) table c info (good_from s whole) (subst (λ x. valid x (ModifyColumn table c info) ≡ true) whole.agrees.schema v))
