-- Values copied from what was kept before an action on no records.
use Rattle.std.proofs.Common.{ℕ, zero, suc, Bool, true, false, cond, nat_eq, List, [], ◌∷◌, map, set, length, slice_get, ◌≡◌, ◌≤◌, refl, sym, ap, ◌∙◌, Option, Some, None, option_map, arith}
use Rattle.std.proofs.lemmas.Simd.{map-map}
use Rattle.std.proofs.lemmas.List.{length-map}
use Rattle.std.proofs.lemmas.Bool.{eq-eqb, eqb-true}
use Rattle.std.specs.Option.{is_some}
use Rattle.std.specs.Str.{bytes_eq}
use Rattle.cell_types.specs.declared.cell.CellId.{CellId}
use Rattle.cell_types.specs.declared.value.CellValue.{CellValue}
use Rattle.doc_model.specs.declared.action.DocAction.{DocAction}
use Rattle.doc_model.specs.declared.column.ColDef.{ColDef}
use Rattle.doc_model.specs.ByIds.{find_id}
use Rattle.doc_model.specs.Column.{column_id}
use Rattle.doc_model.specs.Document.{Table, Document, table_id}
use Rattle.doc_model.specs.Grid.{Grid}
use Rattle.doc_model.proofs.ByIdsLaws.{found_id}
use Rattle.doc_readers.specs.Parts.{grid_at}
use Rattle.recalc.specs.declared.kept.KeptColumn.{KeptColumn}
use Rattle.recalc.specs.declared.kept.KeptTable.{KeptTable}
use Rattle.recalc.specs.Evaluated.{formula_at}
use Rattle.recalc.specs.Kept.{ColumnPart, IsKeptOf, TablePart, blank_column, blank_table, column_at, column_part, column_shape, held_at, held_in, kept_column_id, kept_table_id, table_part, table_shape}
use Rattle.recalc.proofs.KeptLemmas.{column_blank, column_kept, find_column, find_table, match_some, none_each, places_of, shape_blank, shape_kept}
use Rattle.recalc.proofs.ToldCells.{grid_found, held_found}
use Rattle.affected_values.specs.Altered.{IsAlteredFrom, IsCarried, is_altered}
use Rattle.affected_values.specs.Copied.{copied_column, copied_table, copied_values}
use Rattle.affected_values.proofs.AlteredLemmas.{altered_right, rows_still}
use Rattle.affected_values.proofs.FormulaCells.{IsFormulaCell, formula_cell}

-- ---- one part after the other

-- the first parts are done
abbrev pub done_to : {P : Type 0} → (P → P) → ℕ → List P → List P
done_to f zero ps = ps
done_to f (suc n) [] = []
done_to f (suc n) (p ∷ ps) = f p ∷ done_to f n ps

pub done_all : {P : Type 0} (f : P → P) (n : ℕ) (ps : List P) → length ps ≤ n → done_to f n ps ≡ map f ps
done_all f zero [] le = refl
done_all f zero (p ∷ ps) le = absurd (omega (arith, le))
done_all f (suc n) [] le = refl
done_all f (suc n) (p ∷ ps) le = ap (λ qs. f p ∷ qs) (done_all f n ps (omega (arith, le)))

done_length : {P : Type 0} (f : P → P) (n : ℕ) (ps : List P) → length (done_to f n ps) ≡ length ps
done_length f zero ps = refl
done_length f (suc n) [] = refl
done_length f (suc n) (p ∷ ps) = ap suc (done_length f n ps)

module _ {X P : Type 0} (part : X → P) (f : P → P) where
  pub as_many : (n : ℕ) (old now : List X) → map part now ≡ done_to f n (map part old) → length now ≡ length old
  as_many n old now e = sym (length-map now part) ∙ ap length e ∙ done_length f n (map part old) ∙ length-map old part

  pub done_next : (n : ℕ) (ps : List P) (now : List X) (x y : X) → map part now ≡ done_to f n ps → slice_get now n ≡ Some x → part y ≡ f (part x) → map part (set now n y) ≡ done_to f (suc n) ps
  done_next zero [] [] x y e at is = refl
  done_next zero [] (a ∷ now) x y e at is = absurd (cc)
  done_next zero (p ∷ ps) [] x y e at is = absurd (cc)
  done_next zero (p ∷ ps) (a ∷ now) x y e at is =
      let here : a ≡ x = cc in
      let first : part a ≡ p = cc in
      let rest : map part now ≡ ps = cc in
      (λ i. (is ∙ ap (λ z. f (part z)) (sym here) ∙ ap f first) i ∷ rest i)
  done_next (suc n) [] [] x y e at is = refl
  done_next (suc n) [] (a ∷ now) x y e at is = absurd (cc)
  done_next (suc n) (p ∷ ps) [] x y e at is = absurd (cc)
  done_next (suc n) (p ∷ ps) (a ∷ now) x y e at is =
      let first : part a ≡ f p = cc in
      let rest : map part now ≡ done_to f n ps = cc in
      (λ i. first i ∷ done_next n ps now x y rest at is i)

-- ---- the shape of what is copied

as_long : (vs : List (Option CellValue)) (o : Option KeptColumn) → length (copied_values vs o) ≡ length vs
as_long vs None = refl
as_long vs (Some e) = by (nat_eq (length e.values.items) (length vs)) refl
  where
    by : (b : Bool) → nat_eq (length e.values.items) (length vs) ≡ b → length (cond b e.values.items vs) ≡ length vs
    by true is = eqb-true (length e.values.items) (length vs) is
    by false is = refl

module _ (old : List KeptTable) where
  columns_shape : (t : List ℕ) (es : List ColumnPart) → map column_shape (map (copied_column old t) es) ≡ map column_shape es
  columns_shape t [] = refl
  columns_shape t (e ∷ es) = λ i. record { id = e.id; ty = e.ty; is_formula = e.is_formula; tree = e.tree; size = as_long e.values (column_at old t e.id) i } ∷ columns_shape t es i

  tables_shape : (ks : List TablePart) → map table_shape (map (copied_table old) ks) ≡ map table_shape ks
  tables_shape [] = refl
  tables_shape (k ∷ ks) = λ i. record { id = k.id; columns = columns_shape k.id k.columns i } ∷ tables_shape ks i

-- ---- what is found among parts

find-part : {X Y : Type 0} (f : X → Y) (id : Y → List ℕ) (c : List ℕ) (xs : List X) → find_id id c (map f xs) ≡ option_map f (find_id (λ x. id (f x)) c xs)
find-part f id c [] = refl
find-part f id c (x ∷ xs) = elim (bytes_eq (id (f x)) c) as (λ b. cond b (Some (f x)) (find_id id c (map f xs)) ≡ option_map f (cond b (Some x) (find_id (λ x. id (f x)) c xs))) [ true ↦ refl | false ↦ find-part f id c xs ]

module _ (s now : Document) (a : DocAction) (old new : List KeptTable) (from : IsAlteredFrom s now a) (kept : IsKeptOf s old) (parts : map table_part new ≡ map (copied_table old) (map blank_table now)) where
  kept_now : IsKeptOf now new
  kept_now = sym (map-map table_shape table_part new) ∙ ap (map table_shape) parts ∙ tables_shape old (map blank_table now) ∙ map-map table_shape blank_table now

  -- the place of a formula cell in what is copied
  record IsCopied (c : CellId) : Type 0 where
    rows : List ℕ
    table : KeptTable
    column : KeptColumn
    is_rows : (grid_at now c.table).rows ≡ rows
    at_table : Some table ≡ find_id kept_table_id c.table new
    at_column : Some column ≡ find_id kept_column_id c.column table.columns.items
    values : column.values.items ≡ copied_values (map none_each rows) (column_at old c.table c.column)

  abbrev each_table : Table → TablePart
  each_table t = copied_table old (blank_table t)

  abbrev each_column : Table → ColDef → ColumnPart
  each_column t d = copied_column old t.id (blank_column t.grid.rows d)

  -- the table and the column of these ids among the copies
  table_copied : (c : List ℕ) (t : Table) → find_id table_id c now ≡ Some t → (k : KeptTable) × (find_id kept_table_id c new ≡ Some k) × (each_table t ≡ table_part k)
  table_copied c t at = match_some each_table table_part (find_id table_id c now) (find_id kept_table_id c new)
      (sym (find-part each_table (λ (x : TablePart). x.id) c now)
      ∙ ap (find_id (λ (x : TablePart). x.id) c) (sym (parts ∙ map-map (copied_table old) blank_table now)) ∙ find-part table_part (λ (x : TablePart). x.id) c new) t at

  column_copied : (t : Table) (k : KeptTable) → each_table t ≡ table_part k → (c : List ℕ) (d : ColDef) → find_id column_id c t.grid.columns ≡ Some d
      → (e : KeptColumn) × (find_id kept_column_id c k.columns.items ≡ Some e) × (each_column t d ≡ column_part e)
  column_copied t k same c d at = match_some (each_column t) column_part (find_id column_id c t.grid.columns) (find_id kept_column_id c k.columns.items)
      (sym (find-part (each_column t) (λ (x : ColumnPart). x.id) c t.grid.columns)
      ∙ ap (find_id (λ (x : ColumnPart). x.id) c) (sym (map-map (copied_column old t.id) (blank_column t.grid.rows) t.grid.columns) ∙ ap (λ (x : TablePart). x.columns) same)
      ∙ find-part column_part (λ (x : ColumnPart). x.id) c k.columns.items) d at

  copied : (c : CellId) → is_some (formula_at now c) ≡ true → IsCopied c
  copied c there = found (formula_cell now c there)
    where
      found : IsFormulaCell now c → IsCopied c
      found f =
          let rows : List ℕ = f.table.grid.rows in
          let k = table_copied c.table f.table f.at_table in
          let e = column_copied f.table k.0 k.2 c.column f.column f.at_column in
          record {
            rows = rows;
            table = k.0;
            column = e.0;
            is_rows = ap (λ (g : Grid ColDef). g.rows) (grid_found now c.table f.table f.at_table);
            at_table = sym k.1;
            at_column = sym e.1;
            values = ap (λ (x : ColumnPart). x.values) (sym e.2)
                ∙ ap (λ b. copied_values (cond b (map none_each rows) []) (column_at old f.table.id f.column.id)) f.is_formula
                ∙ ap (λ n. copied_values (map none_each rows) (column_at old n f.column.id)) (found_id table_id c.table now f.table f.at_table)
                ∙ ap (λ n. copied_values (map none_each rows) (column_at old c.table n)) (found_id column_id c.column f.table.grid.columns f.column f.at_column);
          }

  -- its place in what was kept
  record WasKept (c : CellId) : Type 0 where
    rows : List ℕ
    table : KeptTable
    column : KeptColumn
    is_rows : (grid_at s c.table).rows ≡ rows
    at_table : Some table ≡ find_id kept_table_id c.table old
    at_column : Some column ≡ find_id kept_column_id c.column table.columns.items
    places : length column.values.items ≡ length rows

  was_kept : (c : CellId) → is_some (formula_at s c) ≡ true → WasKept c
  was_kept c there = found (formula_cell s c there)
    where
      found : IsFormulaCell s c → WasKept c
      found f =
          let k = match_some shape_blank shape_kept (find_id table_id c.table s) (find_id kept_table_id c.table old) (sym (find_table s old kept c.table)) f.table f.at_table in
          let e = match_some (column_blank f.table.grid.rows) column_kept (find_id column_id c.column f.table.grid.columns) (find_id kept_column_id c.column k.0.columns.items)
          (sym (find_column k.0 f.table (sym k.2) c.column)) f.column f.at_column in
          record {
            rows = f.table.grid.rows;
            table = k.0;
            column = e.0;
            is_rows = ap (λ (g : Grid ColDef). g.rows) (grid_found s c.table f.table f.at_table);
            at_table = sym k.1;
            at_column = sym e.1;
            places = places_of f.table.grid.rows f.column e.0 (sym e.2) f.is_formula;
          }

  held_same : (c : CellId) → is_some (formula_at now c) ≡ true → is_altered a c ≡ false → held_at now new c ≡ held_at s old c
  held_same c there free = places (copied c there) (was_kept c (ap is_some (sym ((altered_right s now a from).stays c free)) ∙ there))
    where
      same_rows : (grid_at now c.table).rows ≡ (grid_at s c.table).rows
      same_rows = rows_still s now a from c free there

      places : IsCopied c → WasKept c → held_at now new c ≡ held_at s old c
      places n w =
          let blank : List (Option CellValue) = map none_each n.rows in
          let as_many : length w.column.values.items ≡ length blank = w.places ∙ ap length (sym w.is_rows ∙ sym same_rows ∙ n.is_rows) ∙ sym (length-map n.rows none_each) in
          let at : column_at old c.table c.column ≡ Some w.column =
          ap (λ (o : Option KeptTable). elim o as (λ _. Option KeptColumn) [ None ↦ None | Some k ↦ find_id kept_column_id c.column k.columns.items ]) (sym w.at_table) ∙ sym w.at_column in
          let values : n.column.values.items ≡ w.column.values.items =
          n.values ∙ ap (copied_values blank) at ∙ ap (λ b. cond b w.column.values.items blank) (eq-eqb (length w.column.values.items) (length blank) as_many) in
          sym (held_found now new c.table c.column c.row n.table n.at_table n.column n.at_column)
          ∙ ap (λ rs. held_in rs n.column.values.items c.row) same_rows
          ∙ ap (λ vs. held_in (grid_at s c.table).rows vs c.row) values
          ∙ held_found s old c.table c.column c.row w.table w.at_table w.column w.at_column

  pub carried : IsCarried s now a old new
  carried = record { of_document = kept_now; held = held_same }
