-- Formula cells of a document, and lists to which they were put.
use Rattle.std.proofs.Common.{ℕ, Bool, true, false, cond, ◌&&◌, List, ◌≡◌, refl, sym, ap, ◌∙◌, Option, Some, None, Result, Ok, Err as Fails, OnOk}
use Rattle.std.proofs.lemmas.Bool.{and_parts, false≢true}
use Rattle.std.proofs.lemmas.Slice.Eq.{bytes_eq-Decides}
use Rattle.std.specs.Option.{is_some}
use Rattle.std.specs.Str.{bytes_eq}
use Rattle.cell_types.specs.declared.cell.CellId.{CellId}
use Rattle.doc_model.specs.declared.column.ColDef.{ColDef}
use Rattle.doc_model.specs.ByIds.{find_id}
use Rattle.doc_model.specs.Column.{column_id}
use Rattle.doc_model.specs.Document.{Table, Document, table_id}
use Rattle.doc_model.specs.Grid.{Grid}
use Rattle.doc_model.specs.Rows.{has}
use Rattle.doc_model.proofs.ByIdsLaws.{found_id}
use Rattle.doc_readers.specs.Parts.{grid_at}
use Rattle.recalc.specs.Cells.{cell_of}
use Rattle.recalc.specs.Evaluated.{formula_at, formula_in}
use Rattle.recalc.specs.Stack.{on}
use Rattle.recalc.proofs.ToldCells.{grid_found}
use Rattle.affected_values.specs.Carried.{HasCellsOfColumn}
use Rattle.affected_values.specs.Pushed.{ArePushed}

-- the table and the column of a formula cell
pub record IsFormulaCell (s : Document) (c : CellId) : Type 0 where
  pub table : Table
  pub column : ColDef
  pub at_table : find_id table_id c.table s ≡ Some table
  pub at_column : find_id column_id c.column table.grid.columns ≡ Some column
  pub is_formula : column.info.is_formula ≡ true
  pub here : has table.grid.rows c.row ≡ true

pub formula_cell : (s : Document) (c : CellId) → is_some (formula_at s c) ≡ true → IsFormulaCell s c
formula_cell s c there = in_tables (find_id table_id c.table s) refl there
  where
    parts : (f : List ℕ) (a b : Bool) → is_some (cond (a && b) (Some f) None) ≡ true → (a ≡ true) × (b ≡ true)
    parts f true true h = (refl, refl)
    parts f true false h = absurd (false≢true h)
    parts f false b h = absurd (false≢true h)

    in_columns : (t : Table) → find_id table_id c.table s ≡ Some t → (o : Option ColDef) → find_id column_id c.column t.grid.columns ≡ o
        → is_some (elim o as (λ _. Option (List ℕ)) [ None ↦ None | Some d ↦ formula_in t.grid c.row d ]) ≡ true → IsFormulaCell s c
    in_columns t at None e h = absurd (false≢true h)
    in_columns t at (Some d) e h =
        let p = parts d.info.formula d.info.is_formula (has t.grid.rows c.row) h in
        record { table = t; column = d; at_table = at; at_column = e; is_formula = p.0; here = p.1 }

    in_tables : (o : Option Table) → find_id table_id c.table s ≡ o
        → is_some (elim o as (λ _. Option (List ℕ)) [ None ↦ None | Some t ↦ elim (find_id column_id c.column t.grid.columns) as (λ _. Option (List ℕ)) [ None ↦ None | Some d ↦ formula_in t.grid c.row d ] ]) ≡ true → IsFormulaCell s c
    in_tables None e h = absurd (false≢true h)
    in_tables (Some t) e h = in_columns t e (find_id column_id c.column t.grid.columns) refl h

pub on_ok_3 : {A E : Type 0} (P Q R S : Type 0) (r : Result A E) → (P → Q → R → S) → OnOk r P → OnOk r Q → OnOk r R → OnOk r S
on_ok_3 P Q R S (Ok x) h p q t = h p q t
on_ok_3 P Q R S (Fails e) h p q t = tt

module _ (s : Document) (old new : List CellId) (stays : (c : CellId) → on old c ≡ true → on new c ≡ true) where
  -- the cells of a column in all its rows
  pub column_pushed : (t k : List ℕ) (d : ColDef) → Some d ≡ find_id column_id k (grid_at s t).columns → HasCellsOfColumn t (grid_at s t).rows new d
      → ((c : CellId) → on new c ≡ true → on old c ≡ false → (bytes_eq c.table t && bytes_eq c.column d.id) ≡ true) → ArePushed s (λ c. bytes_eq c.table t && bytes_eq c.column k) old new
  column_pushed t k d at all only = record {
    stays = stays;
    pushed = λ c is there.
        let f = formula_cell s c there in
        let p = and_parts (bytes_eq c.table t) (bytes_eq c.column k) is in
        let table : c.table ≡ t = (bytes_eq-Decides c.table t).0 p.0 in
        let column : c.column ≡ k = (bytes_eq-Decides c.column k).0 p.1 in
        let grid : grid_at s t ≡ f.table.grid = ap (grid_at s) (sym table) ∙ grid_found s c.table f.table f.at_table in
        let same : d ≡ f.column = once (at ∙ ap (λ n. find_id column_id n (grid_at s t).columns) (sym column) ∙ ap (λ (g : Grid ColDef). find_id column_id c.column g.columns) grid ∙ f.at_column) in
        let cell : cell_of t d.id c.row ≡ c = (λ i. record { table = sym table i; column = (named ∙ sym column) i; row = c.row }) in
        ap (on new) (sym cell) ∙ all (ap (λ (x : ColDef). x.info.is_formula) same ∙ f.is_formula) c.row (ap (λ (g : Grid ColDef). has g.rows c.row) grid ∙ f.here);
    only = λ c is isnt. ap (λ n. bytes_eq c.table t && bytes_eq c.column n) (sym named) ∙ only c is isnt;
  }
    where
      named : d.id ≡ k
      named = found_id column_id k (grid_at s t).columns d (sym at)

      once : {x : ColDef} → Some d ≡ Some x → d ≡ x
      once e = cc
