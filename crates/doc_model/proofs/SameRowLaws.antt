-- Tables that hold the same in a row: what record actions leave, and what related options are.
use Rattle.std.proofs.Common.{ℕ, false, cond, not, ◌||◌, ◌&&◌, List, ◌≡◌, refl, sym, ap, subst, ◌∙◌, Option, Some, None, unwrap_or}
use Rattle.doc_model.specs.declared.column.CellColumn.{CellColumn}
use Rattle.doc_model.specs.declared.column.ColDef.{ColDef}
use Rattle.doc_model.specs.Column.{column_id, start_of}
use Rattle.doc_model.specs.Document.{Table}
use Rattle.doc_model.specs.Grid.{Grid, cell}
use Rattle.doc_model.specs.Records.{given, add_rows, update_rows, remove_rows}
use Rattle.doc_model.specs.Rows.{has, insert_rows, without}
use Rattle.doc_model.specs.SameRows.{Both, SameRow}
use Rattle.doc_model.specs.Touched.{AreSameTables}
use Rattle.doc_model.proofs.Choices.{cond_false}
use Rattle.doc_model.proofs.GridLaws.{cell-grid_of}
use Rattle.doc_model.proofs.RecordsLaws.{given_absent}
use Rattle.doc_model.proofs.RowsLaws.{has-insert_rows, has-filter}

module _ {C : Type 0} (id : C → List ℕ) where
  pub SameRow-itself : (r : ℕ) (g : Grid C) → SameRow id r g g
  SameRow-itself r g = record { columns = refl; rows = refl; cells = λ d found here. refl }

pub both_itself : {X : Type 0} (R : X → X → Type 0) → ((x : X) → R x x) → (o : Option X) → Both R o o
both_itself R itself None = tt
both_itself R itself (Some x) = itself x

-- the same table, or none, is the same in each row
pub rows_itself : (r : ℕ) (o p : Option Table) → p ≡ o → Both (AreSameTables r) o p
rows_itself r o p e = subst (λ q. Both (AreSameTables r) o q) (sym e) (both_itself (AreSameTables r) (λ t. SameRow-itself column_id r t.grid) o)

pub rows_added : (rows : List ℕ) (ks : List CellColumn) (g : Grid ColDef) (r : ℕ) → has rows r ≡ false → SameRow column_id r g (add_rows column_id start_of rows ks g)
rows_added rows ks g r out =
    let stays : has (insert_rows rows g.rows) r ≡ has g.rows r = has-insert_rows rows g.rows r ∙ ap (λ b. b || has g.rows r) out in
    record {
      columns = refl;
      rows = sym stays;
      cells = λ d found here. sym (
          cell-grid_of column_id g.columns (insert_rows rows g.rows) (λ d r. cond (has rows r) (unwrap_or (given rows ks (column_id d) r) (start_of d)) (cell column_id g (column_id d) r)) d r found (stays ∙ here)
          ∙ cond_false (has rows r) (unwrap_or (given rows ks (column_id d) r) (start_of d)) (cell column_id g (column_id d) r) out);
    }

pub rows_updated : (rows : List ℕ) (ks : List CellColumn) (g : Grid ColDef) (r : ℕ) → has rows r ≡ false → SameRow column_id r g (update_rows column_id rows ks g)
rows_updated rows ks g r out = record {
  columns = refl;
  rows = refl;
  cells = λ d found here. sym (
      cell-grid_of column_id g.columns g.rows (λ d r. unwrap_or (given rows ks (column_id d) r) (cell column_id g (column_id d) r)) d r found here
      ∙ ap (λ o. unwrap_or o (cell column_id g (column_id d) r)) (given_absent rows ks (column_id d) r out));
}

pub rows_removed : (rows : List ℕ) (g : Grid ColDef) (r : ℕ) → has rows r ≡ false → SameRow column_id r g (remove_rows column_id rows g)
rows_removed rows g r out =
    let stays : has (without rows g.rows) r ≡ has g.rows r = has-filter (λ r. not (has rows r)) g.rows r ∙ ap (λ b. not b && has g.rows r) out in
    record {
      columns = refl;
      rows = sym stays;
      cells = λ d found here. sym (cell-grid_of column_id g.columns (without rows g.rows) (λ d r. cell column_id g (column_id d) r) d r found (stays ∙ here));
    }
