-- The cells of a grid after a column of it is updated in some rows.
use Rattle.std.proofs.Common.{◌≡◌, ◌∙◌, ap, refl, subst, sym, ℕ, Bool, true, false, cond, ◌&&◌, List, [], ◌∷◌, Option, Some, None, option_map, unwrap_or, bytes_eq}
use Rattle.std.proofs.lemmas.Bool.{and_parts}
use Rattle.cell_types.specs.declared.value.CellValue.{CellValue}
use Rattle.doc_model.specs.declared.column.CellColumn.{CellColumn}
use Rattle.doc_model.specs.declared.column.ColDef.{ColDef}
use Rattle.doc_model.specs.ByIds.{find_id, has_id}
use Rattle.doc_model.specs.Column.{column_id}
use Rattle.doc_model.specs.Grid.{Grid, cell}
use Rattle.doc_model.specs.Records.{given, update_rows, value_for}
use Rattle.doc_model.specs.Rows.{has}
use Rattle.doc_model.proofs.ByIdsLaws.{found_has, found_id}
use Rattle.doc_model.proofs.GridLaws.{cell-grid_of}

-- what a grid tells of a cell
abbrev pub cell_in : Grid ColDef → List ℕ → ℕ → Option CellValue
cell_in g c r = cond (has_id column_id g.columns c && has g.rows r) (Some (cell column_id g c r)) None

-- a value in the place of another, where there is one
abbrev pub put : Option CellValue → Option CellValue → Option CellValue
put new old = option_map (unwrap_or new) old

-- a grid with other cells in a column
pub record Puts (column : List ℕ) (new : ℕ → Option CellValue) (g g' : Grid ColDef) : Type 0 where
  pub rows : g'.rows ≡ g.rows
  pub cells : (c : List ℕ) (r : ℕ) → cell_in g' c r ≡ put (cond (bytes_eq column c) (new r) None) (cell_in g c r)

pub put_none : (o : Option CellValue) → put None o ≡ o
put_none None = refl
put_none (Some v) = refl

none_chosen : (b : Bool) → cond b None None ≡ (let x : Option CellValue = None in x)
none_chosen true = refl
none_chosen false = refl

-- nothing is put, and all is as it was
pub puts_none : (column : List ℕ) (new : ℕ → Option CellValue) (g g' : Grid ColDef) → ((r : ℕ) → new r ≡ None) → g' ≡ g → Puts column new g g'
puts_none column new g g' none e = record {
  rows = ap (λ (x : Grid ColDef). x.rows) e;
  cells = λ c r.
      ap (λ (x : Grid ColDef). cell_in x c r) e
      ∙ sym (ap (λ o. put o (cell_in g c r)) (ap (λ o. cond (bytes_eq column c) o None) (none r) ∙ none_chosen (bytes_eq column c)) ∙ put_none (cell_in g c r));
}

pub updated_cells : (rows : List ℕ) (k : CellColumn) (g : Grid ColDef) → Puts k.id (value_for rows k.values) g (update_rows column_id rows (k ∷ []) g)
updated_cells rows k g = record { rows = refl; cells = each }
  where
    each : (c : List ℕ) (r : ℕ) → cell_in (update_rows column_id rows (k ∷ []) g) c r ≡ put (cond (bytes_eq k.id c) (value_for rows k.values r) None) (cell_in g c r)
    each c r = by (has_id column_id g.columns c && has g.rows r) refl
      where
        by : (b : Bool) → (has_id column_id g.columns c && has g.rows r) ≡ b
            → cond b (Some (cell column_id (update_rows column_id rows (k ∷ []) g) c r)) None ≡ put (cond (bytes_eq k.id c) (value_for rows k.values r) None) (cond b (Some (cell column_id g c r)) None)
        by false e = refl
        by true e =
            let p = and_parts (has_id column_id g.columns c) (has g.rows r) e in
            let d = found_has column_id c g.columns p.0 in
            let name : column_id d.0 ≡ c = found_id column_id c g.columns d.0 d.1 in
            ap Some (subst (λ (n : List ℕ). cell column_id (update_rows column_id rows (k ∷ []) g) n r ≡ unwrap_or (given rows (k ∷ []) n r) (cell column_id g n r)) name
            (cell-grid_of column_id g.columns g.rows (λ d q. unwrap_or (given rows (k ∷ []) (column_id d) q) (cell column_id g (column_id d) q)) d.0 r (ap (λ n. find_id column_id n g.columns) name ∙ d.1) p.1))

-- the same values said otherwise
pub puts_same : (column : List ℕ) (new other : ℕ → Option CellValue) (g g' : Grid ColDef) → ((r : ℕ) → new r ≡ other r) → Puts column new g g' → Puts column other g g'
puts_same column new other g g' e h = record {
  rows = h.rows;
  cells = λ c r. h.cells c r ∙ ap (λ o. put (cond (bytes_eq column c) o None) (cell_in g c r)) (e r);
}
