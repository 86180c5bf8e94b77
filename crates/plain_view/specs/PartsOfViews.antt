-- Parts of views: some tables with some of their rows, and what the changes of a part rest on.
use Rattle.std.specs.Prelude.{ℕ, Bool, false, cond, List, [], ◌∷◌, map, filter, ◌≡◌}
use Rattle.cell_types.specs.declared.value.CellValue.{CellValue}
use Rattle.doc_model.specs.declared.view.ViewTable.{ViewTable}
use Rattle.doc_model.specs.ByIds.{find_id}
use Rattle.doc_model.specs.Changes.{IsView, changes, grid, shown_table_id}
use Rattle.doc_model.specs.SameRows.{Both, SameRow}
use Rattle.doc_model.specs.ViewEdits.{shown_id}

-- the cells of those rows that pass
abbrev pub passing_cells : (ℕ → Bool) → List ℕ → List (List CellValue) → List (List CellValue)
passing_cells test [] cells = []
passing_cells test (r ∷ rows) [] = []
passing_cells test (r ∷ rows) (c ∷ cells) =
    cond (test r) (c ∷ passing_cells test rows cells) (passing_cells test rows cells)

-- the table with those rows that pass
abbrev pub passing : (ℕ → Bool) → ViewTable → ViewTable
passing test t = record {
  id = t.id;
  columns = t.columns;
  rows = filter test t.rows;
  cells = passing_cells test t.rows t.cells;
}

-- the tables that are affected, with the rows that pass
abbrev pub part_of : (List ℕ → Bool) → (List ℕ → ℕ → Bool) → List ViewTable → List ViewTable
part_of affected test v =
    map (λ (t : ViewTable). passing (test t.id) t) (filter (λ (t : ViewTable). affected t.id) v)

-- two tables of views hold the same in the row, under the same columns
abbrev pub AreSame : ℕ → ViewTable → ViewTable → Type 0
AreSame r t u = SameRow shown_id r (grid t) (grid u)

-- two views that agree in all other tables, and in all other rows of these
pub record AgreeOutside
    (affected : List ℕ → Bool) (test : List ℕ → ℕ → Bool) (v w : List ViewTable) : Type 0 where
  pub others : (c : List ℕ) → affected c ≡ false
      → find_id shown_table_id c w ≡ find_id shown_table_id c v
  pub rows : (c : List ℕ) (r : ℕ) → test c r ≡ false
      → Both (AreSame r) (find_id shown_table_id c v) (find_id shown_table_id c w)

-- where two views agree outside of some tables and rows, the parts that hold those tell all changes
abbrev pub ChangesSame : Type 0
ChangesSame =
    (affected : List ℕ → Bool) (test : List ℕ → ℕ → Bool) (v w : List ViewTable)
    → IsView v → IsView w → AgreeOutside affected test v w
    → changes (part_of affected test v) (part_of affected test w) ≡ changes v w
