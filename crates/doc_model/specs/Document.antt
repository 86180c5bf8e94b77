-- Documents: tables with their ids, metadata rows, columns, rows and base cells.
use Rattle.std.specs.Prelude.{ℕ, cond, nat_lt, List, [], ◌∷◌}
use Rattle.doc_model.specs.declared.column.ColDef.{ColDef}
use Rattle.doc_model.specs.ByIds.{with_id}
use Rattle.doc_model.specs.Grid.{Grid}

-- a table; its row describes it in the table of tables, and is 0 for a metadata table
pub record Table : Type 0 where
  pub id : List ℕ
  pub row : ℕ
  pub grid : Grid ColDef

-- the tables in order: the metadata tables, and then the others by their rows
abbrev pub Document : Type 0
Document = List Table

abbrev pub table_id : Table → List ℕ
table_id t = t.id

abbrev pub table_row : Table → ℕ
table_row t = t.row

-- the table with its columns, rows and cells changed
abbrev pub on_grid : (Grid ColDef → Grid ColDef) → Table → Table
on_grid f t = record { id = t.id; row = t.row; grid = f t.grid }

-- the table under another id
abbrev pub renamed : List ℕ → Table → Table
renamed new t = record { id = new; row = t.row; grid = t.grid }

-- the document with its table of this id changed
abbrev pub with_table : List ℕ → (Table → Table) → Document → Document
with_table id f s = with_id table_id id f s

module _ {X : Type 0} (row : X → ℕ) where
  -- the thing before the first one with a greater row
  abbrev pub put_by_row : X → List X → List X
  put_by_row x [] = x ∷ []
  put_by_row x (y ∷ ys) = cond (nat_lt (row x) (row y)) (x ∷ y ∷ ys) (y ∷ put_by_row x ys)

  -- the things in the order of their rows
  abbrev pub by_row : List X → List X
  by_row [] = []
  by_row (x ∷ xs) = put_by_row x (by_row xs)
