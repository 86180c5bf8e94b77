-- Where columns and rows go among others, counted from 0.
use Rattle.std.specs.Prelude.{ℕ, ◌+◌, cond, nat_lt, List, [], ◌∷◌, Result, Ok, Err}
use Rattle.doc_model.specs.declared.column.ColDef.{ColDef}
use Rattle.doc_model.specs.Rows.{has}

-- the index of the first column with a greater row, or the end
abbrev pub column_index : ℕ → List ColDef → ℕ
column_index row [] = 0
column_index row (d ∷ columns) = cond (nat_lt row d.row) 0 (column_index row columns + 1)

-- how many rows before the first one that is not below
abbrev pub row_index : ℕ → List ℕ → ℕ
row_index row [] = 0
row_index row (q ∷ rows) = cond (nat_lt q row) (row_index row rows + 1) 0

-- the index of a row, or where it would go
abbrev pub row_search : ℕ → List ℕ → Result ℕ ℕ
row_search row rows = cond (has rows row) (Ok (row_index row rows)) (Err (row_index row rows))
