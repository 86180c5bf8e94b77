-- Lists of cells for each column, seen as lists of cells for each row.
use Rattle.std.specs.Prelude.{ℕ, zero, suc, List, [], ◌∷◌, map, drop, slice_index_or, slice_set, length, Vec, vec_len, vec_capacity, ◌+◌, ◌≤◌, ◌≡◌, refl, ⊤}
use Rattle.std.specs.Coded.{Coded, code_by, coded×, coded_ℕ, coded_list}
use Rattle.std.specs.Global.{Global}
use Rattle.cell_types.specs.contracts.value.CellValue as value
use Rattle.std.specs.List.{insert, remove, AllByRecursion}
use Rattle.cell_types.specs.declared.value.CellValue.{CellValue}
use Rattle.cell_types.specs.declared.value.CellValue.TheVariants.{Null}

-- the first cell of a column; Null where it has none
abbrev pub first : List CellValue → CellValue
first c = slice_index_or c 0 Null

-- the others
abbrev pub rest : List CellValue → List CellValue
rest c = drop 1 c

-- so many rows of the columns
abbrev pub crossed : ℕ → List (List CellValue) → List (List CellValue)
crossed zero cols = []
crossed (suc n) cols = map first cols ∷ crossed n (map rest cols)

-- each column has so many cells
abbrev pub HaveHeight : ℕ → List (List CellValue) → Type 0
HaveHeight n cols = AllByRecursion (λ c. length c ≡ n) cols

-- a cell put in at an index of each column
abbrev pub insert_each : ℕ → List CellValue → List (List CellValue) → List (List CellValue)
insert_each p [] cols = cols
insert_each p (x ∷ xs) [] = []
insert_each p (x ∷ xs) (c ∷ cols) = insert c p x ∷ insert_each p xs cols

-- the cell at an index taken out of each column
abbrev pub remove_each : ℕ → List (List CellValue) → List (List CellValue)
remove_each p cols = map (λ c. remove c p) cols

-- the cell at the indexes of a column and a row set
abbrev pub set_in : ℕ → ℕ → CellValue → List (List CellValue) → List (List CellValue)
set_in j i v cols = slice_set cols j (slice_set (slice_index_or cols j []) i v)

-- what stands in each list
abbrev pub all_items : List (Vec CellValue Global) → List (List CellValue)
all_items cols = map (λ c. c.items) cols

-- cells as rows, of so many columns, and for how many more rows there is room
pub record Rows : Type 0 where
  pub width : ℕ
  pub rows : List (List CellValue)
  pub room : ℕ

abbrev pub coded_rows : Coded Rows
coded_rows =
    code_by (ℕ × (List (List CellValue) × ℕ))
    (coded× coded_ℕ (coded× (coded_list (coded_list value.the_row.coded)) coded_ℕ))
    (λ r. (r.width, (r.rows, r.room)))
    (λ p. record { width = p.0; rows = p.1.0; room = p.1.1 }) (λ _. refl)

-- the cell at an index taken out of each of so many columns
abbrev pub remove_firsts : ℕ → ℕ → List (List CellValue) → List (List CellValue)
remove_firsts zero p cols = cols
remove_firsts (suc k) p [] = []
remove_firsts (suc k) p (c ∷ cols) = remove c p ∷ remove_firsts k p cols

-- whether there is room for so many rows in each column, and for one more in so many
abbrev pub HaveRoom : ℕ → ℕ → List (Vec CellValue Global) → Type 0
HaveRoom k r [] = ⊤
HaveRoom zero r (c ∷ cols) = (vec_len c + r ≤ vec_capacity c) × HaveRoom zero r cols
HaveRoom (suc k) r (c ∷ cols) = (vec_len c + suc r ≤ vec_capacity c) × HaveRoom k r cols

-- whether there is room for so many rows in each column from an index on
abbrev pub RoomFrom : ℕ → ℕ → List (Vec CellValue Global) → Type 0
RoomFrom k r [] = ⊤
RoomFrom zero r (c ∷ cols) = HaveRoom 0 r (c ∷ cols)
RoomFrom (suc k) r (c ∷ cols) = RoomFrom k r cols

-- columns of no cells, each with room for so many
abbrev pub AreRooms : ℕ → List (Vec CellValue Global) → Type 0
AreRooms n rooms = AllByRecursion (λ v. (vec_len v ≡ 0) × (n ≤ vec_capacity v)) rooms

-- the cells of a column put into the rows beside them, at an index
abbrev pub insert_beside : ℕ → List CellValue → List (List CellValue) → List (List CellValue)
insert_beside j [] rows = rows
insert_beside j (v ∷ c) [] = []
insert_beside j (v ∷ c) (row ∷ rows) = insert row j v ∷ insert_beside j c rows
