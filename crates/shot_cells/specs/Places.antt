-- What stands for cells, by table, column and row, and what is seen of them.
use Rattle.std.specs.Prelude.{ℕ, Bool, cond, nat_eq, ◌&&◌, List, [], ◌∷◌, Option, Some, None, IsSome, ◌≡◌}
use Rattle.std.specs.BTreeMap.{BTreeMap, get}
use Rattle.std.specs.Cmp.Lexicographic.{slice_cmp}
use Rattle.std.specs.List.{list_any}
use Rattle.std.specs.Option.{unwrap_or}
use Rattle.std.specs.Ordering.{nat_cmp}
use Rattle.std.specs.Str.{bytes_eq}
use Rattle.std.specs.declared.cmp.Ordering.{Ordering}
use Rattle.cell_types.specs.declared.cell.CellId.{CellId}
use Rattle.cell_types.specs.declared.value.CellValue.{CellValue}
use Rattle.cell_types.specs.declared.value.CellValue.TheVariants.{Null}

-- values by table, column and row: a cell may have a place, at which a value stands
abbrev pub Rows : Type 0
Rows = BTreeMap ℕ CellValue

abbrev pub Columns : Type 0
Columns = BTreeMap (List ℕ) Rows

abbrev pub Places : Type 0
Places = BTreeMap (List ℕ) Columns

-- something for each table, column and row
abbrev pub ByCell : Type 0 → Type 0
ByCell X = List ℕ → List ℕ → ℕ → X

-- the order of names
abbrev pub by_name : List ℕ → List ℕ → Ordering
by_name = slice_cmp nat_cmp

-- what a map that may be missing has at a key
abbrev pub held : {K X : Type 0} → (K → K → Ordering) → Option (BTreeMap K X) → K → Option X
held order None key = None
held order (Some m) key = get order m key

-- what stands at the place of a cell, where it has one
abbrev pub place_at : Places → ByCell (Option CellValue)
place_at cells table column row = held nat_cmp (held by_name (get by_name cells table) column) row

-- what is seen of a cell: Null where it has no place
abbrev pub seen_at : Places → ByCell CellValue
seen_at cells table column row = unwrap_or (place_at cells table column row) Null

abbrev pub HasPlace : Places → CellId → Type 0
HasPlace cells c = IsSome (place_at cells c.table c.column c.row)

-- a place that was there stays with its value, and at one that came stands Null
abbrev pub RoomFor : Option CellValue → Option CellValue → Type 0
RoomFor None new = unwrap_or new Null ≡ Null
RoomFor (Some v) new = new ≡ Some v

abbrev pub MakesRoom : ByCell (Option CellValue) → ByCell (Option CellValue) → Type 0
MakesRoom old new =
    (table column : List ℕ) (row : ℕ) → RoomFor (old table column row) (new table column row)

-- whether a table, a column and a row are those of the cell
abbrev pub is_cell : CellId → ByCell Bool
is_cell c table column row =
    bytes_eq c.table table && (bytes_eq c.column column && nat_eq c.row row)

module _ {X : Type 0} where
  -- the same with x at the cell
  abbrev pub with_one : CellId → X → ByCell X → ByCell X
  with_one c x f table column row = cond (is_cell c table column row) x (f table column row)

  -- the same with x at each of the cells
  abbrev pub with_each : List CellId → X → ByCell X → ByCell X
  with_each cells x f table column row =
      cond (list_any (λ c. is_cell c table column row) cells) x (f table column row)

  -- the same with one of a list at each cell; the first one of a cell counts
  abbrev pub with_all : List CellId → List X → ByCell X → ByCell X
  with_all [] xs f = f
  with_all (c ∷ cells) [] f = f
  with_all (c ∷ cells) (x ∷ xs) f = with_one c x (with_all cells xs f)
