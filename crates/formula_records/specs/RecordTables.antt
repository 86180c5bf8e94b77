-- Tables whose records a value may hold.
use Rattle.std.specs.Prelude.{ℕ, true, List, [], ◌∷◌, ◌++◌, ◌≡◌, ⊤, bytes_eq}
use Rattle.std.specs.List.{AllByRecursion, list_any}
use Rattle.cell_types.specs.declared.value.CellItem.{CellItem}
use Rattle.cell_types.specs.declared.value.CellItem.TheVariants as item
use Rattle.cell_types.specs.declared.value.CellValue.{CellValue}
use Rattle.cell_types.specs.declared.value.CellValue.TheVariants as value
use Rattle.formula_records.specs.declared.tables.RecordTables.{RecordTables}
use Rattle.formula_records.specs.declared.tables.RecordTables.TheVariants.{Any, These}

-- none, and one
abbrev pub none : RecordTables
none = These []

abbrev pub only : List ℕ → RecordTables
only t = These (t ∷ [])

-- those of both
abbrev pub union : RecordTables → RecordTables → RecordTables
union Any q = Any
union (These ts) Any = Any
union (These ts) (These us) = These (ts ++ us)

-- the table is one of them
abbrev pub IsIn : RecordTables → List ℕ → Type 0
IsIn Any t = ⊤
IsIn (These ts) t = list_any (λ u. bytes_eq u t) ts ≡ true

-- the item is no record, or one of them
abbrev pub ItemIn : RecordTables → CellItem → Type 0
ItemIn q (item.Rec r) = IsIn q r.table
ItemIn q i = ⊤

-- each record that the value holds is of one of them, and so is a set without records
abbrev pub HoldsOnly : RecordTables → CellValue → Type 0
HoldsOnly q (value.Rec r) = IsIn q r.table
HoldsOnly q (value.RecSet s) = IsIn q s.table
HoldsOnly q (value.List is) = AllByRecursion (ItemIn q) is
HoldsOnly q v = ⊤
