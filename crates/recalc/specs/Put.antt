-- What is known of a cell exchanged at its place.
use Rattle.std.specs.Prelude.{ℕ, ◌≡◌, ◌<◌, List, length, slice_get, slice_set, Option, Some}
use Rattle.cell_types.specs.declared.value.CellValue.{CellValue}
use Rattle.recalc.specs.declared.kept.KeptColumn.{KeptColumn}
use Rattle.recalc.specs.declared.kept.KeptTable.{KeptTable}

-- the column after v came in the place of w at the index p
pub record IsPutInColumn (old new : KeptColumn) (p : ℕ) (v w : Option CellValue) : Type 0 where
  pub named : new.id ≡ old.id
  pub ty : new.ty ≡ old.ty
  pub kind : new.is_formula ≡ old.is_formula
  pub tree : new.tree ≡ old.tree
  pub values : new.values.items ≡ slice_set old.values.items p v
  pub before : slice_get old.values.items p ≡ Some w

-- the table after that at an index of a column
pub record IsPutInTable (old new : KeptTable) (j p : ℕ) (v w : Option CellValue) : Type 0 where
  pub named : new.id ≡ old.id
  pub was : KeptColumn
  pub is : KeptColumn
  pub here : slice_get old.columns.items j ≡ Some was
  pub put : IsPutInColumn was is p v w
  pub columns : new.columns.items ≡ slice_set old.columns.items j is

-- the column at that index has such a place
abbrev pub HasPlace : List KeptColumn → ℕ → ℕ → Type 0
HasPlace es j p = (e : KeptColumn) × (slice_get es j ≡ Some e) × (p < length e.values.items)

-- the tables after that at an index of a table
pub record IsPutInTables (old new : List KeptTable) (i j p : ℕ) (v w : Option CellValue) :
    Type 0 where
  pub was : KeptTable
  pub is : KeptTable
  pub here : slice_get old i ≡ Some was
  pub put : IsPutInTable was is j p v w
  pub tables : new ≡ slice_set old i is

abbrev pub HasSpot : List KeptTable → ℕ → ℕ → ℕ → Type 0
HasSpot ks i j p =
    (k : KeptTable) × (slice_get ks i ≡ Some k) × HasPlace k.columns.items j p
