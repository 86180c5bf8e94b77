-- Indexes of data columns: the rows of a table under the buckets of their cells as they are read.
-- What they tell of a key's cell stays, whatever becomes known of formula cells.
use Rattle.std.specs.Prelude.{ℕ, Bool, true, false, ◌&&◌, ◌||◌, not, is_some, List, Option, Some, None, Vec, ◌≡◌}
use Rattle.std.specs.Global.{Global}
use Rattle.std.specs.List.{find, AllByRecursion}
use Rattle.std.specs.Option.{option_or}
use Rattle.std.specs.Str.{bytes_eq}
use Rattle.cell_types.specs.declared.cell.KeyItem.{KeyItem}
use Rattle.cell_types.specs.declared.column_type.ColType.{ColType}
use Rattle.cell_types.specs.declared.value.CellValue.{CellValue}
use Rattle.cell_types.specs.declared.value.CellValue.TheVariants.{Err}
use Rattle.doc_model.specs.Rows.{IsAscending, has}
use Rattle.formula_parse.specs.Lexemes.{is_id}
use Rattle.formula_eval.specs.Lookup.{key_met}
use Rattle.formula_eval.specs.Reader.{Reader, known}
use Rattle.formula_eval.specs.Reading.{as_read}
use Rattle.formula_eval.specs.Run.{gives}
use Rattle.lookup_index.specs.Buckets.{bucket_of}
use Rattle.lookup_index.specs.Under.{under}
use Rattle.recalc.specs.declared.indexes.ColumnIndex.{ColumnIndex}
use Rattle.recalc.specs.Cells.{cell_of}
use Rattle.recalc.specs.Sheet.{Sheet}

abbrev pub is_error : CellValue → Bool
is_error (Err e) = true
is_error _ = false

-- the cell holds a value that is no error, whose bucket this is
pub record IsInBucket (s : Sheet) (t c : List ℕ) (ty : ColType) (r bucket : ℕ) : Type 0 where
  pub value : CellValue
  pub told : s.base (cell_of t c r) ≡ known value
  pub plain : is_error value ≡ false
  pub of_value : bucket ≡ bucket_of (as_read ty value)

-- the rows are under the buckets of their cells, and under no others, and no other rows are there
pub record AreUnder (s : Sheet) (t c : List ℕ) (ty : ColType) (index : List (ℕ × Vec ℕ Global))
    (rows : List ℕ) : Type 0 where
  pub each : (r : ℕ) → has rows r ≡ true
      → (q : ℕ) × IsInBucket s t c ty r q × (has (under index q) r ≡ true)
  pub only : (q r : ℕ) → has (under index q) r ≡ true → has rows r ≡ true
  pub exact : (q r : ℕ) → has (under index q) r ≡ true → IsInBucket s t c ty r q

-- an index of a column without formulas
pub record IsIndex (s : Sheet) (t c : List ℕ) (index : List (ℕ × Vec ℕ Global)) : Type 0 where
  pub ty : ColType
  pub kind : s.kind t c ≡ Some ty
  pub no_formula : (r : ℕ) → s.formula (cell_of t c r) ≡ None
  pub rows : List ℕ
  pub listed : s.rows t ≡ Some rows
  pub filled : AreUnder s t c ty index rows

abbrev pub AreIndexes : Sheet → List ColumnIndex → Type 0
AreIndexes s indexes = AllByRecursion (λ i. IsIndex s i.table i.column i.index) indexes

-- the index of a column
abbrev pub index_at : List ColumnIndex → List ℕ → List ℕ → Option ColumnIndex
index_at indexes t c = find (λ i. bytes_eq i.table t && bytes_eq i.column c) indexes

-- whether the key is the row itself or has an index
abbrev pub is_plain : List ColumnIndex → List ℕ → KeyItem → Bool
is_plain indexes t k = is_id k.column || is_some (index_at indexes t k.column)

-- the key that tells which rows are looked at, where they all are plain
abbrev pub chosen : List KeyItem → Option KeyItem
chosen ks =
    option_or (find (λ k. not k.contains && is_id k.column) ks) (find (λ k. not k.contains) ks)

-- rows of the table, ascending, among which stands each that meets the key
pub record AreCandidates (reader : Reader) (t : List ℕ) (key : KeyItem) (rows found : List ℕ) :
    Type 0 where
  pub ascends : IsAscending found
  pub only : (r : ℕ) → has found r ≡ true → has rows r ≡ true
  pub met : (r : ℕ) → has rows r ≡ true → key_met reader t r key ≡ gives true
      → has found r ≡ true

-- some of the rows, ascending, among which stands the row of this number
pub record IsRowAlone (rows : List ℕ) (row : ℕ) (found : List ℕ) : Type 0 where
  pub ascends : IsAscending found
  pub only : (r : ℕ) → has found r ≡ true → has rows r ≡ true
  pub there : has rows row ≡ true → has found row ≡ true
