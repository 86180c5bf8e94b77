-- Sheets in which what is told of cells holds no other records than their columns may.
use Rattle.std.specs.Prelude.{ℕ, true, List, Some, ◌≡◌}
use Rattle.cell_types.specs.declared.cell.CellId.{CellId}
use Rattle.cell_types.specs.declared.column_type.ColType.{ColType}
use Rattle.cell_types.specs.declared.value.CellValue.{CellValue}
use Rattle.formula_eval.specs.Reader.{known}
use Rattle.formula_records.specs.RecordTables.{none}
use Rattle.formula_records.specs.Recs.{Column, Columns}
use Rattle.recalc.specs.Sheet.{Sheet, eval, over}
use Rattle.renamed_values.specs.HeldRecords.{IsPlain, RecordsOf}
use Rattle.renamed_values.specs.PlainNames.{IsPlainType}
use Rattle.renamed_values.specs.RecordsLaw.{IsTyped}

-- outside the metadata the columns are those of the sheet, formula cells stand in formula columns,
-- and cells without formulas hold no records
pub record IsTypedSheet (k : Columns) (s : Sheet) : Type 0 where
  pub kind : (t c : List ℕ) (ty : ColType) → IsPlain t → s.kind t c ≡ Some ty
      → (d : Column) × (k t c ≡ Some d) × (d.ty ≡ ty) × IsPlainType ty
  pub formula : (c : CellId) (f : List ℕ) → IsPlain c.table → s.formula c ≡ Some f
      → (d : Column) × (k c.table c.column ≡ Some d) × (d.is_formula ≡ true)
      × (s.kind c.table c.column ≡ Some d.ty)
  pub base : (c : CellId) (v : CellValue) → IsPlain c.table → s.base c ≡ known v → RecordsOf none v

-- then so it is of what formulas see with any fuel
abbrev pub TypedLaw : Type 0
TypedLaw = (k : Columns) (s : Sheet) → IsTypedSheet k s → (n : ℕ) → IsTyped k (over s (eval n s))
