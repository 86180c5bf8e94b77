-- Values that hold records of some tables alone, and none of a metadata table.
use Rattle.std.specs.Prelude.{ℕ, false, List, ◌≡◌, ⊤}
use Rattle.std.specs.List.{AllByRecursion}
use Rattle.cell_types.specs.declared.value.CellItem.{CellItem}
use Rattle.cell_types.specs.declared.value.CellItem.TheVariants as item
use Rattle.cell_types.specs.declared.value.CellValue.{CellValue}
use Rattle.cell_types.specs.declared.value.CellValue.TheVariants as value
use Rattle.doc_model.specs.MetadataIds.{is_metadata_id}
use Rattle.formula_records.specs.declared.tables.RecordTables.{RecordTables}
use Rattle.formula_records.specs.RecordTables.{IsIn}

-- the table is no metadata table
abbrev pub IsPlain : List ℕ → Type 0
IsPlain t = is_metadata_id t ≡ false

-- it is one of these
abbrev pub IsPlainIn : RecordTables → List ℕ → Type 0
IsPlainIn q t = IsPlain t × IsIn q t

abbrev pub ItemOf : RecordTables → CellItem → Type 0
ItemOf q (item.Rec r) = IsPlainIn q r.table
ItemOf q i = ⊤

-- each record that the value holds is of one of them, and so is a set without records
abbrev pub RecordsOf : RecordTables → CellValue → Type 0
RecordsOf q (value.Rec r) = IsPlainIn q r.table
RecordsOf q (value.RecSet s) = IsPlainIn q s.table
RecordsOf q (value.List is) = AllByRecursion (ItemOf q) is
RecordsOf q v = ⊤
