-- The law of records.
use Rattle.std.specs.Prelude.{ℕ, List, Some, ◌≡◌}
use Rattle.cell_types.specs.declared.cell.CellId.{CellId}
use Rattle.cell_types.specs.declared.column_type.ColType.{ColType}
use Rattle.cell_types.specs.declared.value.CellValue.{CellValue}
use Rattle.cell_types.specs.declared.value.RowRef.{RowRef}
use Rattle.formula_parse.specs.Tree.{Tree}
use Rattle.formula_eval.specs.Eval.{ev}
use Rattle.formula_eval.specs.Reader.{Reader, known}
use Rattle.formula_eval.specs.Run.{gives}
use Rattle.formula_records.specs.Recs.{Column, Columns, recs, stored}
use Rattle.renamed_values.specs.HeldRecords.{IsPlain, RecordsOf}
use Rattle.renamed_values.specs.PlainNames.{IsPlainType, NamesPlain}

-- outside the metadata the columns are those of the reader, each with its type, which names no
-- metadata table, and what is told of a cell holds no other records than its column may
pub record IsTyped (k : Columns) (x : Reader) : Type 0 where
  pub kind : (t c : List ℕ) (ty : ColType) → IsPlain t → x.kind t c ≡ Some ty
      → (d : Column) × (k t c ≡ Some d) × (d.ty ≡ ty) × IsPlainType ty
  pub cell : (c : CellId) (v : CellValue) → IsPlain c.table → x.cell c ≡ known v
      → RecordsOf (stored (k c.table c.column)) v

-- a value that a formula gives holds only records of the tables that its tree says
abbrev pub RecordsLaw : Type 0
RecordsLaw = (k : Columns) (x : Reader) (at : RowRef) (t : Tree) (v : CellValue) → IsTyped k x
    → IsPlain at.table → NamesPlain t → (ev x at t).out ≡ gives v → RecordsOf (recs k at.table t) v
