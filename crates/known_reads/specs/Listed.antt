-- Formula columns of a document, and attempts at their cells over values that were right.
use Rattle.std.specs.Prelude.{ℕ, List, Some, ◌≡◌}
use Rattle.std.specs.List.{AllByRecursion}
use Rattle.cell_types.specs.declared.column_type.ColType.{ColType}
use Rattle.doc_model.specs.ByIds.{find_id}
use Rattle.doc_model.specs.Column.{column_id}
use Rattle.doc_model.specs.declared.column.ColDef.{ColDef}
use Rattle.doc_model.specs.Document.{Document}
use Rattle.doc_readers.specs.Parts.{grid_at}
use Rattle.formula_parse.specs.FormulaOf.{formula_of}
use Rattle.par_recalc.specs.Attempts.{IsCellAttempt}
use Rattle.par_recalc.specs.declared.plan.ColumnFormula.{ColumnFormula}
use Rattle.par_recalc.specs.declared.running.CellAttempt.{CellAttempt}
use Rattle.recalc.specs.Evaluated.{sheet_of}
use Rattle.recalc.specs.Sheet.{Values, over}
use Rattle.recalc.specs.Stack.{IsSound}

-- a column of this type with this formula
abbrev pub IsListedAs : Document → ColType → ColumnFormula → Type 0
IsListedAs s ty f =
    (d : ColDef) × (find_id column_id f.column (grid_at s f.table).columns ≡ Some d)
    × (formula_of d.info.formula ≡ Some f.formula) × (d.info.ty ≡ ty)

abbrev pub IsListed : Document → ColumnFormula → Type 0
IsListed s f = (ty : ColType) × IsListedAs s ty f

abbrev pub AreListed : Document → List ColumnFormula → Type 0
AreListed s fs = AllByRecursion (IsListed s) fs

-- an attempt at a cell of a column of this type, over values that were right then
pub record WasTried (s : Document) (ty : ColType) (a : CellAttempt) : Type 0 where
  pub column : ColumnFormula
  pub listed : IsListedAs s ty column
  pub before : Values
  pub right : IsSound (sheet_of s) before
  pub row : ℕ
  pub tried : IsCellAttempt (over (sheet_of s) before) column row a
