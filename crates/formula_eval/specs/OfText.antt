-- The value of a formula by its text.
use Rattle.std.specs.Prelude.{ℕ, List, Option, Some, None}
use Rattle.cell_types.specs.declared.value.CellValue.{CellValue}
use Rattle.cell_types.specs.declared.value.ErrKind.TheVariants as err
use Rattle.cell_types.specs.declared.value.RowRef.{RowRef}
use Rattle.formula_parse.specs.FormulaOf.{formula_of}
use Rattle.formula_parse.specs.Tree.{Tree}
use Rattle.formula_eval.specs.Reader.{Reader}
use Rattle.formula_eval.specs.Run.{Run, done, raises}
use Rattle.formula_eval.specs.Eval.{evaluated}

-- of a formula, where there is one
abbrev pub evaluated_some : Reader → RowRef → Option Tree → Run CellValue
evaluated_some reader at (Some f) = evaluated reader at f
evaluated_some reader at None = done (raises err.Syntax)

-- a text that spells no formula raises a syntax error and reads nothing
unfoldable pub evaluated_text : Reader → RowRef → List ℕ → Run CellValue
evaluated_text reader at text = evaluated_some reader at (formula_of text)
