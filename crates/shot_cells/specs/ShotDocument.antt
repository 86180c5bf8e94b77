-- Which cells of a document are those of formulas.
use Rattle.std.specs.Prelude.{ℕ, Bool, false, List, Option, Some, None}
use Rattle.doc_model.specs.declared.column.ColDef.{ColDef}
use Rattle.doc_model.specs.ByIds.{find_id}
use Rattle.doc_model.specs.Column.{column_id}
use Rattle.doc_model.specs.Document.{Document}
use Rattle.doc_readers.specs.Parts.{grid_at}

-- whether a column that may be missing has a formula
abbrev pub has_formula : Option ColDef → Bool
has_formula None = false
has_formula (Some d) = d.info.is_formula

-- whether a column of a table is there and has a formula
abbrev pub is_formula_at : Document → List ℕ → List ℕ → Bool
is_formula_at s table column = has_formula (find_id column_id column (grid_at s table).columns)
