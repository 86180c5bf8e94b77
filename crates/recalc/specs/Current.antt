-- What is kept of a document: the values of its formula cells, and nothing where no column has a
-- formula. Such a document stays one until an action brings a formula column.
use Rattle.std.specs.Prelude.{Bool, false, List, Option, Some, None, ◌≡◌}
use Rattle.std.specs.List.{list_any}
use Rattle.doc_model.specs.declared.action.DocAction.{DocAction}
use Rattle.doc_model.specs.declared.action.DocAction.TheVariants.{AddTable, AddColumn, ModifyColumn}
use Rattle.doc_model.specs.declared.column.ColDef.{ColDef}
use Rattle.doc_model.specs.Apply.{apply}
use Rattle.doc_model.specs.Document.{Document}
use Rattle.recalc.specs.declared.kept.KeptTable.{KeptTable}
use Rattle.recalc.specs.Kept.{IsEvaluated}

-- whether one of the columns has a formula
abbrev pub has_formula : List ColDef → Bool
has_formula ds = list_any (λ (d : ColDef). d.info.is_formula) ds

-- whether some column of the document has one
abbrev pub has_formulas : Document → Bool
has_formulas s = list_any (λ t. has_formula t.grid.columns) s

-- whether the action gives a column a formula
abbrev pub brings_formula : DocAction → Bool
brings_formula (AddTable table row columns) = has_formula columns
brings_formula (AddColumn table d) = d.info.is_formula
brings_formula (ModifyColumn table column info) = info.is_formula
brings_formula _ = false

-- a document without formulas has none after an action that brings none
abbrev pub StaysPlainLaw : Type 0
StaysPlainLaw =
    (s : Document) (a : DocAction) → has_formulas s ≡ false → brings_formula a ≡ false
    → has_formulas (apply s a) ≡ false

-- kept of this document as it is: the value of each formula cell, or no formula column is there
abbrev pub IsCurrent : Document → Option (List KeptTable) → Type 0
IsCurrent s None = has_formulas s ≡ false
IsCurrent s (Some ks) = IsEvaluated s ks
