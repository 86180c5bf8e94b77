-- Documents by the types of their columns.
use Rattle.std.specs.Prelude.{ℕ, List, Some, ◌≡◌}
use Rattle.doc_model.specs.declared.column.ColDef.{ColDef}
use Rattle.doc_model.specs.Document.{Document}
use Rattle.doc_model.specs.DocumentLaws.{IsWhole}
use Rattle.formula_records.specs.Recs.{Column, Columns}
use Rattle.recalc.specs.Evaluated.{column_in, sheet_of}
use Rattle.renamed_values.specs.HeldRecords.{IsPlain}
use Rattle.renamed_values.specs.PlainNames.{IsPlainType}
use Rattle.renamed_values.specs.TypedSheet.{IsTypedSheet}

-- what matters of a column
abbrev pub as_column : ColDef → Column
as_column d = record { ty = d.info.ty; is_formula = d.info.is_formula }

-- outside the metadata the columns are known, and no type refers to a metadata table
abbrev pub AreColumns : Columns → Document → Type 0
AreColumns k s = (t c : List ℕ) (d : ColDef) → IsPlain t → column_in s t c ≡ Some d
    → (k t c ≡ Some (as_column d)) × IsPlainType d.info.ty

-- then so are those of what formulas see
abbrev pub TypedDocumentLaw : Type 0
TypedDocumentLaw =
    (k : Columns) (s : Document) → IsWhole s → AreColumns k s → IsTypedSheet k (sheet_of s)
