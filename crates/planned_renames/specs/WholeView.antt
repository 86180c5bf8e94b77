-- Views that show all columns of a document, with their formulas.
use Rattle.std.specs.Prelude.{ℕ, true, List, [], Some, ◌≡◌}
use Rattle.std.specs.List.{AllByRecursion}
use Rattle.std.specs.Str.{IsUtf8}
use Rattle.doc_model.specs.declared.column.ColDef.{ColDef}
use Rattle.doc_model.specs.declared.view.ViewCol.{ViewCol}
use Rattle.doc_model.specs.declared.view.ViewTable.{ViewTable}
use Rattle.doc_model.specs.Changes.{IsView}
use Rattle.doc_model.specs.Document.{Document}
use Rattle.doc_model.specs.MetadataIds.{is_metadata_id}
use Rattle.formula_records.specs.ShownColumns.{shown_column}
use Rattle.recalc.specs.Evaluated.{column_in}
use Rattle.renamed_values.specs.HeldRecords.{IsPlain}

-- a column as it is shown with its formula
abbrev pub shown_as : ColDef → ViewCol
shown_as d = record {
  id = d.id;
  ty = d.info.ty;
  is_formula = d.info.is_formula;
  formula = Some d.info.formula;
}

-- a column of the document that is shown so
pub record IsShownOf (s : Document) (t c : List ℕ) (e : ViewCol) : Type 0 where
  pub column : ColDef
  pub found : column_in s t c ≡ Some column
  pub same : e ≡ shown_as column

-- each column outside the metadata is shown, with its formula, which is text, and no other is; the
-- columns of metadata tables that are shown have no formulas
pub record ShowsWhole (v : List ViewTable) (s : Document) : Type 0 where
  pub view : IsView v
  pub columns : (t c : List ℕ) (d : ColDef) → IsPlain t → column_in s t c ≡ Some d
      → shown_column v t c ≡ Some (shown_as d)
  pub no_others : (t c : List ℕ) (e : ViewCol) → IsPlain t → shown_column v t c ≡ Some e
      → IsShownOf s t c e
  pub metadata : AllByRecursion (λ w. is_metadata_id w.id ≡ true
      → AllByRecursion (λ (e : ViewCol). e.formula ≡ Some []) w.columns) v
  pub texts : (t c : List ℕ) (d : ColDef) → IsPlain t → column_in s t c ≡ Some d
      → IsUtf8 d.info.formula
