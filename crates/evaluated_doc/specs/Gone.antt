-- The rows of an action on records, for which indexes are left on its way back.
use Rattle.std.specs.Prelude.{ℕ, true, List, [], Option, Some, None, ◌≡◌, ⊤}
use Rattle.doc_model.specs.declared.action.DocAction.{DocAction}
use Rattle.doc_model.specs.declared.action.DocAction.TheVariants.{BulkRemove}
use Rattle.doc_model.specs.Apply.{apply}
use Rattle.doc_model.specs.Document.{Document}
use Rattle.doc_model.specs.Valid.{valid}
use Rattle.recalc.specs.declared.indexes.ColumnIndex.{ColumnIndex}
use Rattle.affected_values.specs.Indexing.{AreLeft, rows_of, table_of}
use Rattle.evaluated_doc.specs.declared.indexing.GoneRows.{GoneRows}

-- the removal of the rows of an action on records
pub record IsRemovalOf (a gone : DocAction) : Type 0 where
  pub table : List ℕ
  pub rows : List ℕ
  pub of_table : table_of a ≡ Some table
  pub of_rows : rows_of a ≡ Some rows
  pub removes : gone ≡ BulkRemove table rows

-- where rows are told, they are those of a valid action on records that led from the first document
-- to the second
abbrev pub IsGone : Document → Document → Option GoneRows → Type 0
IsGone s now None = ⊤
IsGone s now (Some gone) =
    (a : DocAction) × (valid s a ≡ true) × (now ≡ apply s a) × IsRemovalOf a gone.removal

-- the indexes are left for these rows; where none are told, none are left
abbrev pub AreLeftBehind : Document → Option GoneRows → List ColumnIndex → Type 0
AreLeftBehind s None indexes = indexes ≡ []
AreLeftBehind s (Some gone) indexes = AreLeft s gone.removal indexes
