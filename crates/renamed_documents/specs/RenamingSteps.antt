-- The document actions by which a column is renamed, and texts follow.
use Rattle.std.specs.Prelude.{ℕ, true, cond, ◌&&◌, List, [], ◌∷◌, Some, ◌≡◌, ⊤, bytes_eq}
use Rattle.doc_model.specs.declared.action.DocAction.{DocAction}
use Rattle.doc_model.specs.declared.action.DocAction.TheVariants.{BulkUpdate, ModifyColumn, RenameColumn}
use Rattle.doc_model.specs.declared.column.ColDef.{ColDef}
use Rattle.doc_model.specs.declared.column.ColInfo.{ColInfo}
use Rattle.doc_model.specs.Apply.{all_valid, apply, apply_all}
use Rattle.doc_model.specs.Document.{Document}
use Rattle.doc_model.specs.DocumentLaws.{IsWhole}
use Rattle.doc_model.specs.MetadataIds.{is_acl_id}
use Rattle.recalc.specs.Evaluated.{column_in}
use Rattle.rename_marks.specs.declared.column_rename.ColumnRename.{ColumnRename}
use Rattle.renamed_values.specs.SameEv.{moved}
use Rattle.renamed_documents.specs.RenamedTables.{IsRenamed}

-- another formula for a column that is there, and nothing else of it
pub record IsText (s : Document) (table column : List ℕ) (info : ColInfo) : Type 0 where
  pub was : ColDef
  pub found : column_in s table column ≡ Some was
  pub ty : info.ty ≡ was.info.ty
  pub kind : info.is_formula ≡ was.info.is_formula

-- an action that gives a column another formula, or updates the tables of access rules
abbrev pub GivesText : Document → DocAction → Type 0
GivesText s (BulkUpdate table rows ks) = is_acl_id table ≡ true
GivesText s (ModifyColumn table column info) = IsText s table column info
GivesText s a = ⊥

-- each is one at its place
abbrev pub GiveTexts : Document → List DocAction → Type 0
GiveTexts s [] = ⊤
GiveTexts s (a ∷ as') = GivesText s a × GiveTexts (apply s a) as'

-- the formula of a column of a table after an action, where it had this one before
abbrev pub text_given : DocAction → List ℕ → List ℕ → List ℕ → List ℕ
text_given (ModifyColumn table column info) t c f =
    cond (bytes_eq t table && bytes_eq c column) info.formula f
text_given a t c f = f

-- and after actions
abbrev pub text_after : List DocAction → List ℕ → List ℕ → List ℕ → List ℕ
text_after [] t c f = f
text_after (a ∷ as') t c f = text_after as' t c (text_given a t c f)

-- the column under its new name
abbrev pub naming : ColumnRename → DocAction
naming m = RenameColumn m.table m.old m.new

-- after a rename and such actions the tables are those before, with the new name and these texts
abbrev pub RenamingStepsLaw : Type 0
RenamingStepsLaw = (m : ColumnRename) (s : Document) (as' : List DocAction) → IsWhole s
    → all_valid s (naming m ∷ as') ≡ true → GiveTexts (apply s (naming m)) as'
    → IsRenamed m (λ t c f. text_after as' t (moved m t c) f) s (apply_all s (naming m ∷ as'))
