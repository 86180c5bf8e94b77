-- What the plan of a rename makes of a document, where nothing is unresolved.
use Rattle.std.specs.Prelude.{ℕ, true, List, [], ◌∷◌, ◌++◌, ◌≡◌}
use Rattle.std.specs.Str.{IsUtf8}
use Rattle.doc_model.specs.declared.user_action.UserAction.{UserAction}
use Rattle.doc_model.specs.declared.view.ViewTable.{ViewTable}
use Rattle.doc_model.specs.Apply.{all_valid, apply_all}
use Rattle.doc_model.specs.Document.{Document}
use Rattle.doc_model.specs.DocumentLaws.{IsWhole}
use Rattle.formula_records.specs.ShownColumns.{columns_of}
use Rattle.rename_flow.specs.ColumnParts.{column_parts}
use Rattle.rename_flow.specs.Parts.{Part}
use Rattle.rename_flow.specs.Plan.{is_shown, name_parts, plan_of, rule_parts}
use Rattle.rename_marks.specs.declared.column_rename.ColumnRename.{ColumnRename}
use Rattle.rename_marks.specs.Scope.{in_column, rename_in}
use Rattle.rename_texts.specs.Renamed.{Rename}
use Rattle.renamed_documents.specs.Laws.{AreRenamed}
use Rattle.renamed_documents.specs.RenamedTables.{Rewriting}
use Rattle.renamed_values.specs.SameEv.{moved}
use Rattle.renaming_bundles.specs.AskedTexts.{texts_asked}
use Rattle.renaming_bundles.specs.Expanded.{expanded}
use Rattle.planned_renames.specs.WholeView.{ShowsWhole}

-- the parts of a plan, and the actions of parts
abbrev pub parts_of : List ViewTable → ColumnRename → List Part
parts_of v m = column_parts v m v ++ (rule_parts v m ++ name_parts v m)

abbrev pub actions_in : List Part → List UserAction
actions_in [] = []
actions_in (q ∷ qs) = q.actions ++ actions_in qs

-- how each formula is renamed, and how its text is written then
abbrev pub renames : List ViewTable → ColumnRename → List ℕ → Rename
renames v m t = rename_in m (in_column (columns_of v) t)

abbrev pub rewriting : List ViewTable → ColumnRename → Rewriting
rewriting v m t c f = texts_asked (actions_in (parts_of v m)) t (moved m t c) f

-- the plan is made of a view that shows the whole document, nothing is unresolved, and its bundle
-- may be done
pub record IsPlanned (v : List ViewTable) (m : ColumnRename) (s : Document) : Type 0 where
  pub whole : IsWhole s
  pub shows : ShowsWhole v s
  pub new_is_utf8 : IsUtf8 m.new
  pub shown : is_shown v m.table m.old ≡ true
  pub resolved : (plan_of v m).unresolved ≡ 0
  pub valid : all_valid s (expanded s (plan_of v m).actions) ≡ true

-- then the document after it is the one before, with the new name, and formulas that follow
abbrev pub PlannedValuesLaw : Type 0
PlannedValuesLaw = (v : List ViewTable) (m : ColumnRename) (s : Document) → IsPlanned v m s
    → AreRenamed m (renames v m) (rewriting v m) (columns_of v) s
    (apply_all s (expanded s (plan_of v m).actions))
