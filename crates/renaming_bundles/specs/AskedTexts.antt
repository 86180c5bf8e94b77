-- The user actions by which a column is renamed, and formulas and rules follow.
use Rattle.std.specs.Prelude.{ℕ, true, false, cond, ◌&&◌, List, [], ◌∷◌, Some, None, ◌≡◌, bytes_eq}
use Rattle.std.specs.List.{AllByRecursion}
use Rattle.doc_model.specs.declared.column.ColDef.{ColDef}
use Rattle.doc_model.specs.declared.user_action.UserAction.{UserAction}
use Rattle.doc_model.specs.declared.user_action.UserAction.TheVariants.{ModifyColumn, RenameColumn, Update}
use Rattle.doc_model.specs.declared.user_action.UserCol.{UserCol}
use Rattle.doc_model.specs.Apply.{all_valid, apply_all}
use Rattle.doc_model.specs.Document.{Document, Table}
use Rattle.doc_model.specs.DocumentLaws.{IsWhole}
use Rattle.doc_model.specs.MetadataIds.{is_acl_id}
use Rattle.doc_model.specs.Schema.{plain_tables}
use Rattle.name_rules.specs.FreeName.{free_name}
use Rattle.recalc.specs.Evaluated.{column_in}
use Rattle.rename_marks.specs.declared.column_rename.ColumnRename.{ColumnRename}
use Rattle.renamed_documents.specs.RenamedTables.{IsRenamed}
use Rattle.renamed_values.specs.HeldRecords.{IsPlain}
use Rattle.renamed_values.specs.SameEv.{IsKept, moved}
use Rattle.user_actions.specs.Columns.{formula_given}
use Rattle.user_actions.specs.Steps.{column_ids}
use Rattle.renaming_bundles.specs.Expanded.{expanded}

-- another formula for a formula column, by the name that it has after the rename, and nothing else
pub record AsksFormula (m : ColumnRename) (s : Document) (table : List ℕ)
    (c : UserCol) : Type 0 where
  pub column : List ℕ
  pub was : ColDef
  pub found : column_in s table column ≡ Some was
  pub plain : IsPlain table
  pub kept : IsKept m table column
  pub named : moved m table column ≡ c.id
  pub is_formula : was.info.is_formula ≡ true
  pub no_type : c.ty ≡ None
  pub no_kind : c.is_formula ≡ None
  pub text : c.formula ≡ Some (formula_given c)

-- an action that asks for such a formula, or updates the tables of access rules
abbrev pub AsksText : ColumnRename → Document → UserAction → Type 0
AsksText m s (Update table single rows ks) = is_acl_id table ≡ true
AsksText m s (ModifyColumn table c) = AsksFormula m s table c
AsksText m s a = ⊥

-- the formula of a column of a table after an action, where it had this one before
abbrev pub text_asked : UserAction → List ℕ → List ℕ → List ℕ → List ℕ
text_asked (ModifyColumn table c) t n f =
    cond (bytes_eq t table && bytes_eq n c.id) (formula_given c) f
text_asked a t n f = f

-- and after actions
abbrev pub texts_asked : List UserAction → List ℕ → List ℕ → List ℕ → List ℕ
texts_asked [] t n f = f
texts_asked (a ∷ as') t n f = texts_asked as' t n (text_asked a t n f)

-- no column of the renamed table has the new name
abbrev pub IsFreeName : ColumnRename → Document → Type 0
IsFreeName m s =
    AllByRecursion (λ (t : Table).
    AllByRecursion (λ (d : ColDef). IsKept m t.id d.id) t.grid.columns) (plain_tables s)

-- the new name is free, and another one, and is what the column gets
pub record IsNaming (m : ColumnRename) (s : Document) : Type 0 where
  pub differs : bytes_eq m.old m.new ≡ false
  pub free : IsFreeName m s
  pub gets : free_name (column_ids s m.table) m.new ≡ m.new

-- the bundle of a rename: the rename itself, and what follows it
abbrev pub bundle_of : ColumnRename → List UserAction → List UserAction
bundle_of m as' = RenameColumn m.table m.old m.new ∷ as'

-- after its actions the tables are those before, with the new name and the texts that were asked
abbrev pub ExpandedTextsLaw : Type 0
ExpandedTextsLaw = (m : ColumnRename) (s : Document) (as' : List UserAction) → IsWhole s
    → IsNaming m s → AllByRecursion (AsksText m s) as'
    → all_valid s (expanded s (bundle_of m as')) ≡ true
    → IsRenamed m (λ t c f. texts_asked as' t (moved m t c) f) s
    (apply_all s (expanded s (bundle_of m as')))
