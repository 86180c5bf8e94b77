-- The steps that change what a column is.
use Rattle.std.specs.Prelude.{ℕ, cond, not, ◌&&◌, List, [], ◌∷◌, ◌++◌, Bool, Some, None}
use Rattle.std.specs.Bool.{beq}
use Rattle.std.specs.Str.{bytes_eq}
use Rattle.cell_types.specs.declared.value.CellValue.TheVariants.{Null}
use Rattle.cell_types.specs.Conversion.{default_value, fit}
use Rattle.doc_model.specs.declared.action.DocAction.TheVariants.{ModifyColumn}
use Rattle.doc_model.specs.declared.action.Step.{Step}
use Rattle.doc_model.specs.declared.column.ColDef.{ColDef}
use Rattle.doc_model.specs.declared.column.ColInfo.{ColInfo}
use Rattle.doc_model.specs.declared.user_action.UserCol.{UserCol}
use Rattle.doc_model.specs.ByIds.{find_id}
use Rattle.doc_model.specs.Column.{column_id}
use Rattle.doc_model.specs.Grid.{Grid}
use Rattle.doc_model.specs.Same.{same_type}
use Rattle.user_actions.specs.CellUpdates.{update_changed}
use Rattle.user_actions.specs.Columns.{info_said}
use Rattle.user_actions.specs.Marked.{direct}

abbrev pub same_info : ColInfo → ColInfo → Bool
same_info a b =
    same_type a.ty b.ty && beq a.is_formula b.is_formula && bytes_eq a.formula b.formula

-- the cells of a data column that becomes a formula column are null before it does
abbrev pub emptied : List ℕ → Grid ColDef → ColDef → ColInfo → List Step
emptied table g d info =
    cond (info.is_formula && not d.info.is_formula)
    (update_changed table g d.id (λ _. Null) g.rows) []

-- the cells of a column that is a data column then: the defaults where it had a formula, or else as
-- they fit the type
abbrev pub filled : List ℕ → Grid ColDef → ColDef → ColInfo → List Step
filled table g d info =
    cond info.is_formula []
    (cond d.info.is_formula (update_changed table g d.id (λ _. default_value info.ty) g.rows)
    (update_changed table g d.id (fit info.ty) g.rows))

-- a column that becomes what is told, with the cells that this changes
abbrev pub modified_to : List ℕ → Grid ColDef → ColDef → ColInfo → List Step
modified_to table g d info =
    cond (same_info d.info info) []
    (emptied table g d info ++ direct (ModifyColumn table d.id info) ∷ [] ++ filled table g d info)

-- a column as the user says
abbrev pub modified : List ℕ → Grid ColDef → UserCol → List Step
modified table g c =
    elim (find_id column_id c.id g.columns) [
      | None ↦ []
      | Some d ↦ modified_to table g d (info_said d.info c)
    ]
