-- Steps of a bundle, and which tables and rows they are about.
use Rattle.std.specs.Prelude.{ℕ, Bool, true, false, ◌&&◌, ◌||◌, nat_eq, List}
use Rattle.std.specs.List.{list_all, list_any}
use Rattle.std.specs.Str.{bytes_eq}
use Rattle.cell_types.specs.declared.cell.CellOld.{CellOld}
use Rattle.doc_model.specs.declared.action.DocAction.{DocAction}
use Rattle.doc_model.specs.declared.action.DocAction.TheVariants.{BulkAdd, BulkUpdate, BulkRemove}
use Rattle.doc_model.specs.Touched.{is_about, names_table}
use Rattle.action_censor.specs.declared.steps.StepTrace.{StepTrace}

-- an action, and the cells that hold another value after it or are gone, with what they held
pub record Step : Type 0 where
  pub action : DocAction
  pub cells : List CellOld

-- the step that is lent
abbrev pub step_of : StepTrace → Step
step_of k = record { action = k.action.now; cells = k.cells.now }

-- whether a cell stands in the row of the table
abbrev pub is_in_row : List ℕ → ℕ → CellOld → Bool
is_in_row t r o = bytes_eq o.cell.table t && nat_eq o.cell.row r

-- whether a step is about a table: its action names it, or it changed a cell there
abbrev pub is_table_in : Step → List ℕ → Bool
is_table_in k t =
    names_table k.action t || list_any (λ (o : CellOld). bytes_eq o.cell.table t) k.cells

abbrev pub is_table_of : List Step → List ℕ → Bool
is_table_of ks t = list_any (λ k. is_table_in k t) ks

-- the same of a row of the table
abbrev pub is_row_in : Step → List ℕ → ℕ → Bool
is_row_in k t r =
    (names_table k.action t && is_about k.action r) || list_any (is_in_row t r) k.cells

abbrev pub is_row_of : List Step → List ℕ → ℕ → Bool
is_row_of ks t r = list_any (λ k. is_row_in k t r) ks

-- whether the action is about records
abbrev pub is_of_records : DocAction → Bool
is_of_records (BulkAdd table rows ks) = true
is_of_records (BulkUpdate table rows ks) = true
is_of_records (BulkRemove table rows) = true
is_of_records _ = false

-- whether all steps are
abbrev pub are_records : List Step → Bool
are_records ks = list_all (λ (k : Step). is_of_records k.action) ks
