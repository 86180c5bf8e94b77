-- What the actions of a bundle created, and what is told of it.
use Rattle.std.specs.Prelude.{ℕ, Bool, true, false, cond, List, [], ◌∷◌, map, Option, Some, None}
use Rattle.doc_model.specs.declared.action.DocAction.{DocAction}
use Rattle.doc_model.specs.declared.action.DocAction.TheVariants as action
use Rattle.doc_model.specs.declared.user_action.UserAction.{UserAction}
use Rattle.doc_model.specs.declared.user_action.UserAction.TheVariants.{Add, RenameTable, RenameColumn}
use Rattle.doc_model.specs.declared.verdict.RetValue.{RetValue}
use Rattle.doc_model.specs.declared.verdict.RetValue.TheVariants as ret
use Rattle.doc_model.specs.declared.view.ViewTable.{ViewTable}
use Rattle.doc_model.specs.ByIds.{has_id}
use Rattle.doc_model.specs.Changes.{shown_table_id}
use Rattle.censored_view.specs.Questions.{is_column_in, is_row_in}
use Rattle.bundle_judge.specs.declared.created.Created.{Created}
use Rattle.bundle_judge.specs.declared.created.Created.TheVariants as created

-- whether the form for one record was used
abbrev pub is_single : UserAction → Bool
is_single (Add table single count has_row_ids ks) = single
is_single _ = false

-- the record, or the records, under the id of their table
abbrev pub records_created : Bool → List ℕ → List ℕ → Created
records_created true table (r ∷ rows) = created.Record table r
records_created _ table rows = created.Records table rows

-- what an action created by its first step, under the ids as it left them
abbrev pub created_by : UserAction → DocAction → Created
created_by a (action.BulkAdd table rows ks) = records_created (is_single a) table rows
created_by a (action.AddTable table row columns) = created.Table table
created_by a (action.RenameTable table new) = created.Table new
created_by a (action.AddColumn table d) = created.Column table d.id
created_by a (action.RenameColumn table column new) = created.Column table new
created_by a _ = created.Nothing

-- what an action without steps created: a rename to the own id tells that id
abbrev pub created_alone : UserAction → Created
created_alone (RenameTable table new) = created.Table new
created_alone (RenameColumn table column new) = created.Column table new
created_alone _ = created.Nothing

-- what an action of these steps created
abbrev pub created_of : UserAction → List DocAction → Created
created_of a [] = created_alone a
created_of a (step ∷ steps) = created_by a step

-- the row, where the view shows it
abbrev pub row_told : List ViewTable → List ℕ → ℕ → Option ℕ
row_told v table r = cond (is_row_in v table r) (Some r) None

-- what is told of it in a view: what the view does not show is nothing
abbrev pub told_of : List ViewTable → Created → RetValue
told_of v created.Nothing = ret.Null
told_of v (created.Record table r) = cond (is_row_in v table r) (ret.Id r) ret.Null
told_of v (created.Records table rows) = ret.Ids (map (row_told v table) rows)
told_of v (created.Table table) = cond (has_id shown_table_id v table) (ret.Name table) ret.Null
told_of v (created.Column table column) =
    cond (is_column_in v table column) (ret.Name column) ret.Null
