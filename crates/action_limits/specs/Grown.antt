-- The most columns and rows and the greatest row id where an action adds a table or a column.
use Rattle.std.specs.Prelude.{ℕ, Bool, true, false, ◌+◌, ◌≡◌, max, length}
use Rattle.doc_model.specs.declared.user_action.UserAction.{UserAction}
use Rattle.doc_model.specs.declared.user_action.UserAction.TheVariants.{AddTable, AddColumn}
use Rattle.doc_model.specs.Document.{Document}
use Rattle.doc_model.specs.MetadataIds.{columns_id, tables_id}
use Rattle.doc_readers.specs.Parts.{grid_at}
use Rattle.action_limits.specs.declared.limits.Counted.{Counted}
use Rattle.action_limits.specs.Brought.{rows_described}
use Rattle.action_limits.specs.Capped.{capped}
use Rattle.user_actions.specs.Steps.{last_row}

-- so many columns of a table, and the rows where so many tables and columns are described
pub record AreMaximaDescribed (s : Document) (wide new_tables new_columns : ℕ)
    (e : Counted) : Type 0 where
  pub columns : e.columns ≡ wide
  pub rows : e.rows ≡ rows_described s new_tables new_columns
  pub row_id : e.row_id
      ≡ max (capped (last_row s tables_id + new_tables))
      (capped (last_row s columns_id + new_columns))

-- whether the action adds a table or a column
abbrev pub grows_schema : UserAction → Bool
grows_schema (AddTable table cs) = true
grows_schema (AddColumn table c) = true
grows_schema _ = false

-- how many tables it adds
abbrev pub new_tables : UserAction → ℕ
new_tables (AddTable table cs) = 1
new_tables _ = 0

abbrev pub AreMaximaGrown : Document → UserAction → Counted → Type 0
AreMaximaGrown s (AddTable table cs) e = AreMaximaDescribed s (length cs) 1 (length cs) e
AreMaximaGrown s (AddColumn table c) e =
    AreMaximaDescribed s (capped (length (grid_at s table).columns + 1)) 0 1 e
AreMaximaGrown s _ e = Unit {0}
