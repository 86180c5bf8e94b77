-- The part of a view that a user action asks for.
use Rattle.std.specs.Prelude.{ℕ, Bool, not, ◌||◌, List, []}
use Rattle.std.specs.Str.{bytes_eq}
use Rattle.doc_model.specs.declared.user_action.UserAction.{UserAction}
use Rattle.doc_model.specs.declared.user_action.UserAction.TheVariants.{Update, Remove}
use Rattle.doc_model.specs.declared.view.ViewTable.{ViewTable}
use Rattle.doc_model.specs.Rows.{has}
use Rattle.plain_view.specs.PartsOfViews.{part_of}
use Rattle.user_actions.specs.Kinds.{table_of}
use Rattle.user_objections.specs.ObjectionLaws.{asks_for}
use Rattle.user_actions.specs.Steps.{row_ids}

-- the rows that a user action names
abbrev pub rows_requested : UserAction → List ℕ
rows_requested (Update table single rows ks) = row_ids rows
rows_requested (Remove table single rows) = row_ids rows
rows_requested _ = []

-- whether a user action asks for the row: of the table that it names one of those that it names,
-- and of another one each
abbrev pub is_row_requested : UserAction → List ℕ → ℕ → Bool
is_row_requested a id r = not (bytes_eq id (table_of a)) || has (rows_requested a) r

-- the tables that a user action asks for, with the rows that it asks for
abbrev pub requested_part : UserAction → List ViewTable → List ViewTable
requested_part a v = part_of (asks_for a) (is_row_requested a) v
