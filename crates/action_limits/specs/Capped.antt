-- Counts as far as 64 bits can tell them.
use Rattle.std.specs.Prelude.{ℕ, Bool, true, ◌+◌, ◌^◌, ◌-◌, ◌≡◌, min, cond, List, [], ◌∷◌, get_or, length, Some, None, Result, Ok, Err}
use Rattle.doc_model.specs.declared.action.DocAction.{DocAction}
use Rattle.doc_model.specs.declared.action.DocAction.TheVariants.{BulkAdd, BulkUpdate, BulkRemove, AddTable, RemoveTable, RenameTable, AddColumn, RemoveColumn, RenameColumn, ModifyColumn}
use Rattle.doc_model.specs.declared.action.Step.{Step}
use Rattle.doc_model.specs.declared.limit.LimitKind.{LimitKind}
use Rattle.doc_model.specs.declared.user_action.UserAction.{UserAction}
use Rattle.doc_model.specs.declared.user_action.UserAction.TheVariants.{Add}
use Rattle.doc_model.specs.Apply.{apply}
use Rattle.doc_model.specs.ByIds.{find_id}
use Rattle.doc_model.specs.CountLaws.{Sums, sums_added, sums_removed}
use Rattle.doc_model.specs.Counts.{grid_cells, grid_weight, Counts, counts, first_passed}
use Rattle.doc_model.specs.Document.{Table, Document, table_id}
use Rattle.doc_model.specs.MetadataIds.{is_schema_id}
use Rattle.doc_model.specs.Schema.{no_grid}
use Rattle.doc_model.specs.Valid.{passes}
use Rattle.doc_readers.specs.Parts.{grid_at}
use Rattle.action_limits.specs.declared.expansion.Expansion.{Expansion}
use Rattle.action_limits.specs.declared.expansion.Expansion.TheVariants as expansion
use Rattle.action_limits.specs.declared.limits.Counted.{Counted}
use Rattle.action_limits.specs.declared.tally.Tally.{Tally}
use Rattle.user_actions.specs.Steps.{last_row}

-- a count, or the greatest number of 64 bits where it is above it
abbrev pub capped : ℕ → ℕ
capped n = min n (2 ^ 64 - 1)

-- no table
abbrev pub no_table : Table
no_table = record { id = []; row = 0; grid = no_grid }

-- the table at an index
abbrev pub table_in : Document → ℕ → Table
table_in s index = get_or s index no_table

-- the cells of a table that are counted
abbrev pub counted_cells : Table → ℕ
counted_cells t = cond (is_schema_id t.id) 0 (grid_cells t.grid)

-- and their weight
abbrev pub counted_weight : Table → ℕ
counted_weight t = cond (is_schema_id t.id) 0 (grid_weight t.grid)

-- counts as they are noted
abbrev pub noted : Counted → Counts
noted c = record {
  tables = c.tables;
  columns = c.columns;
  rows = c.rows;
  row_id = c.row_id;
  cells = c.cells;
  weight = c.weight;
}

-- a document's counts as they are noted
pub record IsCounted (s : Document) (c : Counted) : Type 0 where
  pub tables : c.tables ≡ (counts s).tables
  pub columns : c.columns ≡ (counts s).columns
  pub rows : c.rows ≡ (counts s).rows
  pub row_id : c.row_id ≡ (counts s).row_id
  pub cells : c.cells ≡ capped (counts s).cells
  pub weight : c.weight ≡ capped (counts s).weight

-- sums as they are noted
pub record IsCapped (m : Counted) (n : Sums) : Type 0 where
  pub tables : m.tables ≡ capped n.tables
  pub cells : m.cells ≡ capped n.cells
  pub weight : m.weight ≡ capped n.weight

-- the sums after an action, from those before it
abbrev pub moved_by : Document → Counted → DocAction → Counted
moved_by s m a = record {
  tables = capped (m.tables - capped (sums_removed s a).tables + capped (sums_added s a).tables);
  columns = m.columns;
  rows = m.rows;
  row_id = m.row_id;
  cells = capped (m.cells - capped (sums_removed s a).cells + capped (sums_added s a).cells);
  weight = capped (m.weight - capped (sums_removed s a).weight + capped (sums_added s a).weight);
}

-- and after steps, each taken at the document before it
abbrev pub all_moved : Document → Counted → List Step → Counted
all_moved s m [] = m
all_moved s m (step ∷ steps) = all_moved (apply s step.action) (moved_by s m step.action) steps

-- the same where each is taken at one document
abbrev pub all_moved_at : Document → Counted → List Step → Counted
all_moved_at s m [] = m
all_moved_at s m (step ∷ steps) = all_moved_at s (moved_by s m step.action) steps

-- whether the document has the table that an action is about
abbrev pub has_named : Document → DocAction → Bool
has_named s (BulkAdd table rows ks) = passes (find_id table_id table s) (λ _. true)
has_named s (BulkUpdate table rows ks) = passes (find_id table_id table s) (λ _. true)
has_named s (BulkRemove table rows) = passes (find_id table_id table s) (λ _. true)
has_named s (AddTable table row columns) = true
has_named s (RemoveTable table) = passes (find_id table_id table s) (λ _. true)
has_named s (RenameTable table new) = passes (find_id table_id table s) (λ _. true)
has_named s (AddColumn table d) = passes (find_id table_id table s) (λ _. true)
has_named s (RemoveColumn table column) = passes (find_id table_id table s) (λ _. true)
has_named s (RenameColumn table column new) = passes (find_id table_id table s) (λ _. true)
has_named s (ModifyColumn table column info) = passes (find_id table_id table s) (λ _. true)

abbrev pub is_there : Document → Step → Bool
is_there s step = has_named s step.action

-- the counts of these sums and these maxima
abbrev pub both_noted : Counted → Counted → Counts
both_noted m e = record {
  tables = m.tables;
  columns = e.columns;
  rows = e.rows;
  row_id = e.row_id;
  cells = m.cells;
  weight = m.weight;
}

-- the tally of these sums where they and the maxima pass no limit, or else the first limit
abbrev pub tally_or_limit : Counted → Counted → Result Tally LimitKind
tally_or_limit m e = elim (first_passed (both_noted m e)) [
  | None ↦ Ok (record { tables = m.tables; cells = m.cells; weight = m.weight; within = true })
  | Some kind ↦ Err kind
]

-- what steps come to, by the counts after them
abbrev pub settled : List Step → Counted → Counted → Expansion
settled steps m e = elim (tally_or_limit m e) [
  | Ok tally ↦ expansion.Steps steps tally
  | Err kind ↦ expansion.Limit kind
]

-- so many columns, so many rows and that row id, and no sums
abbrev pub most_of : ℕ → ℕ → ℕ → Counted
most_of columns rows row_id = record {
  tables = 0;
  columns = columns;
  rows = rows;
  row_id = row_id;
  cells = 0;
  weight = 0;
}

abbrev pub no_counts : Counted
no_counts = most_of 0 0 0

-- a tally's sums, which 64 bits can tell
pub record AreTaken (t : Tally) (m : Counted) : Type 0 where
  pub tables : m.tables ≡ t.tables
  pub cells : m.cells ≡ t.cells
  pub weight : m.weight ≡ t.weight
  pub small_tables : m.tables ≡ capped t.tables
  pub small_cells : m.cells ≡ capped t.cells
  pub small_weight : m.weight ≡ capped t.weight

-- the counts of maxima alone
abbrev pub maxima_noted : Counted → Counted → Counts
maxima_noted m e = record {
  tables = m.tables;
  columns = e.columns;
  rows = e.rows;
  row_id = e.row_id;
  cells = 0;
  weight = 0;
}

-- the action adds so many records
abbrev pub AddsSo : UserAction → ℕ → Type 0
AddsSo (Add table single count has_row_ids ks) n = n ≡ count
AddsSo _ n = ⊥

-- the rows of a table where so many are added to it
pub record AreMaximaAdded (s : Document) (table : List ℕ) (count : ℕ) (e : Counted) : Type 0 where
  pub columns : e.columns ≡ 0
  pub rows : e.rows ≡ capped (length (grid_at s table).rows + count)
  pub row_id : e.row_id ≡ last_row s table + count
