-- Indexes in a list of columns by id.
use Rattle.std.specs.Prelude.{ℕ, List, length, set, ◌≡◌, ◌<◌, ◌≤◌}
use Rattle.std.specs.List.{insert}
use Rattle.doc_model.specs.declared.column.CellColumn.{CellColumn}
use Rattle.doc_model.specs.ByIds.{put_by_id}
use Rattle.doc_model.specs.Records.{given_id}

-- a column with the id stands there, and the column takes its index
pub record StandsAt (columns : List CellColumn) (column : CellColumn) (i : ℕ) : Type 0 where
  pub within : i < length columns
  pub placed : set columns i column ≡ put_by_id given_id column columns

-- the column goes there
pub record GoesTo (columns : List CellColumn) (column : CellColumn) (i : ℕ) : Type 0 where
  pub within : i ≤ length columns
  pub placed : insert columns i column ≡ put_by_id given_id column columns
