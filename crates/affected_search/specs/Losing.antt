-- The cells that an action on records may lose, where an index tells the found ones.
use Rattle.std.specs.Prelude.{ℕ, Bool, cond, not, ◌&&◌, ◌||◌, nat_eq, List, [], ◌++◌, filter, length, map, Vec, None, Some}
use Rattle.std.specs.Global.{Global}
use Rattle.cell_types.specs.declared.cell.CellOld.{CellOld}
use Rattle.doc_model.specs.declared.action.DocAction.{DocAction}
use Rattle.doc_model.specs.Column.{column_id}
use Rattle.doc_model.specs.Document.{Document}
use Rattle.doc_model.specs.Rows.{has}
use Rattle.doc_readers.specs.Parts.{grid_at}
use Rattle.lookup_index.specs.Under.{under_key}
use Rattle.recalc.specs.MayLose.{may_lose_column, may_lose_row}
use Rattle.dep_graph.specs.declared.numbers.ColumnNumber.{ColumnNumber}
use Rattle.dep_graph.specs.Numbers.{is_column}
use Rattle.dep_graph.specs.Sources.{column_in}
use Rattle.affected_search.specs.Narrow.{is_written}

-- the rows of a table that the action writes or removes
abbrev pub written_rows : Document → DocAction → List ℕ → List ℕ
written_rows v a t = filter (may_lose_row v a t) (grid_at v t).rows

-- whether there are rows
abbrev pub are_some : List ℕ → Bool
are_some rows = not (nat_eq (length rows) 0)

module _ (names : List (List ℕ)) (index : List (ColumnNumber × Vec ℕ Global)) where
  -- the rows of a column that the index tells
  abbrev pub found_rows : List ℕ → List ℕ → List ℕ
  found_rows t c = elim (column_in names t c) [
    | None ↦ []
    | Some k ↦ under_key is_column index k
  ]

  -- whether the index tells the cell, or the action writes or removes it
  abbrev pub is_named : Document → DocAction → CellOld → Bool
  is_named v a o = has (found_rows o.cell.table o.cell.column) o.cell.row || is_written v a o

  -- the rows of a column that the index tells, and those that are written in its table where the
  -- column is written
  abbrev pub named_rows : DocAction → List ℕ → List ℕ → List ℕ → List ℕ
  named_rows a t written c = found_rows t c ++ cond (may_lose_column a c) written []

  -- whether there are any
  abbrev pub has_rows : DocAction → List ℕ → List ℕ → List ℕ → Bool
  has_rows a t written c = are_some (found_rows t c) || (are_some written && may_lose_column a c)

  -- whether a column of the table has any
  abbrev pub is_table_named : Document → DocAction → List ℕ → Bool
  is_table_named v a t = not (nat_eq (length
      (filter (has_rows a t (written_rows v a t)) (map column_id (grid_at v t).columns))) 0)
