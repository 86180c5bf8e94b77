-- Cells by column, as an index has them.
use Rattle.std.specs.Prelude.{ℕ, List, Vec, ◌≡◌}
use Rattle.std.specs.Global.{Global}
use Rattle.doc_model.specs.Rows.{has}
use Rattle.lookup_index.specs.Under.{under_key}
use Rattle.dep_graph.specs.declared.numbers.CellNumber.{CellNumber}
use Rattle.dep_graph.specs.declared.numbers.ColumnNumber.{ColumnNumber}
use Rattle.dep_graph.specs.Numbers.{is_column}
use Rattle.affected_search.specs.Reached.{is_among}

-- under each column are the rows of these cells, and no others
abbrev pub HasRowsOf : List CellNumber → List (ColumnNumber × Vec ℕ Global) → Type 0
HasRowsOf cells index = (c : CellNumber)
    → has (under_key is_column index c.column) c.row ≡ is_among cells c
