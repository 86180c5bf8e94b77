use Rattle.std.proofs.Common.{◌&&◌, take}
use Rattle.doc_model.specs.Rows.{has}
use Rattle.dep_graph.specs.Numbers.{is_column}
use Rattle.affected_search.specs.Found.{IsMore}
use Rattle.affected_search.proofs.search.add_rows.Given as goal

-- the cells of the rows so far are there too
abbrev pub invariant-loop-row : goal.invariant-loop-row
invariant-loop-row l = IsMore l.initial.found l.found (λ c. is_column l.column c.column && has (take l.row-index l.rows) c.row)
