use Rattle.std.proofs.Common.{◌≡◌, ◌≤◌, ◌-◌, length, drop}
use Rattle.doc_readers.specs.Parts.{grid_at}
use Rattle.meta_schema.specs.Agreement.{are_said}
use Rattle.meta_schema.proofs.agreement.rows_left.Given as goal

-- the columns so far have taken their rows, and the rest decides
abbrev pub invariant-loop-column : goal.invariant-loop-column
invariant-loop-column g l = record {
  within : l.index ≤ l.left;
  passed : l.index ≤ length (grid_at (g.D.DocReader.document l.tables) l.table).columns;
  rest : are_said (g.D.DocReader.document l.tables) l.parent l.low (drop l.index (grid_at (g.D.DocReader.document l.tables) l.table).columns)
      ≡ are_said (g.D.DocReader.document l.tables) l.parent 0 (grid_at (g.D.DocReader.document l.tables) l.table).columns;
}

abbrev pub decreases-loop-column : goal.decreases-loop-column
decreases-loop-column g l = length (grid_at (g.D.DocReader.document l.tables) l.table).columns - l.index
