use Rattle.std.proofs.Common.{◌-◌, length}
use Rattle.doc_readers.specs.Parts.{grid_at}
use Rattle.known_reads.specs.Listed.{AreListed}
use Rattle.known_reads.proofs.listing.push_columns.Given as goal

abbrev pub invariant-loop-column : goal.invariant-loop-column
invariant-loop-column g l = AreListed (g.D.DocReader.document l.tables) l.formulas

abbrev pub decreases-loop-column : goal.decreases-loop-column
decreases-loop-column g l = length (grid_at (g.D.DocReader.document l.tables) l.table).columns - l.index
