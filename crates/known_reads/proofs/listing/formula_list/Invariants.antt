use Rattle.std.proofs.Common.{◌-◌, length}
use Rattle.known_reads.specs.Listed.{AreListed}
use Rattle.known_reads.proofs.listing.formula_list.Given as goal

abbrev pub invariant-loop-table : goal.invariant-loop-table
invariant-loop-table g l = AreListed (g.D.DocReader.document l.tables) l.formulas

abbrev pub decreases-loop-table : goal.decreases-loop-table
decreases-loop-table g l = length (g.D.DocReader.document l.tables) - l.index
