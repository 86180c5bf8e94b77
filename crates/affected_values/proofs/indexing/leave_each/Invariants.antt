use Rattle.std.proofs.Common.{length}
use Rattle.recalc.specs.Evaluated.{sheet_of}
use Rattle.recalc.specs.Indexes.{AreIndexes}
use Rattle.affected_values.specs.Indexing.{AreLeft}
use Rattle.affected_values.proofs.indexing.leave_each.Given as goal

abbrev pub invariant-leaving : goal.invariant-leaving
invariant-leaving g l = record {
  rest : AreIndexes (sheet_of (g.D.DocReader.document l.tables)) l.indexes.items;
  left : AreLeft (g.D.DocReader.document l.tables) l.action l.left.items;
}

abbrev pub decreases-leaving : goal.decreases-leaving
decreases-leaving g l = length l.indexes.items
