use Rattle.std.proofs.Common.{length}
use Rattle.recalc.specs.Evaluated.{sheet_of}
use Rattle.recalc.specs.Indexes.{AreIndexes}
use Rattle.affected_values.specs.Indexing.{AreLeft}
use Rattle.affected_values.proofs.indexing.enter_each.Given as goal

abbrev pub invariant-entering : goal.invariant-entering
invariant-entering g l = record {
  rest : AreLeft (g.D.DocReader.document l.tables) l.action l.left.items;
  right : AreIndexes (sheet_of (g.D.DocReader.document l.tables)) l.indexes.items;
}

abbrev pub decreases-entering : goal.decreases-entering
decreases-entering g l = length l.left.items
