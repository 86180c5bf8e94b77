use Rattle.std.proofs.Common.{[]}
use Rattle.recalc.specs.Evaluated.{sheet_of}
use Rattle.recalc.specs.Indexes.{AreIndexes}
use Rattle.recalc.specs.Kept.{IsKeptOf, held_at}
use Rattle.recalc.specs.Remembered.{IsRemembered}
use Rattle.recalc.specs.Stack.{work}
use Rattle.recalc.specs.Turn.{IsSettling, StaysKnown}
use Rattle.known_reads.specs.Attempts.{IsNaming, IsSpent, due}
use Rattle.known_reads.specs.Recorded.{IsRecording}
use Rattle.known_reads.specs.Watched.{IsWatched}
use Rattle.known_reads.proofs.settling.settle_cell.Given as goal

abbrev pub invariant-settling : goal.invariant-settling
invariant-settling g l = record {
  of_document : IsKeptOf (g.D.DocReader.document l.tables) l.kept.items;
  indexed : AreIndexes (sheet_of (g.D.DocReader.document l.tables)) l.indexes.items;
  remembered : IsRemembered (sheet_of (g.D.DocReader.document l.tables)) l.last;
  settling : IsSettling (sheet_of (g.D.DocReader.document l.tables)) (held_at (g.D.DocReader.document l.tables) l.initial.kept.items) l.cell
      (held_at (g.D.DocReader.document l.tables) l.kept.items) l.stack.items;
  stays : StaysKnown (held_at (g.D.DocReader.document l.tables) l.initial.kept.items) (held_at (g.D.DocReader.document l.tables) l.kept.items);
  watched : IsWatched l.initial.reads l.reads;
  recording : IsRecording (g.D.DocReader.document l.tables) (held_at (g.D.DocReader.document l.tables) l.initial.kept.items) l.initial.reads
      (held_at (g.D.DocReader.document l.tables) l.kept.items) l.reads;
  naming : IsNaming (sheet_of (g.D.DocReader.document l.tables)) l.stack.items;
  attempts : IsSpent (sheet_of (g.D.DocReader.document l.tables)) (held_at (g.D.DocReader.document l.tables) l.initial.kept.items) [] (due l.initial.steps l.initial.reads)
      (held_at (g.D.DocReader.document l.tables) l.kept.items) l.stack.items (due l.steps l.reads);
}

abbrev pub decreases-settling : goal.decreases-settling
decreases-settling g l = work (sheet_of (g.D.DocReader.document l.tables)) (held_at (g.D.DocReader.document l.tables) l.kept.items) l.stack.items
