use Rattle.std.proofs.Common.{[]}
use Rattle.recalc.specs.Evaluated.{sheet_of}
use Rattle.recalc.specs.Indexes.{AreIndexes}
use Rattle.recalc.specs.Kept.{IsFurther, held_at}
use Rattle.recalc.specs.Remembered.{IsRemembered}
use Rattle.recalc.proofs.Progress.{EachOf}
use Rattle.affected_values.proofs.RefreshedLemmas.{IsHeldOf}
use Rattle.known_reads.specs.Attempts.{IsSpent, due}
use Rattle.known_reads.specs.Recorded.{IsRecording}
use Rattle.known_reads.specs.Watched.{IsWatched}
use Rattle.known_reads.proofs.refreshing.settle_each.Given as goal

abbrev pub invariant-loop-held : goal.invariant-loop-held
invariant-loop-held g l = record {
  further : IsFurther (g.D.DocReader.document l.tables) l.initial.kept.items l.kept.items;
  known : EachOf (IsHeldOf (g.D.DocReader.document l.tables) l.kept.items) l.taken l.held-index;
  indexed : AreIndexes (sheet_of (g.D.DocReader.document l.tables)) l.indexes.items;
  remembered : IsRemembered (sheet_of (g.D.DocReader.document l.tables)) l.last;
  watched : IsWatched l.initial.reads l.reads;
  recording : IsRecording (g.D.DocReader.document l.tables) (held_at (g.D.DocReader.document l.tables) l.initial.kept.items) l.initial.reads
      (held_at (g.D.DocReader.document l.tables) l.kept.items) l.reads;
  attempts : IsSpent (sheet_of (g.D.DocReader.document l.tables)) (held_at (g.D.DocReader.document l.tables) l.initial.kept.items) [] (due l.initial.steps l.initial.reads)
      (held_at (g.D.DocReader.document l.tables) l.kept.items) [] (due l.steps l.reads);
}
