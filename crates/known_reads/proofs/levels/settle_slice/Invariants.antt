use Rattle.std.specs.List.{AllByRecursion}
use Rattle.std.specs.Vec.Iter.{into_iter_items}
use Rattle.known_reads.specs.Listed.{WasTried}
use Rattle.known_reads.specs.Walked.{IsWalked}
use Rattle.known_reads.proofs.levels.settle_slice.Given as goal

abbrev pub invariant-loop-attempt : goal.invariant-loop-attempt
invariant-loop-attempt g l = record {
  walked : IsWalked (g.D.DocReader.document l.tables) l.initial.kept.items l.initial.reads l.initial.steps l.kept.items l.reads l.steps;
  tried : AllByRecursion (WasTried (g.D.DocReader.document l.tables) l.ty) (into_iter_items l.attempt-iterator);
}
