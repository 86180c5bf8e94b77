use Rattle.std.proofs.Common.{subst}
use Rattle.std.specs.List.{AllByRecursion}
use Rattle.known_reads.specs.Listed.{WasTried}
use Rattle.known_reads.proofs.StartedLemmas.{walked_next}
use Rattle.known_reads.proofs.levels.settle_slice.Goals as goal

pub loop-attempt-preserved : goal.loop-attempt-preserved
loop-attempt-preserved g c =
    let s = g.D.DocReader.document c.args.tables.now in
    record {
      walked = walked_next s c.args.evaluated.now.kept.items c.loop-attempt.kept.items c.keep_attempt.new.kept.items c.args.evaluated.now.reads c.loop-attempt.reads c.keep_attempt.new.reads c.args.steps.now c.loop-attempt.steps c.keep_attempt.new.steps
          c.loop-attempt.invariant.walked c.in_ok-keep_attempt.ensures.walked;
      tried = (subst (AllByRecursion (WasTried s c.args.ty.now)) c.in-Some.ensures.steps.0 c.loop-attempt.invariant.tried).1;
    }
