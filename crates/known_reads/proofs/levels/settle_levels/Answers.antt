use Rattle.known_reads.proofs.StartedLemmas.{walked_next}
use Rattle.known_reads.proofs.levels.settle_levels.Goals as goal

pub loop-level-preserved : goal.loop-level-preserved
loop-level-preserved g c =
    let s = g.D.DocReader.document c.args.tables.now in
    let first = c.args.evaluated.now in
    let mid = c.loop-level.evaluated in
    let last = c.settle_level.new.evaluated in
    record {
      walked = walked_next s first.kept.items mid.kept.items last.kept.items first.reads mid.reads last.reads c.args.steps.now c.loop-level.steps c.settle_level.new.steps
          c.loop-level.invariant.walked c.in_ok-settle_level.ensures.walked;
      indexed = c.in_ok-settle_level.ensures.indexed;
    }
