use Rattle.known_reads.proofs.StartedLemmas.{walked_next}
use Rattle.known_reads.proofs.levels.settle_level.Goals as goal

pub loop-place-preserved : goal.loop-place-preserved
loop-place-preserved g c =
    let s = g.D.DocReader.document c.args.tables.now in
    let first = c.args.evaluated.now in
    let mid = c.loop-place.evaluated in
    let last = c.settle_listed.new.evaluated in
    record {
      walked = walked_next s first.kept.items mid.kept.items last.kept.items first.reads mid.reads last.reads c.args.steps.now c.loop-place.steps c.settle_listed.new.steps
          c.loop-place.invariant.walked c.in_ok-settle_listed.ensures.walked;
      indexed = c.in_ok-settle_listed.ensures.indexed;
    }
