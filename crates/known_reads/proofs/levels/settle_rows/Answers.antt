use Rattle.std.proofs.Common.{◌∙◌}
use Rattle.known_reads.proofs.StartedLemmas.{walked_next}
use Rattle.known_reads.proofs.levels.settle_rows.Goals as goal

pub loop-slice-preserved : goal.loop-slice-preserved
loop-slice-preserved g c =
    let s = g.D.DocReader.document c.args.tables.now in
    let first = c.args.evaluated.now in
    let mid = c.loop-slice.evaluated in
    let last = c.settle_slice.new.evaluated in
    record {
      walked = walked_next s first.kept.items mid.kept.items last.kept.items first.reads mid.reads last.reads c.args.steps.now c.loop-slice.steps c.settle_slice.new.steps
          c.loop-slice.invariant.walked c.in_ok-settle_slice.ensures.walked;
      indexes = c.settle_slice.ensures.indexes ∙ c.loop-slice.invariant.indexes;
    }
