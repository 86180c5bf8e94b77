use Rattle.std.proofs.Common.{get_or}
use Rattle.std.proofs.lemmas.List.{get_or_default}
use Rattle.dep_graph.proofs.LinkLaws.{no_read, parted_step}
use Rattle.dep_graph.proofs.links.unlink.Goals as goal

pub loop-read-preserved : goal.loop-read-preserved
loop-read-preserved c =
    let i = c.loop-read.read-index in
    let x = get_or c.args.gone.now i no_read in (
      parted_step c.args.readers.now c.loop-read.readers c.unlink_one.new.readers c.args.gone.now c.args.kept.now.keys i x c.args.cell c.loop-read-test.true
          (get_or_default c.args.gone.now i no_read x c.loop-read-test.true) c.loop-read.invariant.0 c.unlink_one.ensures.links,
      λ q was. c.unlink_one.ensures.backable q (c.loop-read.invariant.1 q was),
    )
