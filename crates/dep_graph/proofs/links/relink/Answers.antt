use Rattle.std.proofs.Common.{get_or}
use Rattle.std.proofs.lemmas.List.{get_or_default}
use Rattle.dep_graph.proofs.LinkLaws.{no_read, joined_step}
use Rattle.dep_graph.proofs.links.relink.Goals as goal

pub loop-read-preserved : goal.loop-read-preserved
loop-read-preserved c =
    let i = c.loop-read.read-index in
    let x = get_or c.args.reads.now i no_read in (
      joined_step c.args.readers.now c.loop-read.readers c.put_back.new.self c.args.reads.now i x c.args.cell c.loop-read-test.true
          (get_or_default c.args.reads.now i no_read x c.loop-read-test.true) c.loop-read.invariant.0 c.put_back.ensures.links,
      λ q was. c.put_back.ensures.backable q (c.loop-read.invariant.1 q was),
    )
