use Rattle.std.proofs.Common.{get_or}
use Rattle.std.proofs.lemmas.List.{get_or_default}
use Rattle.dep_graph.proofs.LinkLaws.{no_read, set_step}
use Rattle.dep_graph.proofs.records.set_of.Goals as goal

pub loop-read-preserved : goal.loop-read-preserved
loop-read-preserved c =
    let i = c.loop-read.read-index in
    let x = get_or c.args.reads.now i no_read in
    set_step c.loop-read.set.keys c.insert.new.self.keys c.args.reads.now i x c.loop-read-test.true (get_or_default c.args.reads.now i no_read x c.loop-read-test.true) c.loop-read.invariant c.in_ok-insert.ensures.updates.0
