use Rattle.grist_run.proofs.SendLemmas.{err_front}
use Rattle.grist_run.proofs.line_room.send.Goals as goal

pub returns-clause-err : goal.returns-clause-err
returns-clause-err g c = err_front c.flush.result c.args.line.now c.put.new.self (g.O.Sink.written c.args.out.now) (g.O.Sink.written c.put.new.out) (g.O.Sink.written c.flush.new.out) (rw c.requires at c.in-Ok.ensures.ok) c.flush.ensures.err
