use Rattle.grist_serve.proofs.SideLemmas.{same_written, same_write_faults}
use Rattle.grist_serve.proofs.serving.read_line.Goals as goal

pub returns-clause-written : goal.returns-clause-written
returns-clause-written g c = same_written (g.met.L.Link.goes_out c.next_line.new.source) (g.met.L.Link.goes_out c.args.link.now) c.next_line.ensures.apart

pub returns-clause-write_faults : goal.returns-clause-write_faults
returns-clause-write_faults g c = same_write_faults (g.met.L.Link.goes_out c.next_line.new.source) (g.met.L.Link.goes_out c.args.link.now) c.next_line.ensures.apart
