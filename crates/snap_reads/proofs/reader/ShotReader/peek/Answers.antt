use Rattle.std.proofs.Common.{rules}
use Rattle.snap_reads.proofs.Histories.{took}
use Rattle.snap_reads.proofs.Rises.{looks_same}
use Rattle.snap_reads.proofs.reader.ShotReader.peek.Goals as goal

pub enter_as-requires : goal.enter_as-requires
enter_as-requires g c x = looks_same g.T.Absorb.state g.T.Shot.past g.T.Shot.stands _ _ x

pub returns-then-entries-least-clause-takes : goal.returns-then-entries-least-clause-takes
returns-then-entries-least-clause-takes g c = took c.args.self.known (g.T.Shot.past (g.T.Absorb.state c.in-Ok.reading.part.value)) c.leave-reader.result.place.me.0.client.known (search rules) (search rules)

pub returns-else-entries-least-clause-takes : goal.returns-else-entries-least-clause-takes
returns-else-entries-least-clause-takes g c = took c.args.self.known (g.T.Shot.past (g.T.Absorb.state c.in-Ok.reading.part.value)) c.leave-reader-in-Ok.result.place.me.0.client.known (search rules) (search rules)
