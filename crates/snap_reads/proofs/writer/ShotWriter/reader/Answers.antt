use Rattle.std.proofs.Common.{rules}
use Rattle.snap_reads.proofs.Rises.{admits, forks, merges}
use Rattle.snap_reads.proofs.writer.ShotWriter.reader.Goals as goal

pub reader-requires : goal.reader-requires
reader-requires g c = admits g.T.Absorb.state g.T.Shot.past g.T.Shot.stands

pub tell-requires : goal.tell-requires
tell-requires g c = forks g.T.Absorb.state g.T.Shot.past g.T.Shot.stands _ _

pub learn-requires : goal.learn-requires
learn-requires g c = record { own = search rules; rule = merges g.T.Absorb.state g.T.Shot.past g.T.Shot.stands _ _ _ _ }
