use Rattle.std.proofs.Common.{rules}
use Rattle.snap_reads.proofs.Rises.{starts}
use Rattle.snap_reads.proofs.opening.open_shots.Goals as goal

pub new-requires : goal.new-requires
new-requires g c = record {
  readers = search rules;
  alike = search rules;
  rule = starts g.T.Absorb.state g.T.Shot.past g.T.Shot.stands c.args.first c.requires.stands;
}
