use Rattle.std.proofs.Common.{rules}
use Rattle.grist_lanes.proofs.ReversedLemmas.{none_put}
use Rattle.grist_lanes.proofs.lanes.part_lanes.Goals as goal

pub loop-lane-init : goal.loop-lane-init
loop-lane-init g c = record {
  ports = rw c.reverse.ensures.items (none_put (λ l. l.port) c.args.lanes.now.items c.args.ports.now.items c.requires.empty.0);
  passes = rw c.reverse.ensures.items (none_put (λ l. l.pass) c.args.lanes.now.items c.args.passes.now.items c.requires.empty.1);
  port_count = search rules;
  pass_count = search rules;
  port_room = search rules;
  pass_room = search rules;
}
