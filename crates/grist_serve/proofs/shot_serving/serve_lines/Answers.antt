use Rattle.std.proofs.Common.{arith}
use Rattle.grist_serve.proofs.Starting.{due_none, serving_first}
use Rattle.grist_serve.proofs.shot_serving.serve_lines.Goals as goal

pub loop-end-init : goal.loop-end-init
loop-end-init g c = record {
  own = c.requires.pass;
  due = due_none c.args.progress.now.due c.args.pass.now c.requires.no_turn;
  empty = c.requires.empty;
  serving = serving_first c.args.progress.now.due c.args.pass.now c.args.shots.now.known c.requires.no_turn c.args.session.now (g.L.Source.left c.args.link.now) (g.L.Sink.written c.args.link.now)
      c.args.progress.now.buffers.reader c.requires.ahead c.requires.turns;
  read = omega arith;
  write = omega arith;
}
