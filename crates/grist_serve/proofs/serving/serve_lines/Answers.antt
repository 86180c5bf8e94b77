use Rattle.std.proofs.Common.{arith}
use Rattle.grist_serve.proofs.LineLaws.{serving_starts}
use Rattle.grist_serve.proofs.serving.serve_lines.Goals as goal

pub loop-end-init : goal.loop-end-init
loop-end-init g c = record {
  own = c.requires.pass;
  empty = c.requires.empty;
  serving = serving_starts c.args.session.now (g.L.Source.left c.args.link.now) c.args.pass.now (g.L.Sink.written c.args.link.now) c.args.buffers.now.reader c.requires.ahead c.requires.turns;
  read = omega arith;
  write = omega arith;
}
