use Rattle.std.proofs.Common.{arith}
use Rattle.grist_run.proofs.Sent.{line_sent, line_lost}
use Rattle.grist_run.proofs.sending.send_lines.Goals as goal

pub returns-in-Err-clause-err : goal.returns-in-Err-clause-err
returns-in-Err-clause-err g c =
    line_lost c.args.session.now c.args.lines.now c.loop-line.line-index c.line-item.result c.loop-line-test.true c.line-item.is c.args.outbox.now c.loop-line.outbox c.send_line.new.outbox _ _ _
    c.loop-line.invariant.sent c.in-Err.ensures.err

pub loop-line-preserved : goal.loop-line-preserved
loop-line-preserved g c = record {
  sent = line_sent c.args.session.now c.args.lines.now c.loop-line.line-index c.line-item.result c.loop-line-test.true c.line-item.is c.args.outbox.now c.loop-line.outbox c.send_line.new.outbox _ _ _
      c.loop-line.invariant.sent c.in_default.ensures.ok;
  later = omega (arith, c.loop-line.invariant.later, c.in_default.ensures.later);
}
