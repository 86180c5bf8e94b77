use Rattle.std.proofs.Common.{◌≡◌, ◌∙◌, List, ℕ, arith, rules, subst}
use Rattle.std.proofs.lemmas.List.{take_all}
use Rattle.io_edges.proofs.SendingLemmas.{OnErr-map}
use Rattle.io_edges.specs.Sending.{Sends}
use Rattle.bundle_core.specs.Told.{with_newlines}
use Rattle.grist_serve.proofs.Sent.{front_sent, line_sent, line_lost}
use Rattle.grist_serve.proofs.sending.send_lines.Goals as goal

pub returns-in-Err-clause-err : goal.returns-in-Err-clause-err
returns-in-Err-clause-err g c =
    let same : c.as_bytes.result.now ≡ c.line-item.result = search rules in
    line_lost c.args.lines.now c.loop-line.line-index c.line-item.result c.loop-line-test.true c.line-item.is c.loop-line.outbox _ _ _
    c.loop-line.invariant.sent (rw same at c.in-Err.ensures.err)

pub loop-line-preserved : goal.loop-line-preserved
loop-line-preserved g c =
    let same : c.as_bytes.result.now ≡ c.line-item.result = search rules in
    record {
      sent = line_sent c.args.lines.now c.loop-line.line-index c.line-item.result c.loop-line-test.true c.line-item.is c.loop-line.outbox _ _ _ c.put_line.new.outbox
          c.loop-line.invariant.sent (rw same at c.in_default.ensures.ok);
      apart = c.in_default.ensures.apart ∙ c.loop-line.invariant.apart;
      later = omega (arith, c.loop-line.invariant.later, c.in_default.ensures.later);
    }

pub returns-clause-err : goal.returns-clause-err
returns-clause-err g c =
    let all = take_all c.loop-line.line-index c.args.lines.now (omega (arith, c.loop-line-test.false)) in
    let sent = subst (λ (ls : List (List ℕ)). Sends (with_newlines ls) c.loop-line.outbox (g.O.Sink.written c.args.out.now) (g.O.Sink.written c.loop-line.out)) all c.loop-line.invariant.sent in
    OnErr-map c.flush.result (front_sent (with_newlines c.args.lines.now) c.loop-line.outbox _ _ _ sent) c.flush.ensures.err
