use Rattle.std.proofs.Common.{◌≡◌, ◌-◌, ◌∙◌, length, take, drop, arith}
use Rattle.std.proofs.lemmas.Grind.{common_steps}
use Rattle.io_edges.proofs.SendingLemmas.{sends_more}
use Rattle.io_edges.proofs.writing.write_all.Goals as goal

pub loop-rest-preserved : goal.loop-rest-preserved
loop-rest-preserved g c =
    let w = c.loop-rest.rest.now in
    let n = c.in_ok-count.count in
    let tail : take (length w - n) (drop n w) ≡ drop n w = grind (arith, common_steps) in
    record {
      sent = rw tail (sends_more c.in_ok-count.count c.loop-rest.invariant.sent c.in_ok-count.ensures.bytes);
      apart = c.in_ok-count.ensures.apart ∙ c.loop-rest.invariant.apart;
      later = omega (arith, c.loop-rest.invariant.later, c.in_ok-count.ensures.cause.later);
    }
