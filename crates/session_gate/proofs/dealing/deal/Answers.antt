use Rattle.std.proofs.Common.{rules, arith, ◌≡◌}
use Rattle.session_gate.proofs.Lists.{all_from}
use Rattle.session_gate.proofs.DealLemmas.{dealing_starts, dealt_idle, last_idle, deal_allowed, dealing_on, all_dealt}
use Rattle.session_gate.proofs.dealing.deal.Goals as goal

pub loop-made-init : goal.loop-made-init
loop-made-init g c = (dealing_starts _ _ _ c.args.passes c.args.seat _ c.requires.dealer c.requires.room.0, search rules, search rules)

pub split_seat-next-requires : goal.split_seat-next-requires
split_seat-next-requires g c = let d = c.loop-made.invariant.0.dealer in (
  d.new.gate_is,
  search rules,
  deal_allowed _ _ _ _ c.args.shared.now.key.machine.value c.args.passes c.args.shared.now.key.passes _ _ _ c.loop-made._made c.loop-made.seat c.requires.count.1 (omega arith) d,
)

pub add_pass-requires-clause-idle : goal.add_pass-requires-clause-idle
add_pass-requires-clause-idle g c = dealt_idle _ _ _ c.args.passes c.loop-made._made c.loop-made.seat c.split_seat-next.new.seat (omega arith) c.loop-made.invariant.0.dealer c.split_seat-next.ensures.2

pub loop-made-preserved : goal.loop-made-preserved
loop-made-preserved g c = (
  dealing_on _ _ _ c.args.passes c.loop-made._made c.loop-made.seat c.split_seat-next.new.seat c.split_seat-next.result _ _ (omega arith) c.loop-made.invariant.0 c.split_seat-next.ensures.0 c.split_seat-next.ensures.2
      c.split_seat-next.ensures.3 c.split_seat-next.ensures.4 c.add_pass.ensures.added,
  search rules,
  omega arith,
)

pub add_pass-requires-2-clause-idle : goal.add_pass-requires-2-clause-idle
add_pass-requires-2-clause-idle g c = last_idle _ _ _ c.args.passes c.loop-made._made c.loop-made.seat (omega arith) c.loop-made.invariant.0.dealer

pub returns-clause-each : goal.returns-clause-each
returns-clause-each g c = all_dealt _ _ _ c.args.passes c.loop-made._made c.loop-made.seat _ _ c.loop-made.invariant.0 c.add_pass-2.ensures.added

pub returns-clause-own : goal.returns-clause-own
returns-clause-own g c =
    let all = all_dealt _ _ _ c.args.passes c.loop-made._made c.loop-made.seat _ _ c.loop-made.invariant.0 c.add_pass-2.ensures.added in
    all_from (λ p. p.gate ≡ c.args.shared.now.table_id) c.add_pass-2.new.list.items (λ i p e. (all.each i p e).gate_is)
