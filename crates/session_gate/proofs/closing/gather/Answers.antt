use Rattle.std.proofs.Common.{rules, ◌≡◌, length}
use Rattle.session_gate.proofs.Lists.{all_at}
use Rattle.session_gate.proofs.GatherLemmas.{popped, gather_starts, gather_on, gather_ends, last_of, carries_none, join_allowed}
use Rattle.session_gate.proofs.closing.gather.Goals as goal

pub loop-pass-init : goal.loop-pass-init
loop-pass-init g c = gather_starts _ _ _ c.into_seat-all.result record { each = all_at (λ p. p.gate ≡ c.args.shared.now.table_id) c.args.passes.items c.requires.all } (popped c.args.passes.items c.pop.new.self.items c.in-Some.last _ c.in-Some.ensures.items c.into_seat-all.ensures.same) c.into_seat-all.ensures.idle

pub join_seat-requires : goal.join_seat-requires
join_seat-requires g c =
    let is = popped c.loop-pass.passes.items c.pop-in-loop-pass.new.self.items c.in-Some-pop.pass _ c.in-Some-pop.ensures.items c.into_seat.ensures.same in (
      c.loop-pass.invariant.table_is,
      last_of _ _ _ c.into_seat.result c.loop-pass.invariant.front_of is,
      carries_none c.into_seat.result c.into_seat.ensures.idle,
      c.requires.words,
      join_allowed _ _ _ _ c.args.shared.now.key.machine.value c.args.shared.now.key.passes _ _ _ c.loop-pass.all c.into_seat.result c.loop-pass.invariant c.into_seat.ensures.idle,
    )

pub loop-pass-preserved : goal.loop-pass-preserved
loop-pass-preserved g c =
    let is = popped c.loop-pass.passes.items c.pop-in-loop-pass.new.self.items c.in-Some-pop.pass _ c.in-Some-pop.ensures.items c.into_seat.ensures.same in
    gather_on _ _ _ _ c.loop-pass.all c.join_seat.new.seat c.into_seat.result c.loop-pass.invariant is c.into_seat.ensures.idle c.join_seat.ensures.0 c.join_seat.ensures.2

pub returns : goal.returns
returns g c =
    let none : length c.loop-pass.passes.items ≡ 0 = search rules in
    gather_ends _ _ _ c.loop-pass.all c.loop-pass.invariant none
