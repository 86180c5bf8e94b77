use Rattle.std.proofs.Common.{rules}
use Rattle.session_gate.proofs.CallLemmas.{idle_is, one_out, goes_out, out_as}
use Rattle.session_gate.proofs.turn.take_out.Goals as goal

pub exchange-requires : goal.exchange-requires
exchange-requires g c =
    let k = idle_is c.args.seat.now c.requires.idle in
    (search rules, one_out _ _ _ _ k.0 c.args.seat.now.me c.win.new.seat.me k.1 c.win.ensures.won)

pub unreachable-requires : goal.unreachable-requires
unreachable-requires g c =
    let k = idle_is c.args.seat.now c.requires.idle in
    let out = goes_out _ _ _ _ k.0 c.args.seat.now.me c.win.new.seat.me c.exchange.new.seat.me c.exchange.result k.1 c.win.ensures.won c.exchange.ensures.2 c.exchange.ensures.3 in
    c.in_default.not-Some out.0 out.1

pub returns-clause-out : goal.returns-clause-out
returns-clause-out g c =
    let k = idle_is c.args.seat.now c.requires.idle in
    let out = goes_out _ _ _ _ k.0 c.args.seat.now.me c.win.new.seat.me c.exchange.new.seat.me c.exchange.result k.1 c.win.ensures.won c.exchange.ensures.2 c.exchange.ensures.3 in
    (k.0, k.1, out_as _ _ _ _ k.0 c.exchange.new.seat.me c.exchange.result out.0 c.in-Some.machine out.1 c.in-Some.is out.2)
