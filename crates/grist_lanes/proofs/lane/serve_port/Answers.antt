use Rattle.std.proofs.Common.{arith, subst, ◌≡◌, ◌+◌, ◌-◌, suc, true, false}
use Rattle.grist_lanes.specs.Services.{ServesNone, ServesSome, lane_view, telling}
use Rattle.grist_lanes.specs.declared.lanes.LaneEnd.{LaneEnd}
use Rattle.grist_lanes.proofs.ServiceLemmas.{ends_all, serves_all, serves_more, serves_none}
use Rattle.grist_lanes.proofs.lane.serve_port.Goals as goal

pub loop-number-init : goal.loop-number-init
loop-number-init g c = record {
  own = c.requires.pass;
  some = serves_none (telling g.P.Conn.Source.left g.P.Conn.Sink.written g.P.Conn.Source.faults g.P.Conn.Sink.faults) c.args.lane (g.P.Port.state c.args.port.now) (lane_view c.args.pass.now c.args.shots.now.known) c.requires.home;
}

pub loop-number-preserved : goal.loop-number-preserved
loop-number-preserved g c =
    let t = telling g.P.Conn.Source.left g.P.Conn.Sink.written g.P.Conn.Source.faults g.P.Conn.Sink.faults in
    let first = g.P.Port.state c.args.port.now in
    let last = g.P.Port.state c.serve_next.new.port in
    let old = lane_view c.args.pass.now c.args.shots.now.known in
    let so_far = lane_view c.loop-number.pass c.loop-number.shots.known in
    let new = lane_view c.serve_next.new.pass c.serve_next.new.shots.known in
    let after : suc c.loop-number.number ≡ c.loop-number.number + 1 = omega arith in
    record {
      own = c.serve_next.ensures.own;
      some = subst (ServesSome t c.args.lane first last old new) after
          (serves_more t c.args.lane first (g.P.Port.state c.loop-number.port) last old so_far new c.loop-number.number c.loop-number.invariant.some (rw c.in-Ok-true.field-0-test at c.in-Ok-true.ensures.next));
    }

pub returns-in-Ok-false-clause-serves : goal.returns-in-Ok-false-clause-serves
returns-in-Ok-false-clause-serves g c =
    let t = telling g.P.Conn.Source.left g.P.Conn.Sink.written g.P.Conn.Source.faults g.P.Conn.Sink.faults in
    let first = g.P.Port.state c.args.port.now in
    let mid = g.P.Port.state c.loop-number.port in
    let last = g.P.Port.state c.serve_next.new.port in
    let old = lane_view c.args.pass.now c.args.shots.now.known in
    let so_far = lane_view c.loop-number.pass c.loop-number.shots.known in
    let new = lane_view c.serve_next.new.pass c.serve_next.new.shots.known in
    let some = c.loop-number.invariant.some in
    let none : ServesNone t c.args.lane mid last so_far new true = rw c.in-Ok-false.field-0-test at c.in-Ok-false.ensures.next in
    serves_all t c.args.lane first mid last old so_far new c.loop-number.number true some none

pub returns-in-Ok-false-clause-ends : goal.returns-in-Ok-false-clause-ends
returns-in-Ok-false-clause-ends g c =
    let t = telling g.P.Conn.Source.left g.P.Conn.Sink.written g.P.Conn.Source.faults g.P.Conn.Sink.faults in
    let first = g.P.Port.state c.args.port.now in
    let mid = g.P.Port.state c.loop-number.port in
    let last = g.P.Port.state c.serve_next.new.port in
    let old = lane_view c.args.pass.now c.args.shots.now.known in
    let so_far = lane_view c.loop-number.pass c.loop-number.shots.known in
    let new = lane_view c.serve_next.new.pass c.serve_next.new.shots.known in
    let some = c.loop-number.invariant.some in
    let none : ServesNone t c.args.lane mid last so_far new true = rw c.in-Ok-false.field-0-test at c.in-Ok-false.ensures.next in
    let end : LaneEnd = record { connections = c.loop-number.number - 1; has_ended = true } in
    let number : c.loop-number.number ≡ suc (c.loop-number.number - 1) = omega (arith, some.next) in
    ends_all t c.args.lane first mid last old so_far new end (subst (ServesSome t c.args.lane first mid old so_far) number some) none

pub returns-in-Err-clause-serves : goal.returns-in-Err-clause-serves
returns-in-Err-clause-serves g c =
    let t = telling g.P.Conn.Source.left g.P.Conn.Sink.written g.P.Conn.Source.faults g.P.Conn.Sink.faults in
    let first = g.P.Port.state c.args.port.now in
    let mid = g.P.Port.state c.loop-number.port in
    let last = g.P.Port.state c.serve_next.new.port in
    let old = lane_view c.args.pass.now c.args.shots.now.known in
    let so_far = lane_view c.loop-number.pass c.loop-number.shots.known in
    let new = lane_view c.serve_next.new.pass c.serve_next.new.shots.known in
    let some = c.loop-number.invariant.some in
    let none : ServesNone t c.args.lane mid last so_far new false = c.in-Err.ensures.next in
    serves_all t c.args.lane first mid last old so_far new c.loop-number.number false some none

pub returns-in-Err-clause-ends : goal.returns-in-Err-clause-ends
returns-in-Err-clause-ends g c =
    let t = telling g.P.Conn.Source.left g.P.Conn.Sink.written g.P.Conn.Source.faults g.P.Conn.Sink.faults in
    let first = g.P.Port.state c.args.port.now in
    let mid = g.P.Port.state c.loop-number.port in
    let last = g.P.Port.state c.serve_next.new.port in
    let old = lane_view c.args.pass.now c.args.shots.now.known in
    let so_far = lane_view c.loop-number.pass c.loop-number.shots.known in
    let new = lane_view c.serve_next.new.pass c.serve_next.new.shots.known in
    let some = c.loop-number.invariant.some in
    let none : ServesNone t c.args.lane mid last so_far new false = c.in-Err.ensures.next in
    let end : LaneEnd = record { connections = c.loop-number.number - 1; has_ended = false } in
    let number : c.loop-number.number ≡ suc (c.loop-number.number - 1) = omega (arith, some.next) in
    ends_all t c.args.lane first mid last old so_far new end (subst (ServesSome t c.args.lane first mid old so_far) number some) none
