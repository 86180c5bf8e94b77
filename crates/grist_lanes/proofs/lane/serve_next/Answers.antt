use Rattle.std.proofs.Common.{Ok, refl, subst}
use Rattle.io_edges.specs.Ports.{Gives, HandsOut}
use Rattle.grist_lanes.specs.Services.{Service, lane_view}
use Rattle.grist_lanes.proofs.ServiceLemmas.{few_one, served_one}
use Rattle.grist_lanes.proofs.lane.serve_next.Goals as goal

pub returns-in-Ok-Some-clause-next : goal.returns-in-Ok-Some-clause-next
returns-in-Ok-Some-clause-next g c =
    let one : Service g.row.P-Conn.Denot = record {
      before = c.in-Ok-Some.conn;
      after = c.serve_connection-end.new.conn;
      end = c.serve_connection-end.result;
      old = lane_view c.args.pass.now c.args.shots.now.known;
      new = lane_view c.serve_connection-end.new.pass c.serve_connection-end.new.shots.known;
    } in
    let old = g.P.Port.state c.args.port.now in
    let mid = g.P.Port.state c.next.new.self in
    let new = g.P.Port.state c.done.new.self in
    let out : HandsOut old mid c.in-Ok-Some.conn = subst (λ o. Gives old mid (Ok o)) c.in-Ok-Some.field-0-is c.in-Ok-Some.ensures.gives in
    record {
      service = one;
      served = c.serve_connection-end.ensures.served;
      from = refl;
      to = refl;
      port = served_one old mid new one out c.next.ensures.cause.later c.done.ensures;
      few = few_one old mid new one out c.done.ensures;
    }
