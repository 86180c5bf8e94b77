use Rattle.std.proofs.Common.{rules, arith, All, ◌≡◌, ◌+◌, ◌∷◌, [], false, length, map, sym, ap, ap₂, ◌∙◌, subst}
use Rattle.std.specs.List.{AllByRecursion, list_all, sum_by}
use Rattle.std.proofs.lemmas.List.{length-map}
use Rattle.bundle_core.specs.Machine.{opening_of}
use Rattle.watched_core.specs.Watched.{WatchedState}
use Rattle.document_shot.specs.Pasts.{past_of}
use Rattle.grist_lanes.specs.InHistory.{ServesLanes}
use Rattle.grist_lanes.specs.Services.{telling}
use Rattle.grist_lanes.specs.Handed.{EndedBy, all_handed}
use Rattle.grist_lanes.specs.Sessions.{AreOfNoLane}
use Rattle.grist_lanes.proofs.EndLemmas.{ended_in_all, few_each, handed_in_all}
use Rattle.grist_lanes.proofs.GateLemmas.{all_at, all_mapped, all_over, gate_served, map_twice}
use Rattle.grist_lanes.proofs.serving.serve_ports.Goals as goal

pub serve_all-requires-clause-all : goal.serve_all-requires-clause-all
serve_all-requires-clause-all g c κs within =
    let gate = c.in-Ok-open_gate.opened.gate in
    let lanes = c.join_lanes.new.lanes.items in
    let own : All (λ p. p.gate ≡ gate.id) (map (λ l. l.pass) lanes) = rw (c.join_lanes.ensures.passes, c.into_vec-passes.ensures) c.in-Ok-open_gate.ensures.own in
    let home : All (λ p. (g.P.Port.state p).lent ≡ false) (map (λ l. l.port) lanes) = rw c.join_lanes.ensures.ports c.requires.home in
    (λ k d low. (all_at (λ l. l.pass) (λ p. p.gate ≡ gate.id) lanes own k d low, all_at (λ l. l.port) (λ p. (g.P.Port.state p).lent ≡ false) lanes home k d low))

pub close_gate-requires-clause-own : goal.close_gate-requires-clause-own
close_gate-requires-clause-own g c =
    let gate = c.in-Ok-open_gate.opened.gate in
    let last = c.serve_all.new.lanes.items in
    let passes : c.from.result ≡ map (λ l. l.pass) last = search rules in
    rw passes (all_over (λ l. l.pass) (λ p. p.gate ≡ gate.id) last c.serve_all.ensures.own)

pub returns-clause-serves : goal.returns-clause-serves
returns-clause-serves g c =
    let first = c.join_lanes.new.lanes.items in
    let last = c.serve_all.new.lanes.items in
    let t = telling g.P.Conn.Source.left g.P.Conn.Sink.written g.P.Conn.Source.faults g.P.Conn.Sink.faults in
    let opened = c.in-Ok-open_gate.opened in
    let gate = opened.gate in
    let same : gate.start.watched ≡ c.args.watched = c.in-Ok-open_gate.ensures.gate.0 in
    let joined : map (λ l. l.pass) first ≡ opened.passes = c.join_lanes.ensures.passes ∙ c.into_vec-passes.ensures in
    let parted : c.from.result ≡ map (λ l. l.pass) last = search rules in
    let ports : length first ≡ length c.args.ports.now.items = sym (length-map first (λ l. l.port)) ∙ ap length c.join_lanes.ensures.ports in
    let known = all_mapped (λ l. l.shots) (λ r. r.known ≡ past_of c.args.watched.core.state ∷ []) first
    (subst (AllByRecursion (λ r. r.known ≡ past_of c.args.watched.core.state ∷ [])) (sym c.join_lanes.ensures.readers) c.in-Ok-open_gate.ensures.readers) in
    let told = subst (λ (w : WatchedState). AllByRecursion (λ l. l.shots.known ≡ past_of w.core.state ∷ []) first) (sym same) known in
    let none = subst (λ (w : WatchedState). AreOfNoLane w.core.state.history) (sym same) c.requires.none in
    let served = gate_served t (λ m. m.watched.core.state.history) (λ m. opening_of m.watched.core) _ _ gate c.close_gate.result (λ l. g.P.Port.state l.port) (λ l. l.pass) (λ l. l.shots.known) first last opened.passes c.from.result c.close_gate.ensures.0
    c.in-Ok-open_gate.ensures.each joined parted c.serve_all.ensures.count told c.serve_all.ensures.serves (omega (arith, ports, c.requires.count.1)) none c.close_gate.ensures.1 in
    let before = map_twice (λ l. l.port) g.P.Port.state first ∙ ap (map g.P.Port.state) c.join_lanes.ensures.ports in
    let after = map_twice (λ l. l.port) g.P.Port.state last ∙ ap (map g.P.Port.state) (sym c.part_lanes.ensures.ports) in
    let back : c.finish-watched.result ≡ c.close_gate.result.watched = c.finish-watched.ensures in
    let begun = subst (λ (w : WatchedState). ServesLanes t (opening_of w.core) w.core.state.history c.close_gate.result.watched.core.state.history (map (λ l. g.P.Port.state l.port) first) (map (λ l. g.P.Port.state l.port) last)) same served in
    let closed = subst (λ (w : WatchedState). ServesLanes t (opening_of c.args.watched.core) c.args.watched.core.state.history w.core.state.history (map (λ l. g.P.Port.state l.port) first) (map (λ l. g.P.Port.state l.port) last)) (sym back) begun in
    subst (ServesLanes t (opening_of c.args.watched.core) c.args.watched.core.state.history c.finish-watched.result.core.state.history (map g.P.Port.state c.args.ports.now.items)) after
    (subst (λ ps. ServesLanes t (opening_of c.args.watched.core) c.args.watched.core.state.history c.finish-watched.result.core.state.history ps (map (λ l. g.P.Port.state l.port) last)) before closed)

pub connections_of-connections-requires-clause-few : goal.connections_of-connections-requires-clause-few
connections_of-connections-requires-clause-few g c =
    let first = c.join_lanes.new.lanes.items in
    let ports : length first ≡ length c.args.ports.now.items = sym (length-map first (λ l. l.port)) ∙ ap length c.join_lanes.ensures.ports in
    let same : c.as_slice.result.now ≡ c.serve_all.new.lanes.items = search rules in
    omega (arith, ap length same, c.serve_all.ensures.count, ports, c.requires.count.1)

pub connections_of-connections-requires-clause-each : goal.connections_of-connections-requires-clause-each
connections_of-connections-requires-clause-each g c κs within =
    let first = c.join_lanes.new.lanes.items in
    let last = c.serve_all.new.lanes.items in
    let same : c.as_slice.result.now ≡ last = search rules in
    rw same (few_each (λ l. g.P.Port.state l.port) (λ l. l.end) first last c.serve_all.ensures.count c.serve_all.ensures.ends)

pub returns-clause-connections : goal.returns-clause-connections
returns-clause-connections g c =
    let first = c.join_lanes.new.lanes.items in
    let last = c.serve_all.new.lanes.items in
    let all = handed_in_all (λ l. g.P.Port.state l.port) (λ l. l.end) first last c.serve_all.ensures.count c.serve_all.ensures.ends in
    let same : c.as_slice.result.now ≡ last = search rules in
    let sum : c.connections_of-connections.result ≡ sum_by (λ l. l.end.connections) last = c.connections_of-connections.ensures ∙ ap (sum_by (λ l. l.end.connections)) same in
    let before = map_twice (λ l. l.port) g.P.Port.state first ∙ ap (map g.P.Port.state) c.join_lanes.ensures.ports in
    let after = map_twice (λ l. l.port) g.P.Port.state last ∙ ap (map g.P.Port.state) (sym c.part_lanes.ensures.ports) in
    sym (ap all_handed after) ∙ all ∙ ap₂ (λ a b. a + b) (ap all_handed before) (sym sum)

pub returns-clause-ended : goal.returns-clause-ended
returns-clause-ended g c =
    let first = c.join_lanes.new.lanes.items in
    let last = c.serve_all.new.lanes.items in
    let state = g.P.Port.state in
    let all = ended_in_all (λ l. state l.port) (λ l. l.end) first last c.serve_all.ensures.count c.serve_all.ensures.ends in
    let same : c.as_slice-2.result.now ≡ last = search rules in
    let said : c.have_all_ended-have_ended.result ≡ list_all (λ l. l.end.has_ended) last = c.have_all_ended-have_ended.ensures ∙ ap (list_all (λ l. l.end.has_ended)) same in
    let before = map_twice (λ l. l.port) state first ∙ ap (map state) c.join_lanes.ensures.ports in
    let after = map_twice (λ l. l.port) state last ∙ ap (map state) (sym c.part_lanes.ensures.ports) in
    subst (EndedBy c.have_all_ended-have_ended.result (map state c.args.ports.now.items)) after
    (subst (λ ps. EndedBy c.have_all_ended-have_ended.result ps (map (λ l. state l.port) last)) before
    (subst (λ b. EndedBy b (map (λ l. state l.port) first) (map (λ l. state l.port) last)) (sym said) all))
