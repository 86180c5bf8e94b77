use Rattle.std.proofs.Common.{rules, ◌≡◌, [], length}
use Rattle.std.proofs.lemmas.List.{nil_from_length}
use Rattle.grist_lanes.proofs.ReversedLemmas.{all_taken}
use Rattle.grist_lanes.proofs.lanes.join_lanes.Goals as goal

pub returns-clause-ports : goal.returns-clause-ports
returns-clause-ports g c =
    let none : c.loop-port.ports.items ≡ [] = search rules in
    rw c.reverse.ensures.items (all_taken (λ l. l.port) c.loop-port.lanes.items c.loop-port.ports.items c.args.ports.now.items none c.loop-port.invariant.ports)

pub returns-clause-passes : goal.returns-clause-passes
returns-clause-passes g c =
    let size : length c.loop-port.passes.items ≡ 0 = search rules in
    let none : c.loop-port.passes.items ≡ [] = nil_from_length c.loop-port.passes.items size in
    rw c.reverse.ensures.items (all_taken (λ l. l.pass) c.loop-port.lanes.items c.loop-port.passes.items c.args.passes.now.items none c.loop-port.invariant.passes)

pub returns-clause-readers : goal.returns-clause-readers
returns-clause-readers g c =
    let size : length c.loop-port.readers.items ≡ 0 = search rules in
    let none : c.loop-port.readers.items ≡ [] = nil_from_length c.loop-port.readers.items size in
    rw c.reverse.ensures.items (all_taken (λ l. l.shots) c.loop-port.lanes.items c.loop-port.readers.items c.args.readers.now.items none c.loop-port.invariant.readers)
