use Rattle.std.proofs.Common.{◌<◌, length, arith, ◌∙◌}
use Rattle.std.proofs.lemmas.Result.{on_ok_weaker}
use Rattle.context_changes.specs.Known.{told_by}
use Rattle.bundle_core.proofs.Prepared.{ready_more, same_set}
use Rattle.bundle_core.proofs.bundle.ready_all.Goals as goal

pub returns-clause-same : goal.returns-clause-same
returns-clause-same c =
    let within : c.args.index < length c.prepare_vec.new.sessions.items = omega (arith, c.requires.within, c.in_ok-prepare_vec.ensures.length) in
    λ s. same_set c.prepare_vec.new.sessions.items c.args.index c.index_mut-session.result.now c.make_bundle_room.new.self within c.index_mut-session.ensures.value c.make_bundle_room.ensures.prepared s
    ∙ c.in_ok-prepare_vec.ensures.same s

pub returns-clause-ready : goal.returns-clause-ready
returns-clause-ready c =
    let xs = c.prepare_vec.new.sessions.items in
    let y = c.make_bundle_room.new.self in
    let within : c.args.index < length xs = omega (arith, c.requires.within, c.in_ok-prepare_vec.ensures.length) in
    on_ok_weaker c.make_bundle_room.result (λ room. ready_more (told_by c.args.contexts.now c.args.told.now) xs c.args.index c.index_mut-session.result.now y within c.index_mut-session.ensures.value
    c.make_bundle_room.ensures.prepared c.make_bundle_room.ensures.ready (omega (arith, room.lines)) c.in_ok-prepare_vec.ensures.ready) c.make_bundle_room.ensures.room
