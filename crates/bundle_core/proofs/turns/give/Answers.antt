use Rattle.bundle_core.proofs.Prepared.{on_err_always, same_set, stays_after}
use Rattle.bundle_core.proofs.turns.give.Goals as goal

pub returns-in_err-make_room-clause-err : goal.returns-in_err-make_room-clause-err
returns-in_err-make_room-clause-err c =
    on_err_always _ (same_set c.args.sessions.now.items c.args.index c.index_mut-session.result.now c.make_room.new.self c.requires c.index_mut-session.ensures.value c.make_room.ensures.prepared)

pub returns-clause-ok : goal.returns-clause-ok
returns-clause-ok c =
    stays_after c.args.sessions.now.items c.args.index c.index_mut-session.result.now c.make_room.new.self c.give.new.self _ _ c.requires c.index_mut-session.ensures.value
    c.in_ok-make_room.ensures.prepared c.give.ensures.emptied c.give.ensures.made c.give.ensures.log
    c.give.ensures.lines
