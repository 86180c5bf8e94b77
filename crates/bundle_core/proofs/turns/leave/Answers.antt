use Rattle.bundle_core.proofs.Prepared.{on_err_always, same_set}
use Rattle.bundle_core.proofs.turns.leave.Goals as goal

pub returns-in_err-make_room-clause-err : goal.returns-in_err-make_room-clause-err
returns-in_err-make_room-clause-err c =
    on_err_always _ (same_set c.args.sessions.now.items c.args.index c.index_mut-session.result.now c.make_room.new.self c.requires c.index_mut-session.ensures.value c.make_room.ensures.prepared)
