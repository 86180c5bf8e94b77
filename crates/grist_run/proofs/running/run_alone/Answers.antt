use Rattle.std.proofs.Common.{[], ◌∙◌, sym, subst, arith}
use Rattle.grist_run.specs.declared.status.Status.TheVariants.{NoMemory}
use Rattle.grist_run.specs.Hearing.{IsAt}
use Rattle.grist_run.specs.Starting.{start_status}
use Rattle.grist_run.proofs.EndLaws.{run_unopened}
use Rattle.grist_run.proofs.ReplayLaws.{heard_replays, none_replays, opened_replays, replays_told, start_replays}
use Rattle.grist_run.proofs.running.run_alone.Goals as goal

pub returns-in_default-clause-replay : goal.returns-in_default-clause-replay
returns-in_default-clause-replay g c =
    let none = c.without_history in
    replays_told NoMemory none.result.status [] none.result.history (g.K.Keeper.records none.result.keeper) (g.K.Keeper.failures none.result.keeper) none.ensures.status none.ensures.history
    (none_replays (g.S.Source.left c.args.input.now) (g.O.Sink.written c.args.out.now) (g.K.Keeper.records c.args.keeper) (g.K.Keeper.records none.result.keeper) none.ensures.records (g.K.Keeper.failures c.args.keeper) (g.K.Keeper.failures none.result.keeper) (omega (arith, none.ensures.faults)))

pub returns-in_default-new-clause-replay : goal.returns-in_default-new-clause-replay
returns-in_default-new-clause-replay g c =
    let none = c.without_history-in_default-new in
    replays_told NoMemory none.result.status [] none.result.history (g.K.Keeper.records none.result.keeper) (g.K.Keeper.failures none.result.keeper) none.ensures.status none.ensures.history
    (none_replays (g.S.Source.left c.args.input.now) (g.O.Sink.written c.args.out.now) (g.K.Keeper.records c.args.keeper) (g.K.Keeper.records none.result.keeper) none.ensures.records (g.K.Keeper.failures c.args.keeper) (g.K.Keeper.failures none.result.keeper) (omega (arith, none.ensures.faults)))

pub returns-in-Err-clause-replay : goal.returns-in-Err-clause-replay
returns-in-Err-clause-replay g c =
    let none = c.without_history-in-Err in
    replays_told c.in-Err.status none.result.status [] none.result.history (g.K.Keeper.records none.result.keeper) (g.K.Keeper.failures none.result.keeper) none.ensures.status none.ensures.history
    (heard_replays (g.S.Source.left c.args.input.now) (g.S.Source.left c.read_users.new.input) (g.O.Sink.written c.args.out.now) (g.K.Keeper.records c.args.keeper) (g.K.Keeper.records none.result.keeper) none.ensures.records (g.K.Keeper.failures c.args.keeper) (g.K.Keeper.failures none.result.keeper) c.in-Err.status c.in-Err.ensures.hears (omega (arith, none.ensures.faults)))

pub returns-in-Ok-start_watched-clause-replay : goal.returns-in-Ok-start_watched-clause-replay
returns-in-Ok-start_watched-clause-replay g c =
    let core = c.in-Ok-start_watched.watched.core in
    let started = c.in-Ok-start_watched.ensures.ok in
    let r = c.replay_from in
    let at = subst (λ us. IsAt c.in-Ok-read_users.front.next (g.S.Source.left c.args.input.now) (g.S.Source.left c.read_users.new.input) us [] c.read_users.new.reader) (sym started.users) c.in-Ok-read_users.ensures.hears.0 in
    opened_replays core c.in-Ok-read_users.front.users (g.K.Keeper.records c.args.keeper) (g.K.Keeper.failures c.args.keeper) started r.result.status (g.S.Source.left c.args.input.now) (g.S.Source.left r.new.input) r.result.history (g.O.Sink.written c.args.out.now) (g.O.Sink.written r.new.out) (g.K.Keeper.records r.result.keeper) (g.K.Keeper.failures r.result.keeper)
    (r.ensures.run (g.S.Source.left c.args.input.now) at) r.ensures.keeper

pub returns-clause-replay : goal.returns-clause-replay
returns-clause-replay g c =
    let none = c.without_history-in-Err-start_watched in
    let fault = c.in-Err-start_watched.ensures in
    let told = g.K.Keeper.records c.args.keeper in
    let before = g.K.Keeper.failures c.args.keeper in
    let after = g.K.Keeper.failures none.result.keeper in
    let cause = c.in-Err-start_watched.field-0.cause in
    replays_told (start_status cause) none.result.status [] none.result.history (g.K.Keeper.records none.result.keeper) after (none.ensures.status ∙ c.start_status.ensures) none.ensures.history
    (start_replays (g.S.Source.left c.args.input.now) (g.S.Source.left c.read_users.new.input) (g.O.Sink.written c.args.out.now) told (g.K.Keeper.records none.result.keeper) (none.ensures.records ∙ fault.same) before after c.in-Ok-read_users.front.users cause
    (run_unopened (g.S.Source.left c.args.input.now) (g.S.Source.left c.read_users.new.input) (g.O.Sink.written c.args.out.now) c.in-Ok-read_users.front.users c.read_users.new.reader c.in-Ok-read_users.front.next c.in-Ok-read_users.ensures.hears.0 cause)
    (omega (arith, none.ensures.faults, fault.later)) (λ is. rw none.ensures.faults (fault.fault is)))
