use Rattle.std.proofs.Common.{[], arith}
use Rattle.grist_run.specs.declared.status.Status.TheVariants.{Usage}
use Rattle.grist_run.proofs.ReplayLaws.{replays_told, usage_replays}
use Rattle.grist_run.proofs.running.run.Goals as goal

pub returns-else-asks_for_replay-clause-replay : goal.returns-else-asks_for_replay-clause-replay
returns-else-asks_for_replay-clause-replay g c =
    let none = c.without_history in
    replays_told Usage none.result.status [] none.result.history (g.K.Keeper.records none.result.keeper) (g.K.Keeper.failures none.result.keeper) none.ensures.status none.ensures.history
    (usage_replays (g.S.Source.left c.args.input.now) (g.O.Sink.written c.args.out.now) (g.K.Keeper.records c.args.keeper) (g.K.Keeper.records none.result.keeper) none.ensures.records (g.K.Keeper.failures c.args.keeper) (g.K.Keeper.failures none.result.keeper) (omega (arith, none.ensures.faults)))
