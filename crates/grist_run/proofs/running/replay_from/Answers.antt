use Rattle.std.proofs.Common.{refl}
use Rattle.grist_run.proofs.EndLaws.{run_told}
use Rattle.grist_run.proofs.ReplayLaws.{keeps_records}
use Rattle.grist_run.proofs.ServingLaws.{serving_starts}
use Rattle.grist_run.proofs.running.replay_from.Goals as goal

pub returns-clause-run : goal.returns-clause-run
returns-clause-run g c left at =
    let s = c.args.watched.core.state in
    let starts = serving_starts c.args.next left (g.S.Source.left c.args.input.now) s c.args.outbox.now (g.O.Sink.written c.args.out.now) c.args.reader.now c.requires.first c.requires.empty at in
    let core = c.serve-served.new.watched.core.state in
    run_told s.users s.start _ _ _ _ c.finish-status.result c.finish-status.result core.history c.finish-history.result.history refl c.finish-history.ensures.history
    (c.finish-status.ensures.ends s.users s.start left (g.S.Source.left c.serve-served.new.input) (g.O.Sink.written c.args.out.now) core.history (c.serve-served.ensures.ends left (g.O.Sink.written c.args.out.now) starts))

pub returns-clause-keeper : goal.returns-clause-keeper
returns-clause-keeper g c =
    keeps_records c.serve-served.new.watched.core c.finish-history.ensures.keeping c.finish-status.result (c.finish-status.ensures.late c.serve-served.ensures.late) c.args.watched.core c.serve-served.ensures.stays
    c.finish-history.result.history c.finish-history.ensures.history (g.K.Keeper.records c.finish-history.result.keeper) c.finish-history.ensures.records (g.K.Keeper.failures c.finish-history.result.keeper) c.finish-history.ensures.faults
