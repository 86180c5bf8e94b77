use Rattle.std.proofs.Common.{◌≡◌, ◌∙◌, false, ap}
use Rattle.grist_run.specs.Words.{is_early}
use Rattle.grist_run.specs.Generated.{summary_of}
use Rattle.grist_run.proofs.GeneratedLaws.{same_generated, stops_generated, stops_late, tells_generated, tells_late}
use Rattle.grist_run.proofs.ReplayLaws.{keeps_records}
use Rattle.grist_run.proofs.generating.generate_from.Goals as goal
use Rattle.grist_run.proofs.generating.generate_from.Goals.{in-Ok, in-Err}

pub returns-clause-generates : goal.returns-clause-generates
returns-clause-generates g c =
    let s = c.ask_all.new.core.state in
    let stays = c.ask_all.ensures.stays in
    let w = g.O.Sink.written c.args.out.now in
    elim c.match-ask_all.branch [
      | in-Ok b ↦
          same_generated s.users c.args.core.state.users s.start c.args.core.state.start c.args.rows s.history c.finish-history.result.history w (g.O.Sink.written b.tell-status.new.out) (g.O.Sink.written c.match-ask_all.out) b.tell-status.result c.match-ask_all.status
          stays.users stays.start c.finish-history.ensures.history (ap g.O.Sink.written b.out-is) b.status-is
          (tells_generated s.users s.start c.args.rows s.history w (g.O.Sink.written b.tell-status.new.out) b.tell-status.result b.in-Ok.ensures.took b.tell-status.ensures.tells)
      | in-Err b ↦
          same_generated s.users c.args.core.state.users s.start c.args.core.state.start c.args.rows s.history c.finish-history.result.history w w (g.O.Sink.written c.match-ask_all.out) b.in-Err.status c.match-ask_all.status
          stays.users stays.start c.finish-history.ensures.history (ap g.O.Sink.written b.out-is) b.status-is
          (stops_generated s.users s.start c.args.rows s.history w b.in-Err.status b.in-Err.ensures.err)
    ]

pub returns-clause-keeper : goal.returns-clause-keeper
returns-clause-keeper g c =
    let s = c.ask_all.new.core.state in
    let w = g.O.Sink.written c.args.out.now in
    let late : is_early c.match-ask_all.status ≡ false = elim c.match-ask_all.branch [
      | in-Ok b ↦ ap is_early b.status-is ∙ tells_late b.tell-status.result (summary_of s.users s.start c.args.rows s.history) w (g.O.Sink.written b.tell-status.new.out) b.tell-status.ensures.tells
      | in-Err b ↦ ap is_early b.status-is ∙ stops_late c.args.rows b.in-Err.status s.history b.in-Err.ensures.err
    ] in
    keeps_records c.ask_all.new.core c.finish-history.ensures.keeping c.match-ask_all.status late c.args.core c.ask_all.ensures.stays
    c.finish-history.result.history c.finish-history.ensures.history (g.K.Keeper.records c.finish-history.result.keeper) c.finish-history.ensures.records (g.K.Keeper.failures c.finish-history.result.keeper) c.finish-history.ensures.faults
