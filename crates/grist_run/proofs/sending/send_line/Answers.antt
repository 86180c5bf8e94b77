use Rattle.std.proofs.Common.{[], ◌∷◌}
use Rattle.grist_json.specs.Lines.{frame_text}
use Rattle.grist_run.proofs.Sent.{nothing_sent, part_more}
use Rattle.grist_run.proofs.sending.send_line.Goals as goal

pub returns-in_default-clause-err : goal.returns-in_default-clause-err
returns-in_default-clause-err g c = part_more (10 ∷ []) c.args.outbox.now (nothing_sent c.args.outbox.now (frame_text c.args.line.now c.args.session.now) (g.O.Sink.written c.args.out.now))
