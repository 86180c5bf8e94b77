use Rattle.std.proofs.Common.{[], ◌∷◌, ◌++◌}
use Rattle.io_edges.proofs.SendingLemmas.{sends_after}
use Rattle.grist_serve.proofs.Sent.{front_after, front_longer}
use Rattle.grist_serve.proofs.sending.put_line.Goals as goal

pub returns-in_default-clause-err : goal.returns-in_default-clause-err
returns-in_default-clause-err g c = front_longer (10 ∷ []) c.in_default.ensures.err

pub returns-in_default-put-clause-err : goal.returns-in_default-put-clause-err
returns-in_default-put-clause-err g c = front_after (c.args.outbox.now ++ c.args.text.now) (10 ∷ []) c.put.new.self c.in-Ok.ensures.ok c.in_default-put.ensures.err

pub returns-clause-ok : goal.returns-clause-ok
returns-clause-ok g c = sends_after (c.args.outbox.now ++ c.args.text.now) (10 ∷ []) c.put.new.self c.put-2.new.self c.in-Ok.ensures.ok c.in-Ok-put.ensures.ok
