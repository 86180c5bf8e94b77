use Rattle.std.proofs.Common.{◌≡◌, [], ◌∷◌, ◌++◌, rules}
use Rattle.io_edges.proofs.SendingLemmas.{OnErr-map}
use Rattle.grist_serve.proofs.Sent.{front_sent}
use Rattle.grist_serve.proofs.sending.send_line.Goals as goal

pub returns-clause-err : goal.returns-clause-err
returns-clause-err g c =
    let same : c.as_bytes.result.now ≡ c.args.line.now = search rules in
    OnErr-map c.flush.result (front_sent (c.args.line.now ++ 10 ∷ []) c.put_line.new.outbox _ _ _ (rw (c.requires, same) at c.in_default.ensures.ok)) c.flush.ensures.err
