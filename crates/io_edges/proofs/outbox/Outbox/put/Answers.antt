use Rattle.io_edges.proofs.SendingLemmas.{OnOk-map, OnErr-map, sends_both, sends_second}
use Rattle.io_edges.proofs.outbox.Outbox.put.Goals as goal

pub returns-clause-ok : goal.returns-clause-ok
returns-clause-ok g c =
    let sent = rw c.if-keeps.ensures at c.in_ok-send.ensures.ok in
    rw c.in_ok-send.ensures.empty (OnOk-map c.write_all.result (sends_both _ _ _ _ _ sent) c.write_all.ensures.ok)

pub returns-clause-err : goal.returns-clause-err
returns-clause-err g c =
    let sent = rw c.if-keeps.ensures at c.in_ok-send.ensures.ok in
    OnErr-map c.write_all.result (sends_second _ _ _ _ _ sent) c.write_all.ensures.err
