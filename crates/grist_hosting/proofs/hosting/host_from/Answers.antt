use Rattle.std.proofs.Common.{rules, ◌≡◌, [], List, length, map, ap, sym, subst, ◌∙◌}
use Rattle.doc_model.specs.declared.entry.Entry.{Entry}
use Rattle.io_edges.proofs.SendingLemmas.{appends_none}
use Rattle.bundle_core.specs.Machine.{opening_of}
use Rattle.grist_lanes.specs.Services.{telling}
use Rattle.grist_run.specs.declared.status.Status.{Status}
use Rattle.grist_run.specs.Words.{is_early}
use Rattle.grist_run.proofs.ReplayLaws.{keeps_records}
use Rattle.grist_hosting.specs.Hosting.{Hosts}
use Rattle.grist_hosting.specs.HostingParts.{is_late}
use Rattle.grist_hosting.proofs.HostLemmas.{ends_hosting, ends_late, ends_not_early, ends_written, line, line_told, stays_of}
use Rattle.grist_hosting.proofs.hosting.host_from.Goals as goal

pub returns-in-Ok-clause-late : goal.returns-in-Ok-clause-late
returns-in-Ok-clause-late g c = ap is_late (c.finish.ensures.status ∙ c.end_status.ensures) ∙ ends_late c.send-sent.result c.in-Ok.field-0.have_ended

pub returns-in-Ok-clause-hosts : goal.returns-in-Ok-clause-hosts
returns-in-Ok-clause-hosts g c =
    let t = telling g.P.Conn.Source.left g.P.Conn.Sink.written g.P.Conn.Source.faults g.P.Conn.Sink.faults in
    let old = c.args.watched.core in
    let new = c.in-Ok.field-0.served.watched.core in
    let made = c.in-Ok.field-0.served.connections in
    let before = map g.P.Port.state c.args.ports.now.items in
    let after = map g.P.Port.state c.serve_ports.new.ports.items in
    let w = g.O.Sink.written c.args.out.now in
    let z = g.O.Sink.written c.send-sent.new.out in
    let f = g.O.Sink.faults c.args.out.now in
    let f' = g.O.Sink.faults c.send-sent.new.out in
    let same = c.finish.ensures.status ∙ c.end_status.ensures in
    let told : c.as_slice.result.now ≡ line t old new before after made = c.as_slice.ensures.value ∙ c.append_summary.ensures ∙ line_told t old new before after made c.bundles.result (length c.history.result.now) c.in-Ok.ensures.opening c.bundles.ensures (ap length c.history.ensures.entries) in
    record {
      hosts = λ l m says.
          subst (λ (h : List Entry). Hosts t old.state.users old.state.start l m h before after w z f f' c.finish.result.status) (sym c.finish.ensures.history)
          (subst (λ (s : Status). Hosts t old.state.users old.state.start l m new.state.history before after w z f f' s) (sym same)
          (ends_hosting t old new before after made c.requires.first c.in-Ok.ensures.serves c.in-Ok.ensures.connections l m says w z f f' c.in-Ok.field-0.have_ended c.in-Ok.ensures.ended c.send-sent.result (rw told at c.send-sent.ensures.ok) (rw told at c.send-sent.ensures.err) c.send-sent.ensures.cause));
      keeper = keeps_records new c.finish.ensures.keeping c.finish.result.status (ap is_early same ∙ ends_not_early c.send-sent.result c.in-Ok.field-0.have_ended) old (stays_of old new c.in-Ok.ensures.opening)
          c.finish.result.history c.finish.ensures.history (g.K.Keeper.records c.finish.result.keeper) c.finish.ensures.records (g.K.Keeper.failures c.finish.result.keeper) c.finish.ensures.faults;
    }

pub returns-clause-hosts : goal.returns-clause-hosts
returns-clause-hosts g c =
    let t = telling g.P.Conn.Source.left g.P.Conn.Sink.written g.P.Conn.Source.faults g.P.Conn.Sink.faults in
    let old = c.args.watched.core in
    let new = c.in-Err.field-0.watched.core in
    let end = c.finish-in-Err in
    let before = map g.P.Port.state c.args.ports.now.items in
    let after = map g.P.Port.state c.serve_ports.new.ports.items in
    let w = g.O.Sink.written c.args.out.now in
    let f = g.O.Sink.faults c.args.out.now in
    let same : new ≡ old = ap (λ w. w.core) c.in-Err.ensures.err.0 in
    let none : end.result.history ≡ [] = end.ensures.history ∙ ap (λ k. k.state.history) same ∙ c.requires.first in
    record {
      hosts = λ l m says.
          subst (λ (s : Status). Hosts t old.state.users old.state.start l m end.result.history before after w w f f s) (sym end.ensures.status)
          (record { none = none; ports_are = ap (map g.P.Port.state) c.in-Err.ensures.err.1; written = appends_none w });
      keeper = keeps_records new end.ensures.keeping end.result.status (ap is_early end.ensures.status) old (stays_of old new (ap opening_of same))
          end.result.history end.ensures.history (g.K.Keeper.records end.result.keeper) end.ensures.records (g.K.Keeper.failures end.result.keeper) end.ensures.faults;
    }

pub returns-in-Ok-clause-write_fault : goal.returns-in-Ok-clause-write_fault
returns-in-Ok-clause-write_fault g c = λ is.
    ends_written c.send-sent.result c.in-Ok.field-0.have_ended c.send-sent.ensures.cause (sym (c.finish.ensures.status ∙ c.end_status.ensures) ∙ is)
