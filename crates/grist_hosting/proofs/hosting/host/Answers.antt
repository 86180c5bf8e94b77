use Rattle.std.proofs.Common.{[], map, ◌∙◌, sym, subst, arith}
use Rattle.grist_lanes.specs.Services.{telling}
use Rattle.grist_run.specs.declared.status.Status.TheVariants.{NoMemory}
use Rattle.grist_run.specs.Starting.{start_status}
use Rattle.grist_run.proofs.ReplayLaws.{opened_keeps}
use Rattle.users_alone.specs.UsersAlone.{SaysUsers}
use Rattle.grist_hosting.proofs.HostLemmas.{port_failed}
use Rattle.grist_hosting.proofs.RunLemmas.{heard_hosted, hosting_told, none_hosted, start_hosted}
use Rattle.grist_hosting.proofs.hosting.host.Goals as goal

pub returns-in_default-clause-serve : goal.returns-in_default-clause-serve
returns-in_default-clause-serve g c =
    let none = c.without_history in
    hosting_told NoMemory none.result.status [] none.result.history none.ensures.status none.ensures.history
    (none_hosted (telling g.P.Conn.Source.left g.P.Conn.Sink.written g.P.Conn.Source.faults g.P.Conn.Sink.faults) (g.O.Sink.written c.args.out.now) (g.O.Sink.faults c.args.out.now) (g.K.Keeper.records c.args.keeper) (g.K.Keeper.records none.result.keeper) none.ensures.records (g.K.Keeper.failures c.args.keeper) (g.K.Keeper.failures none.result.keeper) (omega (arith, none.ensures.faults)) (map g.P.Port.state c.args.ports.now.items) (g.S.Source.left c.args.input.now))

pub returns-in_default-new-clause-serve : goal.returns-in_default-new-clause-serve
returns-in_default-new-clause-serve g c =
    let none = c.without_history-in_default-new in
    hosting_told NoMemory none.result.status [] none.result.history none.ensures.status none.ensures.history
    (none_hosted (telling g.P.Conn.Source.left g.P.Conn.Sink.written g.P.Conn.Source.faults g.P.Conn.Sink.faults) (g.O.Sink.written c.args.out.now) (g.O.Sink.faults c.args.out.now) (g.K.Keeper.records c.args.keeper) (g.K.Keeper.records none.result.keeper) none.ensures.records (g.K.Keeper.failures c.args.keeper) (g.K.Keeper.failures none.result.keeper) (omega (arith, none.ensures.faults)) (map g.P.Port.state c.args.ports.now.items) (g.S.Source.left c.args.input.now))

pub returns-in_default-with_capacity-clause-serve : goal.returns-in_default-with_capacity-clause-serve
returns-in_default-with_capacity-clause-serve g c =
    let none = c.without_history-in_default-with_capacity in
    hosting_told NoMemory none.result.status [] none.result.history none.ensures.status none.ensures.history
    (none_hosted (telling g.P.Conn.Source.left g.P.Conn.Sink.written g.P.Conn.Source.faults g.P.Conn.Sink.faults) (g.O.Sink.written c.args.out.now) (g.O.Sink.faults c.args.out.now) (g.K.Keeper.records c.args.keeper) (g.K.Keeper.records none.result.keeper) none.ensures.records (g.K.Keeper.failures c.args.keeper) (g.K.Keeper.failures none.result.keeper) (omega (arith, none.ensures.faults)) (map g.P.Port.state c.args.ports.now.items) (g.S.Source.left c.args.input.now))

pub returns-in-Err-clause-serve : goal.returns-in-Err-clause-serve
returns-in-Err-clause-serve g c =
    let none = c.without_history-in-Err in
    hosting_told c.in-Err.status none.result.status [] none.result.history none.ensures.status none.ensures.history
    (heard_hosted (telling g.P.Conn.Source.left g.P.Conn.Sink.written g.P.Conn.Source.faults g.P.Conn.Sink.faults) (g.O.Sink.written c.args.out.now) (g.O.Sink.faults c.args.out.now) (g.K.Keeper.records c.args.keeper) (g.K.Keeper.records none.result.keeper) none.ensures.records (g.K.Keeper.failures c.args.keeper) (g.K.Keeper.failures none.result.keeper) (omega (arith, none.ensures.faults)) (map g.P.Port.state c.args.ports.now.items) (g.S.Source.left c.args.input.now) (g.S.Source.left c.read_users_alone.new.input) c.in-Err.status c.in-Err.ensures.hears)

pub returns-in-Ok-start_watched-clause-serve : goal.returns-in-Ok-start_watched-clause-serve
returns-in-Ok-start_watched-clause-serve g c =
    let core = c.in-Ok-start_watched.watched.core in
    let started = c.in-Ok-start_watched.ensures.ok in
    let l = g.S.Source.left c.args.input.now in
    let m = g.S.Source.left c.read_users_alone.new.input in
    let says = subst (λ us. SaysUsers l m us) (sym started.users) c.in-Ok-read_users_alone.ensures.hears in
    let r = c.host_from in
    record {
      users = core.state.users;
      start = core.state.start;
      hosts = r.ensures.hosts.hosts l m says;
      keeper = opened_keeps core c.in-Ok-read_users_alone.users (g.K.Keeper.records c.args.keeper) (g.K.Keeper.failures c.args.keeper) started r.result.status r.result.history (g.K.Keeper.records r.result.keeper) (g.K.Keeper.failures r.result.keeper) r.ensures.hosts.keeper;
    }

pub returns-in-Ok-start_watched-clause-port_fault : goal.returns-in-Ok-start_watched-clause-port_fault
returns-in-Ok-start_watched-clause-port_fault g c is =
    let core = c.in-Ok-start_watched.watched.core in
    let started = c.in-Ok-start_watched.ensures.ok in
    let l = g.S.Source.left c.args.input.now in
    let m = g.S.Source.left c.read_users_alone.new.input in
    let says = subst (λ us. SaysUsers l m us) (sym started.users) c.in-Ok-read_users_alone.ensures.hears in
    let r = c.host_from in
    port_failed (telling g.P.Conn.Source.left g.P.Conn.Sink.written g.P.Conn.Source.faults g.P.Conn.Sink.faults) core.state.users core.state.start l m r.result.history (map g.P.Port.state c.args.ports.now.items) (map g.P.Port.state r.new.ports.items) (g.O.Sink.written c.args.out.now) (g.O.Sink.written r.new.out) (g.O.Sink.faults c.args.out.now) (g.O.Sink.faults r.new.out) r.result.status (r.ensures.hosts.hosts l m says) is

pub returns-clause-serve : goal.returns-clause-serve
returns-clause-serve g c =
    let none = c.without_history-in-Err-start_watched in
    let fault = c.in-Err-start_watched.ensures in
    let cause = c.in-Err-start_watched.field-0.cause in
    hosting_told (start_status cause) none.result.status [] none.result.history (none.ensures.status ∙ c.start_status.ensures) none.ensures.history
    (start_hosted (telling g.P.Conn.Source.left g.P.Conn.Sink.written g.P.Conn.Source.faults g.P.Conn.Sink.faults) (g.O.Sink.written c.args.out.now) (g.O.Sink.faults c.args.out.now) (g.K.Keeper.records c.args.keeper) (g.K.Keeper.records none.result.keeper) (none.ensures.records ∙ fault.same) (g.K.Keeper.failures c.args.keeper) (g.K.Keeper.failures none.result.keeper) (omega (arith, none.ensures.faults, fault.later)) (map g.P.Port.state c.args.ports.now.items) (g.S.Source.left c.args.input.now) (g.S.Source.left c.read_users_alone.new.input) c.in-Ok-read_users_alone.users c.in-Ok-read_users_alone.ensures.hears cause (λ is. rw none.ensures.faults (fault.fault is)))
