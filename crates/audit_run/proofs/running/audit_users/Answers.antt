use Rattle.std.proofs.Common.{◌∙◌, refl, subst, arith, string_bytes}
use Rattle.io_edges.proofs.SendingLemmas.{appends_none}
use Rattle.grist_run.specs.declared.status.Status.TheVariants.{NoMemory}
use Rattle.grist_run.specs.Starting.{start_status}
use Rattle.audit_run.specs.AuditRuns.{TellsAudits, TellsText}
use Rattle.audit_run.proofs.RunLemmas.{audit_told, sent, stopped, unopened}
use Rattle.audit_run.proofs.running.audit_users.Goals as goal

pub returns-in_default-clause-audit : goal.returns-in_default-clause-audit
returns-in_default-clause-audit g c =
    let none = c.without_history in
    audit_told NoMemory none.result.status none.result.history none.ensures.status none.ensures.history none.ensures.records (omega (arith, none.ensures.faults)) (appends_none (g.O.Sink.written c.args.out.now))

pub returns-in_default-new-clause-audit : goal.returns-in_default-new-clause-audit
returns-in_default-new-clause-audit g c =
    let none = c.without_history-in_default-new in
    audit_told NoMemory none.result.status none.result.history none.ensures.status none.ensures.history none.ensures.records (omega (arith, none.ensures.faults)) (appends_none (g.O.Sink.written c.args.out.now))

pub returns-in-Err-clause-audit : goal.returns-in-Err-clause-audit
returns-in-Err-clause-audit g c =
    let none = c.without_history-in-Err in
    audit_told c.in-Err.status none.result.status none.result.history none.ensures.status none.ensures.history none.ensures.records (omega (arith, none.ensures.faults))
    (stopped (g.S.Source.left c.args.input.now) (g.S.Source.left c.read_users_alone.new.input) (g.O.Sink.written c.args.out.now) (g.K.Keeper.records c.args.keeper) c.in-Err.status c.in-Err.ensures.hears)

pub returns-in-Ok-lines_told-clause-audit : goal.returns-in-Ok-lines_told-clause-audit
returns-in-Ok-lines_told-clause-audit g c =
    let told = c.tell in
    let records = g.K.Keeper.records c.args.keeper in
    let text = string_bytes c.in-Ok-lines_told.text in
    let tells : TellsAudits records c.in-Ok-read_users_alone.users text = subst (λ us. TellsAudits records us text) c.as_slice.ensures c.in-Ok-lines_told.ensures.ok in
    audit_told told.result.status told.result.status told.result.history refl told.ensures.history (told.ensures.records ∙ c.lines_told.ensures.same) (omega (arith, told.ensures.faults, c.lines_told.ensures.later))
    (sent (g.S.Source.left c.args.input.now) (g.S.Source.left c.read_users_alone.new.input) (g.O.Sink.written c.args.out.now) records (g.O.Sink.written told.new.out)
    c.in-Ok-read_users_alone.users c.in-Ok-read_users_alone.ensures.hears text tells told.result.status (subst (λ b. TellsText told.result.status b (g.O.Sink.written c.args.out.now) (g.O.Sink.written told.new.out)) c.as_str.ensures.value told.ensures.told))

pub returns-clause-audit : goal.returns-clause-audit
returns-clause-audit g c =
    let none = c.without_history-in-Err-lines_told in
    let cause = c.in-Err-lines_told.cause in
    audit_told (start_status cause) none.result.status none.result.history (none.ensures.status ∙ c.start_status.ensures) none.ensures.history (none.ensures.records ∙ c.lines_told.ensures.same) (omega (arith, none.ensures.faults, c.lines_told.ensures.later))
    (unopened (g.S.Source.left c.args.input.now) (g.S.Source.left c.read_users_alone.new.input) (g.O.Sink.written c.args.out.now) (g.K.Keeper.records c.args.keeper) c.in-Ok-read_users_alone.users c.in-Ok-read_users_alone.ensures.hears cause)
