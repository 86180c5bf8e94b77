use Rattle.std.proofs.Common.{◌∙◌, subst, arith}
use Rattle.bundle_core.specs.KeptCore.{IsStarted}
use Rattle.grist_run.proofs.GeneratedLaws.{empty_generated, opened_generated, unopened_generated}
use Rattle.grist_run.proofs.generating.generate.Goals as goal

pub returns-in_default-clause-generated : goal.returns-in_default-clause-generated
returns-in_default-clause-generated g c =
    let none = c.without_history in
    empty_generated c.args.rows (g.O.Sink.written c.args.out.now) (g.K.Keeper.records c.args.keeper) (g.K.Keeper.records none.result.keeper) (g.K.Keeper.failures c.args.keeper) (g.K.Keeper.failures none.result.keeper) none.result.status none.result.history
    none.ensures.records (omega (arith, none.ensures.faults)) none.ensures.status none.ensures.history

pub returns-in_default-with_capacity-clause-generated : goal.returns-in_default-with_capacity-clause-generated
returns-in_default-with_capacity-clause-generated g c =
    let none = c.without_history-in_default-with_capacity in
    empty_generated c.args.rows (g.O.Sink.written c.args.out.now) (g.K.Keeper.records c.args.keeper) (g.K.Keeper.records none.result.keeper) (g.K.Keeper.failures c.args.keeper) (g.K.Keeper.failures none.result.keeper) none.result.status none.result.history
    none.ensures.records (omega (arith, none.ensures.faults)) none.ensures.status none.ensures.history

pub returns-in_default-generated_users-clause-generated : goal.returns-in_default-generated_users-clause-generated
returns-in_default-generated_users-clause-generated g c =
    let none = c.without_history-in_default-generated_users in
    empty_generated c.args.rows (g.O.Sink.written c.args.out.now) (g.K.Keeper.records c.args.keeper) (g.K.Keeper.records none.result.keeper) (g.K.Keeper.failures c.args.keeper) (g.K.Keeper.failures none.result.keeper) none.result.status none.result.history
    none.ensures.records (omega (arith, none.ensures.faults)) none.ensures.status none.ensures.history

pub returns-in-Err-clause-generated : goal.returns-in-Err-clause-generated
returns-in-Err-clause-generated g c =
    let none = c.without_history-in-Err in
    let fault = c.in-Err.ensures in
    unopened_generated c.args.rows (g.O.Sink.written c.args.out.now) (g.K.Keeper.records c.args.keeper) (g.K.Keeper.records none.result.keeper) (g.K.Keeper.failures c.args.keeper) (g.K.Keeper.failures none.result.keeper) c.in-Err.field-0.cause none.result.status none.result.history
    (none.ensures.records ∙ fault.same) (omega (arith, none.ensures.faults, fault.later)) (λ is. rw none.ensures.faults (fault.fault is)) (none.ensures.status ∙ c.start_status.ensures) none.ensures.history

pub returns-in-Ok-start-clause-generated : goal.returns-in-Ok-start-clause-generated
returns-in-Ok-start-clause-generated g c =
    let core = c.in-Ok-start.core in
    let told = g.K.Keeper.records c.args.keeper in
    let before = g.K.Keeper.failures c.args.keeper in
    let r = c.generate_from in
    opened_generated core told before (subst (λ us. IsStarted us told before core) c.in-Ok-generated_users.ensures c.in-Ok-start.ensures.ok) c.args.rows r.result.status r.result.history (g.O.Sink.written c.args.out.now) (g.O.Sink.written r.new.out) (g.K.Keeper.records r.result.keeper) (g.K.Keeper.failures r.result.keeper)
    r.ensures.generates r.ensures.keeper
