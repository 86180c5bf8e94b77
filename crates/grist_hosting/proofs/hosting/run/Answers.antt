use Rattle.std.proofs.Common.{rules, ◌≡◌, ◌∙◌, true, false, [], Some, None, sym, subst, map, refl, string_bytes, vec_len, arith}
use Rattle.grist_lanes.specs.Services.{telling}
use Rattle.run_words.specs.Words.{is_audit, is_replay, lanes_of, plan_of, rows_of}
use Rattle.grist_run.specs.declared.status.Status.TheVariants.{Usage}
use Rattle.grist_run.specs.Generated.{IsGenerated}
use Rattle.grist_run.proofs.ReplayLaws.{replays_told, usage_replays}
use Rattle.grist_hosting.specs.Hosting.{asks_lanes, is_done_over, is_serve}
use Rattle.grist_hosting.proofs.RunLemmas.{audit_done, generated_done, generated_no_audit, generated_no_replay, generates_none, hosting_told, not_both, not_done, replay_done, replay_no_audit, replay_no_rows, same_rows, serve_done, serve_no_audit, serve_no_rows, usage_hosted}
use Rattle.grist_hosting.proofs.hosting.run.Goals as goal

pub returns-then-asks_for_replay-clause-usage : goal.returns-then-asks_for_replay-clause-usage
returns-then-asks_for_replay-clause-usage g c =
    let asked : is_replay (plan_of (map string_bytes c.args.words.now)) ≡ true = search rules in
    let n = vec_len c.args.ports.now in
    ((λ u. absurd (c.run_alone.ensures.usage u)), (λ e. not_both (is_done_over n (plan_of (map string_bytes c.args.words.now))) (replay_done n (plan_of (map string_bytes c.args.words.now)) asked).0 e))

pub returns-then-asks_for_replay-clause-serve : goal.returns-then-asks_for_replay-clause-serve
returns-then-asks_for_replay-clause-serve g c e =
    let asked : is_replay (plan_of (map string_bytes c.args.words.now)) ≡ true = search rules in
    not_both (is_serve (plan_of (map string_bytes c.args.words.now))) e (replay_done (vec_len c.args.ports.now) (plan_of (map string_bytes c.args.words.now)) asked).1

pub returns-then-asks_for_replay-clause-generated : goal.returns-then-asks_for_replay-clause-generated
returns-then-asks_for_replay-clause-generated g c rows e =
    let asked : is_replay (plan_of (map string_bytes c.args.words.now)) ≡ true = search rules in
    replay_no_rows (plan_of (map string_bytes c.args.words.now)) rows asked e

pub returns-in-Some-clause-usage : goal.returns-in-Some-clause-usage
returns-in-Some-clause-usage g c =
    let plan = plan_of (map string_bytes c.args.words.now) in
    let is : rows_of plan ≡ Some c.in-Some.rows = sym c.rows_asked.ensures.rows ∙ c.in-Some.is in
    let n = vec_len c.args.ports.now in
    ((λ u. absurd (generates_none c.generate.result.status _ _ _ _ _ _ c.generate.ensures.generated.generates u)), (λ e. not_both (is_done_over n plan) (generated_done n plan c.in-Some.rows is).0 e))

pub returns-in-Some-clause-replay : goal.returns-in-Some-clause-replay
returns-in-Some-clause-replay g c e none apart =
    let plan = plan_of (map string_bytes c.args.words.now) in
    let is : rows_of plan ≡ Some c.in-Some.rows = sym c.rows_asked.ensures.rows ∙ c.in-Some.is in
    generated_no_replay plan c.in-Some.rows is none

pub returns-in-Some-clause-generated : goal.returns-in-Some-clause-generated
returns-in-Some-clause-generated g c rows e =
    let plan = plan_of (map string_bytes c.args.words.now) in
    let is : rows_of plan ≡ Some c.in-Some.rows = sym c.rows_asked.ensures.rows ∙ c.in-Some.is in
    (subst (λ n. IsGenerated n c.generate.result.status c.generate.result.history (g.O.Sink.written c.args.out.now) (g.O.Sink.written c.generate.new.out) (g.K.Keeper.records c.args.keeper) (g.K.Keeper.records c.generate.result.keeper) (g.K.Keeper.failures c.args.keeper) (g.K.Keeper.failures c.generate.result.keeper)) (same_rows plan c.in-Some.rows rows is e) c.generate.ensures.generated, refl, refl)

pub returns-in-Some-clause-serve : goal.returns-in-Some-clause-serve
returns-in-Some-clause-serve g c e =
    let plan = plan_of (map string_bytes c.args.words.now) in
    let is : rows_of plan ≡ Some c.in-Some.rows = sym c.rows_asked.ensures.rows ∙ c.in-Some.is in
    not_both (is_serve plan) e (generated_done (vec_len c.args.ports.now) plan c.in-Some.rows is).1

pub returns-then-asks_for_lanes-clause-generated : goal.returns-then-asks_for_lanes-clause-generated
returns-then-asks_for_lanes-clause-generated g c rows e =
    let n = vec_len c.args.ports.now in
    let asked : asks_lanes n (lanes_of (plan_of (map string_bytes c.args.words.now))) ≡ true = search rules in
    serve_no_rows n (plan_of (map string_bytes c.args.words.now)) rows asked e

pub returns-else-asks_for_lanes-clause-generated : goal.returns-else-asks_for_lanes-clause-generated
returns-else-asks_for_lanes-clause-generated g c rows e =
    let plan = plan_of (map string_bytes c.args.words.now) in
    let none : rows_of plan ≡ None = search rules in
    generated_no_replay plan rows e none

pub returns-then-asks_for_lanes-clause-usage : goal.returns-then-asks_for_lanes-clause-usage
returns-then-asks_for_lanes-clause-usage g c =
    let n = vec_len c.args.ports.now in
    let asked : asks_lanes n (lanes_of (plan_of (map string_bytes c.args.words.now))) ≡ true = search rules in
    ((λ u. absurd (c.host.ensures.usage u)), (λ e. not_both (is_done_over n (plan_of (map string_bytes c.args.words.now))) (serve_done n (plan_of (map string_bytes c.args.words.now)) asked).0 e))

pub returns-then-asks_for_lanes-clause-replay : goal.returns-then-asks_for_lanes-clause-replay
returns-then-asks_for_lanes-clause-replay g c e none apart =
    let n = vec_len c.args.ports.now in
    let asked : asks_lanes n (lanes_of (plan_of (map string_bytes c.args.words.now))) ≡ true = search rules in
    not_both (is_serve (plan_of (map string_bytes c.args.words.now))) (serve_done n (plan_of (map string_bytes c.args.words.now)) asked).1 e

pub returns-else-asks_for_lanes-clause-usage : goal.returns-else-asks_for_lanes-clause-usage
returns-else-asks_for_lanes-clause-usage g c =
    let n = vec_len c.args.ports.now in
    let none : is_replay (plan_of (map string_bytes c.args.words.now)) ≡ false = search rules in
    let other : asks_lanes n (lanes_of (plan_of (map string_bytes c.args.words.now))) ≡ false = search rules in
    let rows : rows_of (plan_of (map string_bytes c.args.words.now)) ≡ None = search rules in
    let apart : is_audit (plan_of (map string_bytes c.args.words.now)) ≡ false = search rules in
    ((λ u. not_done n (plan_of (map string_bytes c.args.words.now)) none rows apart other), (λ e. c.without_history.ensures.status))

pub returns-else-asks_for_lanes-clause-replay : goal.returns-else-asks_for_lanes-clause-replay
returns-else-asks_for_lanes-clause-replay g c e rows apart =
    let none = c.without_history in (
      replays_told Usage none.result.status [] none.result.history (g.K.Keeper.records none.result.keeper) (g.K.Keeper.failures none.result.keeper) none.ensures.status none.ensures.history
          (usage_replays (g.S.Source.left c.args.input.now) (g.O.Sink.written c.args.out.now) (g.K.Keeper.records c.args.keeper) (g.K.Keeper.records none.result.keeper) none.ensures.records (g.K.Keeper.failures c.args.keeper) (g.K.Keeper.failures none.result.keeper) (omega (arith, none.ensures.faults))),
      refl,
    )

pub returns-else-asks_for_lanes-clause-serve : goal.returns-else-asks_for_lanes-clause-serve
returns-else-asks_for_lanes-clause-serve g c e =
    let none = c.without_history in
    hosting_told Usage none.result.status [] none.result.history none.ensures.status none.ensures.history
    (usage_hosted (telling g.P.Conn.Source.left g.P.Conn.Sink.written g.P.Conn.Source.faults g.P.Conn.Sink.faults) (g.O.Sink.written c.args.out.now) (g.O.Sink.faults c.args.out.now) (g.K.Keeper.records c.args.keeper) (g.K.Keeper.records none.result.keeper) none.ensures.records (g.K.Keeper.failures c.args.keeper) (g.K.Keeper.failures none.result.keeper) (omega (arith, none.ensures.faults)) (map g.P.Port.state c.args.ports.now.items) (g.S.Source.left c.args.input.now))

-- ---- audits

pub returns-then-asks_for_replay-clause-audit : goal.returns-then-asks_for_replay-clause-audit
returns-then-asks_for_replay-clause-audit g c e =
    let asked : is_replay (plan_of (map string_bytes c.args.words.now)) ≡ true = search rules in
    not_both (is_audit (plan_of (map string_bytes c.args.words.now))) e (replay_no_audit (plan_of (map string_bytes c.args.words.now)) asked)

pub returns-in-Some-clause-audit : goal.returns-in-Some-clause-audit
returns-in-Some-clause-audit g c e =
    let plan = plan_of (map string_bytes c.args.words.now) in
    let is : rows_of plan ≡ Some c.in-Some.rows = sym c.rows_asked.ensures.rows ∙ c.in-Some.is in
    not_both (is_audit plan) e (generated_no_audit plan c.in-Some.rows is)

pub returns-then-asks_for_audit-clause-usage : goal.returns-then-asks_for_audit-clause-usage
returns-then-asks_for_audit-clause-usage g c =
    let asked : is_audit (plan_of (map string_bytes c.args.words.now)) ≡ true = search rules in
    let n = vec_len c.args.ports.now in
    ((λ u. absurd (c.audit_users.ensures.usage u)), (λ e. not_both (is_done_over n (plan_of (map string_bytes c.args.words.now))) (audit_done n (plan_of (map string_bytes c.args.words.now)) asked).0 e))

pub returns-then-asks_for_audit-clause-replay : goal.returns-then-asks_for_audit-clause-replay
returns-then-asks_for_audit-clause-replay g c e none apart =
    let asked : is_audit (plan_of (map string_bytes c.args.words.now)) ≡ true = search rules in
    not_both (is_audit (plan_of (map string_bytes c.args.words.now))) asked apart

pub returns-then-asks_for_audit-clause-generated : goal.returns-then-asks_for_audit-clause-generated
returns-then-asks_for_audit-clause-generated g c rows e =
    let asked : is_audit (plan_of (map string_bytes c.args.words.now)) ≡ true = search rules in
    let n = vec_len c.args.ports.now in
    generated_no_replay (plan_of (map string_bytes c.args.words.now)) rows e (audit_done n (plan_of (map string_bytes c.args.words.now)) asked).2

pub returns-then-asks_for_audit-clause-serve : goal.returns-then-asks_for_audit-clause-serve
returns-then-asks_for_audit-clause-serve g c e =
    let asked : is_audit (plan_of (map string_bytes c.args.words.now)) ≡ true = search rules in
    let n = vec_len c.args.ports.now in
    not_both (is_serve (plan_of (map string_bytes c.args.words.now))) e (audit_done n (plan_of (map string_bytes c.args.words.now)) asked).1

pub returns-then-asks_for_lanes-clause-audit : goal.returns-then-asks_for_lanes-clause-audit
returns-then-asks_for_lanes-clause-audit g c e =
    let n = vec_len c.args.ports.now in
    let asked : asks_lanes n (lanes_of (plan_of (map string_bytes c.args.words.now))) ≡ true = search rules in
    not_both (is_audit (plan_of (map string_bytes c.args.words.now))) e (serve_no_audit n (plan_of (map string_bytes c.args.words.now)) asked)

pub returns-else-asks_for_lanes-clause-audit : goal.returns-else-asks_for_lanes-clause-audit
returns-else-asks_for_lanes-clause-audit g c e =
    let apart : is_audit (plan_of (map string_bytes c.args.words.now)) ≡ false = search rules in
    not_both (is_audit (plan_of (map string_bytes c.args.words.now))) e apart
