use Rattle.std.proofs.Common.{◌<◌, length, arith, sym, subst, ◌∙◌}
use Rattle.bundle_core.specs.SessionState.{SessionState, IsPrepared}
use Rattle.bundle_core.proofs.Prepared.{prepared_one, prepares_one}
use Rattle.bundle_core.proofs.turns.prepare_all.Goals as goal

pub returns-in_err-prepare-clause-same : goal.returns-in_err-prepare-clause-same
returns-in_err-prepare-clause-same c =
    let within : c.loop-session.session-index < length c.loop-session.sessions = omega (arith, c.loop-session-test.true, c.loop-session.auto.sessions) in
    let P : SessionState → Type 0 = λ x. IsPrepared x c.prepare.new.self in
    prepared_one _ _ _ _ c.session-item.result c.prepare.new.self c.loop-session.invariant within c.session-item.is (subst P (sym c.session-item.is) c.in_err-prepare.ensures.prepared)

pub loop-session-preserved : goal.loop-session-preserved
loop-session-preserved c =
    let within : c.loop-session.session-index < length c.loop-session.sessions = omega (arith, c.loop-session-test.true, c.loop-session.auto.sessions) in
    let P : SessionState → Type 0 = λ x. IsPrepared x c.prepare.new.self in
    prepares_one _ _ _ _ c.session-item.result c.prepare.new.self c.loop-session.invariant within c.session-item.is (subst P (sym c.session-item.is) c.in_ok-prepare.ensures.prepared) (c.in_ok-prepare.ensures.ok c.args.told.now (c.as_slice.ensures.value ∙ c.in_ok-fronts.ensures))
