use Rattle.bundle_core.proofs.RefusalLemmas.{objection_law}
use Rattle.bundle_core.proofs.laws.refusal_law.Goals as goal

pub returns-clause-objection : goal.returns-clause-objection
returns-clause-objection c = objection_law

pub returns-clause-same : goal.returns-clause-same
returns-clause-same c = λ users users' st st' e e' actions shown why a b.
    let here = objection_law users st e actions shown why a in
    let there = objection_law users' st' e' actions shown why b in
    (λ h. there.1 (here.0 h), λ h. here.1 (there.0 h))
