use Rattle.agreeing_contexts.proofs.AgreementLemmas.{same_decision, same_reading}
use Rattle.agreeing_contexts.proofs.laws.agreement_law.Goals as goal

pub returns : goal.returns
returns c = record { reading = same_reading; decision = same_decision }
