use Rattle.meta_schema.proofs.AgreementExact.{agrees_exactly}
use Rattle.meta_schema.proofs.WholeAgrees.{whole_agrees}
use Rattle.meta_schema.proofs.laws.agrees_law.Goals as goal

pub returns : goal.returns
returns c = λ s sound. (λ agrees. whole_agrees s (record { agrees = agrees; sound = sound }), λ h. agrees_exactly s sound h.0 h.1)
