-- What `audit` asks for by the options that were found.
use Rattle.std.proofs.Common.{◌≡◌, ℕ, List, Option, Some, None, option_map}
use Rattle.run_words.specs.declared.option_words.AuditWords.{AuditWords}
use Rattle.run_words.specs.declared.option_words.Options.{Options}
use Rattle.run_words.specs.declared.plans.Plan.TheVariants.{Audit}
use Rattle.run_words.specs.Options.{Found}
use Rattle.run_words.specs.Words.{audit_with}

pub audit_as : (f : Found) → f.watch ≡ None → audit_with f ≡ Some (Audit f.doc)
audit_as f e = cc

pub not_audit : (f : Found) (name : List ℕ) → f.watch ≡ Some name → audit_with f ≡ None
not_audit f name e = cc
