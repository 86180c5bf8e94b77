-- Verdicts that show nothing of a view.
use Rattle.doc_model.specs.declared.verdict.Verdict.{Verdict}
use Rattle.doc_model.specs.declared.verdict.Verdict.TheVariants as verdict
use Rattle.bundle_judge.specs.declared.bare_verdict.BareVerdict.{BareVerdict}
use Rattle.bundle_judge.specs.declared.bare_verdict.BareVerdict.TheVariants as bare

-- as it is written: there is none that tells changes
abbrev pub verdict_of : BareVerdict → Verdict
verdict_of bare.Done = verdict.Done
verdict_of (bare.Bundle number values) = verdict.Bundle number values
verdict_of (bare.Undone number) = verdict.Undone number
verdict_of (bare.Refused refusal index) = verdict.Refused refusal index
verdict_of (bare.Limited what bound index) = verdict.Limited what bound index
verdict_of (bare.Unresolved count) = verdict.Unresolved count
verdict_of (bare.Denied index rule) = verdict.Denied index rule
