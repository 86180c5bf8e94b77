-- Replies that show nothing of a view.
use Rattle.std.specs.Prelude.{ℕ, List}
use Rattle.grist_json.specs.Lines.{reply_text}
use Rattle.bundle_judge.specs.BareVerdicts.{verdict_of}
use Rattle.bundle_judge.specs.declared.bare_verdict.BareVerdict.{BareVerdict}

-- the reply with this verdict
abbrev pub reply_of : BareVerdict → List ℕ
reply_of v = reply_text (verdict_of v)
