use Rattle.std.proofs.Common.{ap, ◌∙◌}
use Rattle.serde_json.specs.Written.{compact_text}
use Rattle.audit_run.proofs.LineLemmas.{no_float}
use Rattle.audit_run.proofs.lines.line_text.Goals as goal

pub returns : goal.returns
returns c = c.in_ok-to_string.ensures.text (rw c.in_ok-value.ensures (no_float c.args.token.now c.args.audit.now)) ∙ ap compact_text c.in_ok-value.ensures
