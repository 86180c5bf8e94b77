use Rattle.std.proofs.Common.{sym, ◌∙◌}
use Rattle.censored_view.proofs.ViewLemmas.{all_pass}
use Rattle.bundle_core.proofs.ruled_document.AskedSelection.rows_taken.Goals as goal

pub returns : goal.returns
returns c = c.in_ok-all.ensures.items ∙ sym (all_pass c.args.rows.now)
