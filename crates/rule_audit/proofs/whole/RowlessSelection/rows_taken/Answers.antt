use Rattle.std.proofs.Common.{sym, ◌∙◌}
use Rattle.rule_audit.proofs.RowlessLemmas.{none_kept}
use Rattle.rule_audit.proofs.whole.RowlessSelection.rows_taken.Goals as goal

pub returns : goal.returns
returns c = c.new.ensures.items ∙ sym (none_kept c.args._rows.now)
