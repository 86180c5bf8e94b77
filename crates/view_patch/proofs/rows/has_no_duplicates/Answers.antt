use Rattle.std.proofs.Common.{sym, ◌∙◌}
use Rattle.view_patch.proofs.Spots.{once}
use Rattle.view_patch.proofs.rows.has_no_duplicates.Goals as goal

pub returns-then-is_ascending : goal.returns-then-is_ascending
returns-then-is_ascending c = c.if-is_ascending.true ∙ sym (once c.args.rows.now (c.is_ascending.ensures.0 c.if-is_ascending.true))
