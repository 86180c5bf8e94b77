use Rattle.std.proofs.Common.{◌∙◌}
use Rattle.plain_view.proofs.Revisions.{told_all}
use Rattle.plain_view.proofs.view_changes.changes.Goals as goal

pub returns : goal.returns
returns c =
    c.from.ensures
    ∙ told_all c.args.before.now.tables c.args.after.now.tables c.as_slice-old.result.now c.as_slice-new.result.now
    c.new-actions.result.items c.tell_removed_tables.new.actions.items c.tell_new_tables.new.actions.items c.tell_revised_tables.new.actions.items
    c.as_slice-old.ensures c.as_slice-new.ensures c.new-actions.ensures.items c.in_ok-tell_removed_tables.ensures c.in_ok-tell_new_tables.ensures c.in_ok-tell_revised_tables.ensures
