use Rattle.std.proofs.Common.{sym}
use Rattle.doc_model.specs.Changes.{grid, shown_table_id}
use Rattle.doc_model.specs.ViewEdits.{IsShown}
use Rattle.doc_model.proofs.ByIdsLaws.{found_all}
use Rattle.plain_view.proofs.Revisions.{revised_found}
use Rattle.plain_view.proofs.view_changes.tell_revised.Goals as goal

pub tell_revision-requires-clause-before : goal.tell_revision-requires-clause-before
tell_revision-requires-clause-before c = found_all shown_table_id (λ t. IsShown (grid t)) c.args.table.now.id c.args.before.now c.in-Some.old.now c.requires.before (sym c.in-Some.ensures)

pub returns-in-Some : goal.returns-in-Some
returns-in-Some c =
    revised_found c.tell_revision.result c.args.actions.now.items c.tell_revision.new.actions.items c.args.before.now c.in-Some.old.now c.args.table.now
    (found_all shown_table_id (λ t. IsShown (grid t)) c.args.table.now.id c.args.before.now c.in-Some.old.now c.requires.before (sym c.in-Some.ensures)) c.requires.table c.in-Some.ensures c.tell_revision.ensures
