use Rattle.std.proofs.Common.{◌≡◌, true, sym, subst}
use Rattle.doc_model.specs.Rows.{has}
use Rattle.affected_values.specs.Relaid.{IsMovedFrom}
use Rattle.evaluated_doc.proofs.MovedLemmas.{leads_from, reads_but, right_but}
use Rattle.evaluated_doc.proofs.SpentLemmas.{rows_affected, spent_within}
use Rattle.evaluated_doc.proofs.moving.refresh_moved.Goals as goal

pub lay_anew-requires-clause-ascending : goal.lay_anew-requires-clause-ascending
lay_anew-requires-clause-ascending g c = c.requires.moving.1.found.ascending

pub lay_anew-requires-clause-moved : goal.lay_anew-requires-clause-moved
lay_anew-requires-clause-moved g c = let is = c.requires.moving.1 in (c.requires.moving.0, is.moved, is.found.were, is.right.of_document)

pub refresh_recording-requires-clause-of_document : goal.refresh_recording-requires-clause-of_document
refresh_recording-requires-clause-of_document g c =
    let is = c.requires.moving.1 in
    (c.in_ok-aside.ensures.ok c.requires.moving.0 is.moved is.found.were is.right.of_document).of_document

pub refresh_recording-requires-clause-others : goal.refresh_recording-requires-clause-others
refresh_recording-requires-clause-others g c =
    let s = c.requires.moving.0 in
    let is = c.requires.moving.1 in
    right_but s (g.D.DocReader.document c.args.tables.now) c.args.table.now c.args.rows.now c.args.kept.now.items c.args.reads.now c.args.moved is c.right_laid_law.ensures c.lay_anew.new.kept.items c.in_ok-aside.aside c.push_row_cells.new.cells.items
    (c.in_ok-aside.ensures.ok s is.moved is.found.were is.right.of_document) c.in_ok-push_row_cells.ensures.stays c.in_ok-push_row_cells.ensures.alike

pub refresh_recording-requires-clause-reads : goal.refresh_recording-requires-clause-reads
refresh_recording-requires-clause-reads g c =
    let s = c.requires.moving.0 in
    let is = c.requires.moving.1 in
    reads_but s (g.D.DocReader.document c.args.tables.now) c.args.table.now c.args.rows.now c.args.kept.now.items c.args.reads.now c.args.moved is c.reads_over_law.ensures c.push_row_cells.new.cells.items
    c.in_ok-push_row_cells.ensures.stays c.in_ok-push_row_cells.ensures.alike

pub returns-in-Ok-clause-way : goal.returns-in-Ok-clause-way
returns-in-Ok-clause-way g c = λ s is.
    leads_from s (g.D.DocReader.document c.args.tables.now) c.args.table.now c.args.rows.now c.args.kept.now.items c.args.reads.now c.args.moved is c.leads_over_rows_law.ensures c.rows_stay_law.ensures c.lay_anew.new.kept.items c.refresh_recording.new.kept.items
    c.in_ok-aside.aside c.in-Ok.done.taken.items c.push_row_cells.new.cells.items c.in-Ok.done.before.were.items c.in-Ok.ensures.before c.in_ok-push_row_cells.ensures.alike (c.in_ok-aside.ensures.ok s is.moved is.found.were is.right.of_document) c.in-Ok.ensures.ok c.in-Ok.ensures.way

pub lay_back-requires : goal.lay_back-requires
lay_back-requires g c =
    let s = c.requires.moving.0 in
    let is = c.requires.moving.1 in
    let laid = c.in_ok-aside.ensures.ok s is.moved is.found.were is.right.of_document in
    record { moved = (s, subst (IsMovedFrom s (g.D.DocReader.document c.args.tables.now)) (sym laid.table) is.moved, laid.has_aside, c.refresh_recording.ensures.of_document) }

pub returns-clause-err : goal.returns-clause-err
returns-clause-err g c = λ s is.
    let now = g.D.DocReader.document c.args.tables.now in
    let laid = c.in_ok-aside.ensures.ok s is.moved is.found.were is.right.of_document in (
      c.rows_left_law.ensures s now c.args.table.now c.args.kept.now.items c.lay_anew.new.kept.items c.refresh_recording.new.kept.items c.lay_back.new.kept.items c.in_ok-aside.aside is.moved is.right laid c.in-Err.ensures.err
          (c.lay_back.ensures s (subst (IsMovedFrom s now) (sym laid.table) is.moved) laid.has_aside c.refresh_recording.ensures.of_document),
      c.in-Err.ensures.laid s is.reads,
    )

pub returns-in-Ok-clause-spent : goal.returns-in-Ok-clause-spent
returns-in-Ok-clause-spent g c = λ s is.
    spent_within s (g.D.DocReader.document c.args.tables.now) is.moved.action c.push_row_cells.new.cells.items c.args.steps.now c.refresh_recording.new.steps is.moved.ok is.moved.done
    (rows_affected s is.moved.action c.args.table.now c.args.moved.noted.items c.push_row_cells.new.cells.items is.moved.moved is.found.only c.in_ok-push_row_cells.ensures.only
    (λ d here other. subst (λ rs. has rs d.row ≡ true) (sym is.these) (c.in_ok-push_row_cells.ensures.rows d here other)))
    c.refresh_recording.ensures.named

pub returns-clause-spent : goal.returns-clause-spent
returns-clause-spent g c = λ s is.
    spent_within s (g.D.DocReader.document c.args.tables.now) is.moved.action c.push_row_cells.new.cells.items c.args.steps.now c.refresh_recording.new.steps is.moved.ok is.moved.done
    (rows_affected s is.moved.action c.args.table.now c.args.moved.noted.items c.push_row_cells.new.cells.items is.moved.moved is.found.only c.in_ok-push_row_cells.ensures.only
    (λ d here other. subst (λ rs. has rs d.row ≡ true) (sym is.these) (c.in_ok-push_row_cells.ensures.rows d here other)))
    c.refresh_recording.ensures.named
