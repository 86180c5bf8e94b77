use Rattle.known_reads.proofs.KnownLemmas.{at_err}
use Rattle.evaluated_doc.proofs.SpentLemmas.{spent_within}
use Rattle.evaluated_doc.proofs.UpdateLemmas.{known_but, leads, places, restored, right}
use Rattle.evaluated_doc.proofs.updating.refresh_updated.Goals as goal

pub refresh_recording-requires-clause-of_document : goal.refresh_recording-requires-clause-of_document
refresh_recording-requires-clause-of_document g c =
    let u = c.requires.updating in
    (places u.0 (g.D.DocReader.document c.args.tables.now) u.1 u.2.ok u.2.update u.2.done c.args.kept.now.items).of_document u.2.right.of_document

pub refresh_recording-requires-clause-others : goal.refresh_recording-requires-clause-others
refresh_recording-requires-clause-others g c =
    let u = c.requires.updating in
    right u.0 (g.D.DocReader.document c.args.tables.now) u.1 u.2.ok u.2.update u.2.done c.args.reads.now.graph c.args.cells.items c.args.kept.now.items u.2.found u.2.right

pub refresh_recording-requires-clause-reads : goal.refresh_recording-requires-clause-reads
refresh_recording-requires-clause-reads g c =
    let u = c.requires.updating in
    known_but u.0 (g.D.DocReader.document c.args.tables.now) u.1 u.2.ok u.2.update u.2.done c.args.reads.now c.args.cells.items u.2.found u.2.reads

pub returns-clause-way : goal.returns-clause-way
returns-clause-way g c = λ s a is.
    leads s (g.D.DocReader.document c.args.tables.now) a is.ok is.update is.done c.leads_over_law.ensures c.args.reads.now c.args.cells.items c.in_ok-done.done.before.were.items c.in_ok-done.done.taken.items c.refresh_recording.new.kept.items c.args.kept.now.items
    c.in_ok-done.ensures.before is.reads is.right c.in_ok-done.ensures.ok c.in_ok-done.ensures.way

pub returns-in_err-done-clause-err : goal.returns-in_err-done-clause-err
returns-in_err-done-clause-err g c =
    at_err c.from_residual.result (λ s a is. (
      restored s (g.D.DocReader.document c.args.tables.now) a is.ok is.update is.done c.refresh_recording.new.kept.items c.args.kept.now.items is.right c.refresh_recording.ensures.of_document c.in_err-done.ensures.err,
      c.in_err-done.ensures.laid s is.reads,
    ))

pub returns-clause-spent : goal.returns-clause-spent
returns-clause-spent g c = λ s a is.
    spent_within s (g.D.DocReader.document c.args.tables.now) a c.args.cells.items c.args.steps.now c.refresh_recording.new.steps is.ok is.done is.only c.refresh_recording.ensures.named

pub returns-in_err-done-clause-spent : goal.returns-in_err-done-clause-spent
returns-in_err-done-clause-spent g c = λ s a is.
    spent_within s (g.D.DocReader.document c.args.tables.now) a c.args.cells.items c.args.steps.now c.refresh_recording.new.steps is.ok is.done is.only c.refresh_recording.ensures.named
