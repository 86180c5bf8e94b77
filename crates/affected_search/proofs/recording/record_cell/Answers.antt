use Rattle.affected_search.proofs.RecordingLaws.{records_cell, records_notes}
use Rattle.affected_search.proofs.recording.record_cell.Goals as goal

pub returns-clause-ok : goal.returns-clause-ok
returns-clause-ok g c =
    records_cell _ c.args.at.now _ c.args.graph.now c.set.new.self c.args.cell.now c.in_ok-notes.notes c.requires.here c.in_ok-notes.ensures.notes c.in_ok-set.ensures.ok

pub returns-clause-noted : goal.returns-clause-noted
returns-clause-noted g c =
    records_notes _ c.args.at.now _ c.args.graph.now c.set.new.self c.args.cell.now c.in_ok-notes.notes c.requires.here c.in_ok-notes.ensures.notes c.in_ok-set.ensures.ok
