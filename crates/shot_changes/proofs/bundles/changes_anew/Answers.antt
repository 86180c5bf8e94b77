use Rattle.std.proofs.Common.{true}
use Rattle.shot_changes.specs.NotedCells.{document_cells}
use Rattle.shot_changes.proofs.AddsLemmas.{adds_alone}
use Rattle.shot_changes.proofs.LeadLemmas.{lead_anew}
use Rattle.shot_changes.proofs.bundles.changes_anew.Goals as goal

pub returns-clause-lead : goal.returns-clause-lead
returns-clause-lead g c =
    let d = g.E.DocReader.document c.args.evaluated.now in
    let none = c.no_changes-changes in
    lead_anew d c.note_all.new.changes
    (adds_alone d true (document_cells d) none.result c.note_all.new.changes none.ensures.anew none.ensures.cells none.ensures.values none.ensures.gone c.in_ok-note_all.ensures)
