use Rattle.std.proofs.Common.{false, map}
use Rattle.std.specs.List.{flat_map}
use Rattle.action_censor.specs.Step.{step_of}
use Rattle.shot_changes.specs.NotedCells.{step_cells}
use Rattle.shot_changes.proofs.AddsLemmas.{adds_alone}
use Rattle.shot_changes.proofs.LeadLemmas.{lead_through, tell_gone}
use Rattle.shot_changes.proofs.bundles.changes_of_rows.Goals as goal

pub returns-clause-lead : goal.returns-clause-lead
returns-clause-lead g c =
    let d = g.E.DocReader.document c.args.evaluated.now in
    let ks = map step_of c.args.steps.now in
    let none = c.no_changes-changes in
    lead_through c.trace_law.ensures ks d c.note_steps.new.changes c.requires.records
    (adds_alone d false (flat_map (step_cells d) ks) none.result c.note_steps.new.changes none.ensures.anew none.ensures.cells none.ensures.values none.ensures.gone c.in_ok-note_steps.ensures)

pub returns-clause-gone : goal.returns-clause-gone
returns-clause-gone g c =
    let d = g.E.DocReader.document c.args.evaluated.now in
    let ks = map step_of c.args.steps.now in
    let none = c.no_changes-changes in
    tell_gone c.trace_law.ensures ks d c.note_steps.new.changes c.requires.records
    (adds_alone d false (flat_map (step_cells d) ks) none.result c.note_steps.new.changes none.ensures.anew none.ensures.cells none.ensures.values none.ensures.gone c.in_ok-note_steps.ensures)
