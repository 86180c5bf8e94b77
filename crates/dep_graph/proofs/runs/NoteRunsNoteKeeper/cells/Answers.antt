use Rattle.std.proofs.Common.{◌++◌, ap, ◌∙◌}
use Rattle.dep_graph.specs.declared.runs.NoteRun.{NoteRun}
use Rattle.dep_graph.specs.Runs.{notes_in, notes_of}
use Rattle.dep_graph.proofs.RunLaws.{notes_push, notes_together}
use Rattle.dep_graph.proofs.runs.NoteRunsNoteKeeper.cells.Goals as goal

pub returns : goal.returns
returns c =
    let run : NoteRun = record { note = c.in_ok-note.note; more = c.in_ok-more.more } in
    ap notes_in c.in_ok-push.ensures.items ∙ notes_push c.self.inside.runs.items run ∙ ap (λ l. l ++ notes_of run) c.self.view_is
    ∙ ap (λ l. c.args.self.now ++ l)
    (notes_together run c.args.table.now c.args.column.now c.in-Some.first.now c.in-Some.others.now c.args.rows.now c.in_ok-note.ensures c.in_ok-more.ensures.items c.in-Some.ensures.cases.0)
