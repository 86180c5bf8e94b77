use Rattle.std.proofs.Common.{◌++◌, ap, ◌∙◌}
use Rattle.dep_graph.specs.declared.runs.NoteRun.{NoteRun}
use Rattle.dep_graph.specs.Runs.{notes_in, notes_of}
use Rattle.dep_graph.proofs.RunLaws.{note_alone, notes_push}
use Rattle.dep_graph.proofs.runs.NoteRuns.push.Goals as goal

pub returns : goal.returns
returns c =
    let run : NoteRun = record { note = c.args.note; more = c.new-more.result } in
    ap notes_in c.in_ok-push.ensures.items ∙ notes_push c.self.inside.runs.items run ∙ ap (λ l. l ++ notes_of run) c.self.view_is
    ∙ ap (λ l. c.args.self.now ++ l) (note_alone run c.new-more.ensures.items)
