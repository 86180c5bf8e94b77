use Rattle.std.proofs.Common.{take, subst}
use Rattle.dep_graph.specs.Sources.{AreNumbers, sources}
use Rattle.dep_graph.proofs.NameLaws.{grown_twice, sources_more}
use Rattle.dep_graph.proofs.noting.note_numbers.Goals as goal

pub loop-note-preserved : goal.loop-note-preserved
loop-note-preserved c =
    let i = c.loop-note.note-index in (
      subst (λ ss. AreNumbers c.push_note.new.names ss c.push_note.new.reads.items) (sources_more c.args.notes.now i c.note-item.result c.loop-note-test.true c.note-item.is)
          (c.in_ok-push_note.ensures.ok (sources (take i c.args.notes.now)) c.loop-note.invariant.0),
      grown_twice c.args.names.now c.loop-note.names c.push_note.new.names c.loop-note.invariant.1 c.push_note.ensures.grown,
    )
