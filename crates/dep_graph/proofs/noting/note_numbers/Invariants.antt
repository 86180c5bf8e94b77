use Rattle.std.proofs.Common.{take}
use Rattle.dep_graph.specs.Names.{IsGrown}
use Rattle.dep_graph.specs.Sources.{AreNumbers, sources}
use Rattle.dep_graph.proofs.noting.note_numbers.Given as goal

-- what was passed is numbered
abbrev pub invariant-loop-note : goal.invariant-loop-note
invariant-loop-note l = AreNumbers l.names (sources (take l.note-index l.notes)) l.reads.items × IsGrown l.initial.names l.names
