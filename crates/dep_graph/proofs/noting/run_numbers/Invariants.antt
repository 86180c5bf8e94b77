use Rattle.std.proofs.Common.{take}
use Rattle.dep_graph.specs.Names.{IsGrown}
use Rattle.dep_graph.specs.Runs.{notes_in}
use Rattle.dep_graph.specs.Sources.{AreNumbers, sources}
use Rattle.dep_graph.proofs.noting.run_numbers.Given as goal

-- what was passed is numbered
abbrev pub invariant-loop-run : goal.invariant-loop-run
invariant-loop-run l = AreNumbers l.names (sources (notes_in (take l.run-index l.runs))) l.reads.items × IsGrown l.initial.names l.names
