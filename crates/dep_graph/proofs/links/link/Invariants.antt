use Rattle.std.proofs.Common.{take}
use Rattle.dep_graph.specs.Records.{IsJoined}
use Rattle.dep_graph.proofs.links.link.Given as goal

-- the cell is under what was passed
abbrev pub invariant-loop-index : goal.invariant-loop-index
invariant-loop-index l = IsJoined l.initial.readers l.readers (take l.index l.reads) l.cell
