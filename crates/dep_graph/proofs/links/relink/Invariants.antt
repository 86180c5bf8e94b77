use Rattle.std.proofs.Common.{take}
use Rattle.dep_graph.specs.Readers.{KeepsBackable}
use Rattle.dep_graph.specs.Records.{IsJoined}
use Rattle.dep_graph.proofs.links.relink.Given as goal

-- the cell is under what was passed
abbrev pub invariant-loop-read : goal.invariant-loop-read
invariant-loop-read l = IsJoined l.initial.readers l.readers (take l.read-index l.reads) l.cell × KeepsBackable l.initial.readers l.readers l.cell
