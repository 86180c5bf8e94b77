use Rattle.std.proofs.Common.{take}
use Rattle.dep_graph.specs.Readers.{KeepsBackable}
use Rattle.dep_graph.specs.Records.{IsParted}
use Rattle.dep_graph.proofs.links.unlink.Given as goal

-- the cell is taken from under what was passed
abbrev pub invariant-loop-read : goal.invariant-loop-read
invariant-loop-read l = IsParted l.initial.readers l.readers (take l.read-index l.gone) l.kept.keys l.cell × KeepsBackable l.initial.readers l.readers l.cell
