use Rattle.std.proofs.Common.{List, ◌++◌, map, take}
use Rattle.dep_graph.specs.Names.{IsGrown}
use Rattle.dep_graph.specs.Sources.{AreNumbers, Source, source_of_key}
use Rattle.dep_graph.proofs.noting.push_keys.Given as goal

-- what was passed is numbered
abbrev pub invariant-loop-key : goal.invariant-loop-key
invariant-loop-key l =
    ((done : List Source) → AreNumbers l.initial.names done l.initial.reads.items → AreNumbers l.names (done ++ map (source_of_key l.table) (take l.key-index l.keys)) l.reads.items)
    × IsGrown l.initial.names l.names
