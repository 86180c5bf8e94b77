use Rattle.std.proofs.Common.{◌≡◌, take}
use Rattle.dep_graph.specs.declared.numbers.ReadNumber.{ReadNumber}
use Rattle.dep_graph.specs.Records.{holds}
use Rattle.dep_graph.proofs.records.set_of.Given as goal

-- the set has what was passed
abbrev pub invariant-loop-read : goal.invariant-loop-read
invariant-loop-read l = (q : ReadNumber) → holds l.set.keys q ≡ holds (take l.read-index l.reads) q
