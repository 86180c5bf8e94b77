use Rattle.std.proofs.Common.{◌≡◌, ◌++◌, drop}
use Rattle.evaluated_doc.specs.Touching.{reads_numbers}
use Rattle.evaluated_doc.proofs.touching.push_reads.Given as goal

-- the numbers so far, and those of the reads that are to come
abbrev pub invariant-loop-read : goal.invariant-loop-read
invariant-loop-read l =
    l.numbers.items ++ reads_numbers l.graph.names (drop l.read-index l.reads)
    ≡ l.fn.numbers.items ++ reads_numbers l.graph.names l.reads
