use Rattle.std.proofs.Common.{◌≡◌, drop}
use Rattle.affected_search.specs.TouchedReads.{with_passing}
use Rattle.affected_search.specs.Touches.{tells}
use Rattle.affected_search.proofs.touched_reads.push_touched.Given as goal

-- the reads so far, and those that are to come
abbrev pub invariant-loop-read : goal.invariant-loop-read
invariant-loop-read l = with_passing (tells l.touches) l.found (drop l.read-index l.reads) ≡ with_passing (tells l.touches) l.initial.found l.reads
