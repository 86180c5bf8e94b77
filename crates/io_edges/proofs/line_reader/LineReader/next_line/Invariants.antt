use Rattle.std.proofs.Common.{◌≡◌, ◌≤◌, ◌-◌}
use Rattle.io_edges.proofs.ReadingLemmas.{Reading}
use Rattle.io_edges.proofs.line_reader.LineReader.next_line.Given as goal

abbrev pub invariant-loop-whole : goal.invariant-loop-whole
invariant-loop-whole g l = record {
  reading : Reading l.fn.self l.self (g.S.Source.left l.fn.source) (g.S.Source.left l.source);
  apart : g.S.Source.outgoing l.source ≡ g.S.Source.outgoing l.fn.source;
  later : g.S.Source.faults l.fn.source ≤ g.S.Source.faults l.source;
}

abbrev pub decreases-loop-whole : goal.decreases-loop-whole
decreases-loop-whole g l = 4294967296 - l.self.turns
