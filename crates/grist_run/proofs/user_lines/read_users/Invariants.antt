use Rattle.std.proofs.Common.{◌≤◌, ◌+◌, ◌*◌}
use Rattle.io_edges.specs.Reading.{work_left}
use Rattle.grist_run.specs.Hearing.{HeardSoFar}
use Rattle.grist_run.proofs.user_lines.read_users.Given as goal

-- all lines so far said these users; a line's number and what may still be read are bounded together
abbrev pub invariant-loop-number : goal.invariant-loop-number
invariant-loop-number g l = record {
  heard : HeardSoFar (g.S.Source.left l.fn.input) (g.S.Source.left l.input) l.users.items l.reader l.number;
  few : l.number + work_left l.reader ≤ 65537 * 4294967296 + 1;
  later : g.S.Source.faults l.fn.input ≤ g.S.Source.faults l.input;
}

abbrev pub decreases-loop-number : goal.decreases-loop-number
decreases-loop-number g l = work_left l.reader
