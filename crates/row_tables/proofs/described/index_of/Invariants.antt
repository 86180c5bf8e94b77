use Rattle.std.proofs.Common.{◌≡◌, ◌+◌, drop}
use Rattle.row_tables.specs.Spots.{described_index}
use Rattle.row_tables.proofs.described.index_of.Given as goal

-- the index is behind those that were passed
abbrev pub invariant-loop-index : goal.invariant-loop-index
invariant-loop-index l = described_index l.row l.sorted ≡ l.index + described_index l.row (drop l.index l.sorted)
