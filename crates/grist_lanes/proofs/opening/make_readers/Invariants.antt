use Rattle.std.proofs.Common.{◌≡◌, ◌≤◌, ◌∷◌, [], vec_len, vec_capacity}
use Rattle.std.specs.List.{AllByRecursion}
use Rattle.grist_lanes.proofs.opening.make_readers.Given as goal

-- so many readers were made, each told of the history that is published
abbrev pub invariant-loop-reader : goal.invariant-loop-reader
invariant-loop-reader g l = record {
  count : vec_len l.readers ≡ l._reader;
  room : l.count ≤ vec_capacity l.readers;
  each : AllByRecursion (λ r. r.known ≡ l.fn.core.writer.published ∷ []) l.readers.items;
  same : l.core ≡ l.fn.core;
}
