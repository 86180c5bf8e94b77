use Rattle.std.proofs.Common.{◌≡◌}
use Rattle.lookup_index.specs.Buckets.{text_bucket}
use Rattle.lookup_index.proofs.bucket.text_bucket.Given as goal

abbrev pub invariant-loop-byte : goal.invariant-loop-byte
invariant-loop-byte l = text_bucket l.bucket l.byte-iterator.rest.now ≡ text_bucket 0 l.fn.text
