use Rattle.std.proofs.Common.{◌≡◌, ℕ, ◌+◌, ◌≤◌, List, ◌++◌, length, take, drop, sym, arith}
use Rattle.std.proofs.lemmas.Grind.{common_steps}
use Rattle.std.proofs.lemmas.List.{take_at, length-take-le, take-append-drop, drop-drop}
use Rattle.io_edges.proofs.memory_source.take_front.Goals as goal

-- the bytes that were copied to the front of the buffer, and the rest
moved : (bytes buf front : List ℕ) (at n : ℕ) → front ≡ take n (drop at bytes) → n ≤ length (drop at bytes) → drop at bytes ≡ take n (front ++ drop n buf) ++ drop (at + n) bytes
moved bytes buf front at n e h =
    rw (e, take_at (take n (drop at bytes)) (drop n buf) n (length-take-le n (drop at bytes) h), ← drop-drop n at bytes) (sym (take-append-drop n (drop at bytes)))

pub returns-clause-bytes : goal.returns-clause-bytes
returns-clause-bytes c = moved c.args.bytes.now c.args.buf.now c.copy_from_slice.new.self c.args.at.now c.min-count.result (grind (arith, common_steps)) (grind (arith, common_steps))
