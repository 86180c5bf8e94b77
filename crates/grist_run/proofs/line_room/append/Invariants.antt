use Rattle.std.proofs.Common.{◌≡◌, ◌+◌, ◌++◌, take, vec_len, vec_capacity}
use Rattle.grist_run.proofs.line_room.append.Given as goal

abbrev pub invariant-loop-byte : goal.invariant-loop-byte
invariant-loop-byte l = record {
  items : l.line.items ≡ l.fn.line.items ++ take l.byte-index l.piece;
  len : vec_len l.line ≡ vec_len l.fn.line + l.byte-index;
  room : vec_capacity l.line ≡ vec_capacity l.fn.line;
}
