-- A line as far as it is kept is too long where the line is, and else it is the line.
use Rattle.std.proofs.Common.{◌≡◌, ℕ, ◌<◌, ◌≤◌, List, length, nat_lt, true, false, arith}
use Rattle.io_edges.specs.Lines.{is_long, kept_of}
use Rattle.io_edges.proofs.LineLemmas.{kept_of-whole, length-kept_of}

test_true : (m n : ℕ) → m < n → nat_lt m n ≡ true
test_true m n h = grind arith

test_lt : (m n : ℕ) → nat_lt m n ≡ true → m < n
test_lt m n e = grind arith

test_le : (m n : ℕ) → nat_lt m n ≡ false → n ≤ m
test_le m n e = grind arith

pub kept_long : (text : List ℕ) → is_long text ≡ true → is_long (kept_of text) ≡ true
kept_long text e = test_true 1048576 (length (kept_of text)) (omega (arith, length-kept_of text, test_lt 1048576 (length text) e))

pub kept_short : (text : List ℕ) → is_long text ≡ false → kept_of text ≡ text
kept_short text e = kept_of-whole text (omega (arith, test_le 1048576 (length text) e))
