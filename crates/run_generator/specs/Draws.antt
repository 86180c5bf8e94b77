-- The numbers that a script is made of.
use Rattle.std.specs.Prelude.{ℕ, zero, suc, ◌+◌, ◌*◌, ◌%◌}

-- the number that is drawn behind x
abbrev pub drawn_after : ℕ → ℕ
drawn_after x = (1103515245 * x + 12345) % 2147483648

-- the k-th number drawn from n; the 0-th is n itself
abbrev pub drawn : ℕ → ℕ → ℕ
drawn n zero = n
drawn n (suc k) = drawn_after (drawn n k)
