-- Division of whole numbers that rounds down, and what it leaves.
use Rattle.std.specs.Prelude.{◌≡◌, ℤ, pos, negsuc, ◌+ℤ◌, ◌*ℤ◌, ◌<ℤ◌, ◌≤ℤ◌, neg_ℤ, suc, ◌⊎◌}
use Rattle.std.specs.Int.{int_div_euclid, int_rem_euclid}

-- by a divisor of 1 or more, the quotient that leaves 0 or more; by a negative one, both signs are
-- turned first
abbrev pub floored_quotient : ℤ → ℤ → ℤ
floored_quotient a (pos d) = int_div_euclid a (pos d)
floored_quotient a (negsuc d) = int_div_euclid (neg_ℤ a) (pos (suc d))

-- what that quotient leaves; by a negative divisor, its sign is turned back
abbrev pub floored_remainder : ℤ → ℤ → ℤ
floored_remainder a (pos d) = int_rem_euclid a (pos d)
floored_remainder a (negsuc d) = neg_ℤ (int_rem_euclid (neg_ℤ a) (pos (suc d)))

-- on the other side of 0 than the divisor
abbrev pub LeansAway : ℤ → ℤ → Type 0
LeansAway r d = ((r <ℤ pos 0) × (pos 0 <ℤ d)) ⊎ ((pos 0 <ℤ r) × (d <ℤ pos 0))

-- from 0 on toward the divisor, and short of it
abbrev pub IsFrontOf : ℤ → ℤ → Type 0
IsFrontOf r d = ((pos 0 ≤ℤ r) × (r <ℤ d)) ⊎ ((d <ℤ r) × (r ≤ℤ pos 0))

-- quotient times divisor with the remainder is the dividend, and the remainder is 0 or has the
-- divisor's sign, and is nearer to 0
abbrev pub DivisionLaw : Type 0
DivisionLaw =
    (a b : ℤ) → (b ≡ pos 0 → ⊥)
    → (floored_quotient a b *ℤ b +ℤ floored_remainder a b ≡ a) × IsFrontOf (floored_remainder a b) b
