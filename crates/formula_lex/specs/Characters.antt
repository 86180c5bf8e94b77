-- What single characters are: 36 is `$`, 39 and 34 are the quotes, 48 is `0`, 92 is the backslash.
use Rattle.std.specs.Prelude.{ℕ, Bool, ◌||◌, ◌&&◌, not, cond, nat_eq, nat_le, Option, Some, None}

-- space, tab, return and line feed part tokens
abbrev pub is_blank : ℕ → Bool
is_blank c = nat_eq c 32 || nat_eq c 9 || nat_eq c 13 || nat_eq c 10

-- a decimal digit
abbrev pub is_digit : ℕ → Bool
is_digit c = nat_le 48 c && nat_le c 57

-- what begins and ends a string
abbrev pub is_quote : ℕ → Bool
is_quote c = nat_eq c 39 || nat_eq c 34

-- the character that is meant by one behind a backslash
abbrev pub escaped : ℕ → Option ℕ
escaped c =
    cond (nat_eq c 92 || nat_eq c 39 || nat_eq c 34) (Some c)
    (cond (nat_eq c 110) (Some 10) (cond (nat_eq c 116) (Some 9) None))

-- a character that stands for itself in a string between the quotes: no line break
abbrev pub is_plain : ℕ → ℕ → Bool
is_plain quote c = not (nat_eq c quote || nat_eq c 92 || nat_eq c 10 || nat_eq c 13)
