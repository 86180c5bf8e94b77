-- Which texts say a whole number.
use Rattle.std.specs.Prelude.{ℕ, ℤ, pos, negsuc, Bool, ◌&&◌, List, length, drop, nat_le, nat_lt, Option, Some, None, if◌then◌else◌}
use Rattle.std.specs.List.{list_all}
use Rattle.std.specs.Str.Parse.{starts_with_minus, signed_digits_value}

-- 0 to 9
abbrev pub is_digit : ℕ → Bool
is_digit c = nat_le 48 c && nat_le c 57

-- the text without a minus before it
abbrev pub unsigned_part : List ℕ → List ℕ
unsigned_part text = if starts_with_minus text then drop 1 text else text

-- an optional minus, and 1 to 19 digits
unfoldable pub has_decimal_form : List ℕ → Bool
has_decimal_form text =
    list_all is_digit (unsigned_part text)
    && (nat_lt 0 (length (unsigned_part text)) && nat_le (length (unsigned_part text)) 19)

-- 64 bits hold it
abbrev pub fits_64_bits : ℤ → Bool
fits_64_bits (pos n) = nat_lt n 9223372036854775808
fits_64_bits (negsuc n) = nat_lt n 9223372036854775808

-- the number that a decimal text says
unfoldable pub decimal_of : List ℕ → Option ℤ
decimal_of text =
    if has_decimal_form text && fits_64_bits (signed_digits_value 10 text)
    then Some (signed_digits_value 10 text)
    else None
