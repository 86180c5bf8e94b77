-- Whole numbers in JSON. Digits that do not fit 64 bits with a sign are a float to JSON, and so is
-- `-0`.
use Rattle.std.specs.Prelude.{◌≡◌, ◌^◌, ℕ, ℤ, pos, negsuc, Bool, true, false, Option, Some, None, option_map, nat_lt, if◌then◌else◌}
use Rattle.serde_json.specs.Data.{Num, unsigned, negative, float, Data, null, boolean, number, string, array, object}
use Rattle.serde_json.specs.Find.{of_integer}

-- a number as JSON
abbrev pub int_data : ℤ → Data
int_data z = number (of_integer z)

-- it fits 64 bits with a sign, from above
abbrev pub is_int : ℤ → Bool
is_int (pos n) = nat_lt n (2 ^ 63)
is_int (negsuc n) = true

abbrev pub int_of_num : Num → Option ℤ
int_of_num (unsigned n) = if nat_lt n (2 ^ 63) then Some (pos n) else None
int_of_num (negative (pos n)) = None
int_of_num (negative (negsuc n)) = Some (negsuc n)
int_of_num (float x) = None

-- the whole number that the JSON is
abbrev pub int_from : Data → Option ℤ
int_from null = None
int_from (boolean b) = None
int_from (number n) = int_of_num n
int_from (string s) = None
int_from (array ds) = None
int_from (object ms) = None

abbrev pub id_of_num : Num → Option ℤ
id_of_num (unsigned n) = if nat_lt n (2 ^ 63) then Some (pos n) else None
id_of_num (negative z) = None
id_of_num (float x) = None

-- the whole number from 0 that the JSON is
abbrev pub id_from : Data → Option ℤ
id_from null = None
id_from (boolean b) = None
id_from (number n) = id_of_num n
id_from (string s) = None
id_from (array ds) = None
id_from (object ms) = None

-- it is from 0 and fits 64 bits with a sign
abbrev pub is_id : ℤ → Bool
is_id (pos n) = nat_lt n (2 ^ 63)
is_id (negsuc n) = false

-- the JSON is this whole number
abbrev pub IsInt : ℤ → Data → Type 0
IsInt z d = (is_int z ≡ true) × (d ≡ int_data z)

-- a row id as JSON
abbrev pub row_data : ℕ → Data
row_data n = number (unsigned n)

-- it fits 32 bits
abbrev pub is_row : ℕ → Bool
is_row n = nat_lt n (2 ^ 32)

abbrev pub row_of_num : Num → Option ℕ
row_of_num (unsigned n) = if is_row n then Some n else None
row_of_num (negative z) = None
row_of_num (float x) = None

-- the row id that the JSON is
abbrev pub row_from : Data → Option ℕ
row_from null = None
row_from (boolean b) = None
row_from (number n) = row_of_num n
row_from (string s) = None
row_from (array ds) = None
row_from (object ms) = None

-- the JSON is this row id
abbrev pub IsRow : ℕ → Data → Type 0
IsRow n d = (is_row n ≡ true) × (d ≡ row_data n)

-- a row of an action that adds: null, or a whole number
abbrev pub new_row_from : Data → Option (Option ℤ)
new_row_from null = Some None
new_row_from (boolean b) = None
new_row_from (number n) = option_map Some (int_of_num n)
new_row_from (string s) = None
new_row_from (array ds) = None
new_row_from (object ms) = None

-- the JSON is this row of an action that adds
abbrev pub IsNewRow : Option ℤ → Data → Type 0
IsNewRow None d = d ≡ null
IsNewRow (Some z) d = IsInt z d
