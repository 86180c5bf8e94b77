-- The id that a new table or column gets beside those that are taken.
use Rattle.std.specs.Prelude.{ℕ, ◌≡◌, ◌<◌, ◌≤◌, ◌+◌, ◌*◌, ◌^◌, ◌-◌, Bool, true, false, if◌then◌else◌, List, ◌++◌, zero, suc, length, take, bytes_eq}
use Rattle.std.specs.List.{list_any}
use Rattle.std.specs.Str.{chars, encode_utf8_all}
use Rattle.std.specs.Fmt.{decimal}
use Rattle.cell_types.specs.NameRule.{is_name}

-- one of the names is the text
abbrev pub is_taken : List (List ℕ) → List ℕ → Bool
is_taken taken text = list_any (λ name. bytes_eq text name) taken

-- the text with a number behind it, cut from its end by characters where 64 would be passed
unfoldable pub numbered : List ℕ → ℕ → List ℕ
numbered text number =
    encode_utf8_all (take (64 - length (decimal number)) (chars text)) ++ decimal number

-- from a number on, the least one that makes the text free, where it is among the first `count`
unfoldable pub least_free : List (List ℕ) → List ℕ → ℕ → ℕ → ℕ
least_free taken text number zero = number
least_free taken text number (suc count) =
    if is_taken taken (numbered text number) then least_free taken text (suc number) count
    else number

-- the text, or where it is taken the text with the least number from 2 upwards that makes it free
unfoldable pub free_name : List (List ℕ) → List ℕ → List ℕ
free_name taken text =
    if is_taken taken text then numbered text (least_free taken text 2 (12 * length taken + 100))
    else text

-- the name is the text with a number from 2 upwards, and no lesser one makes the text free
pub record HasLeastNumber (taken : List (List ℕ)) (text name : List ℕ) : Type 0 where
  pub number : ℕ
  pub spelled : name ≡ numbered text number
  pub from_two : 2 ≤ number
  pub few : number < 12 * length taken + 102
  pub least : (k : ℕ) → 2 ≤ k → k < number → is_taken taken (numbered text k) ≡ true

-- the id that is made of a wanted one is a name that is free
abbrev pub IsFresh : List (List ℕ) → List ℕ → Type 0
IsFresh taken wanted =
    (is_taken taken (free_name taken wanted) ≡ false) × (is_name (free_name taken wanted) ≡ true)

-- so few are taken that 64 bits can tell a number that makes each name free
abbrev pub AreFew : List (List ℕ) → Type 0
AreFew taken = 12 * length taken + 102 ≤ 2 ^ 64
