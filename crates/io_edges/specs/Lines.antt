-- The lines of a text.
use Rattle.std.specs.Prelude.{◌≢◌, ℕ, ◌==◌, Bool, ◌||◌, nat_lt, length, List, [], ◌∷◌, ◌++◌, take, if◌then◌else◌}
use Rattle.std.specs.List.{list_all}

-- no byte is a newline
abbrev pub IsOneLine : List ℕ → Type 0
IsOneLine [] = Unit {0}
IsOneLine (b ∷ bs) = (b ≢ 10) × IsOneLine bs

-- each of these texts is one line
abbrev pub AreLines : List (List ℕ) → Type 0
AreLines [] = Unit {0}
AreLines (l ∷ ls) = IsOneLine l × AreLines ls

-- the byte at the front of the first line
abbrev pub onto_first : ℕ → List (List ℕ) → List (List ℕ)
onto_first b [] = (b ∷ []) ∷ []
onto_first b (l ∷ ls) = (b ∷ l) ∷ ls

-- the lines of a text, without their newlines; what stands behind the last newline is one too,
-- unless it is empty
abbrev pub lines_of : List ℕ → List (List ℕ)
lines_of [] = []
lines_of (b ∷ bs) = if b == 10 then [] ∷ lines_of bs else onto_first b (lines_of bs)

-- each line with its newline, and then the rest
abbrev pub stream_of : List (List ℕ) → List ℕ → List ℕ
stream_of [] rest = rest
stream_of (l ∷ ls) rest = l ++ 10 ∷ stream_of ls rest

-- how much is kept of a line: one byte more than the longest line has
unfoldable pub kept_of : List ℕ → List ℕ
kept_of text = take 1048577 text

-- more bytes than a line may have
abbrev pub is_long : List ℕ → Bool
is_long text = nat_lt 1048576 (length text)

-- white space of JSON
abbrev pub is_space : ℕ → Bool
is_space b = (b == 32) || (b == 9) || (b == 13) || (b == 10)

-- a line that is passed over
abbrev pub is_blank : List ℕ → Bool
is_blank text = list_all is_space text
