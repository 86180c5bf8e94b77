-- Laws of lines.
use Rattle.std.specs.Prelude.{◌≡◌, ◌≢◌, ℕ, ◌≤◌, List, [], ◌∷◌, ◌++◌, length, min}
use Rattle.io_edges.specs.Lines.{IsOneLine, AreLines, lines_of, stream_of, kept_of}

-- the lines of a stream are its lines and those of its rest; a rest that is one line and not empty
-- is a line
pub record StreamLaw : Type 0 where
  pub whole : (ls : List (List ℕ)) (rest : List ℕ) → AreLines ls
      → lines_of (stream_of ls rest) ≡ ls ++ lines_of rest
  pub last : (rest : List ℕ) → IsOneLine rest → rest ≢ [] → lines_of rest ≡ rest ∷ []
  pub more : (ls : List (List ℕ)) (l rest : List ℕ)
      → stream_of ls (l ++ 10 ∷ rest) ≡ stream_of (ls ++ l ∷ []) rest

-- a line that is not too long is kept whole, and the length of what is kept tells one that is
pub record KeptLaw : Type 0 where
  pub whole : (text : List ℕ) → length text ≤ 1048577 → kept_of text ≡ text
  pub size : (text : List ℕ) → length (kept_of text) ≡ min 1048577 (length text)
