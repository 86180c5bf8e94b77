-- What a reader of lines is seen as, and how it takes a part of a line.
use Rattle.std.specs.Prelude.{◌≡◌, ℕ, ◌+◌, ◌-◌, ◌*◌, ◌≤◌, List, [], ◌∷◌, ◌++◌, length, Bool, true, false}
use Rattle.io_edges.specs.Lines.{IsOneLine, kept_of}

-- the bytes that came and were not given yet, what is kept of the last line, and the reads that
-- each took a byte
pub record LineState : Type 0 where
  pub ahead : List ℕ
  pub line : List ℕ
  pub turns : ℕ

-- how the places in a reader's buffer stand to its sizes
pub record IsInRoom (start end buffer line turns : ℕ) : Type 0 where
  pub ordered : start ≤ end
  pub within : end ≤ buffer
  pub room : buffer ≡ 65536
  pub kept : line ≤ 1048577
  pub few : turns ≤ 4294967296

-- what may still be done: it falls with each line that is given
abbrev pub work_left : LineState → ℕ
work_left s = 65537 * (4294967296 - s.turns) + length s.ahead

-- what is ahead after a part of a line, which a newline may end
abbrev pub behind : Bool → List ℕ → List ℕ
behind true ahead = 10 ∷ ahead
behind false ahead = []

-- a part of a line was taken from what was ahead; without a newline that is all of it
pub record TakesPart (old new line_old line_new : List ℕ) (whole : Bool) : Type 0 where
  pub part : List ℕ
  pub one_line : IsOneLine part
  pub split : old ≡ part ++ behind whole new
  pub all : whole ≡ false → new ≡ []
  pub kept : line_new ≡ kept_of (line_old ++ part)
