-- Which lines came.
use Rattle.std.specs.Prelude.{◌≡◌, ◌⊎◌, ℕ, ◌≤◌, List, length, Option}
use Rattle.std.specs.Io.KnownBytes.{Consumes, IsAtEnd}
use Rattle.io_edges.specs.Lines.{AreLines, lines_of, stream_of}

-- bytes came by at least so many reads: these lines, each with its newline, and a rest
pub record Came (left_old left_new : Option (List ℕ)) (lines : List (List ℕ)) (rest : List ℕ)
    (turns : ℕ) : Type 0 where
  pub came : List ℕ
  pub consumed : Consumes left_old left_new came
  pub split : came ≡ stream_of lines rest
  pub each : AreLines lines
  pub few : turns ≤ length came

-- the whole input came, and these are its lines
pub record CameAll (left_old left_new : Option (List ℕ)) (lines : List (List ℕ)) : Type 0 where
  pub came : List ℕ
  pub consumed : Consumes left_old left_new came
  pub at_end : IsAtEnd left_new
  pub split : lines_of came ≡ lines

-- these lines came first, whatever came behind them
abbrev pub CameFirst : Option (List ℕ) → Option (List ℕ) → List (List ℕ) → Type 0
CameFirst left_old left_new lines =
    ((rest : List ℕ) × (turns : ℕ) × Came left_old left_new lines rest turns)
    ⊎ CameAll left_old left_new lines
