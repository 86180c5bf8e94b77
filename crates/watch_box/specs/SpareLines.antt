-- Room for the lines that a watcher in memory will take.
use Rattle.std.specs.Prelude.{◌≡◌, ℕ, ◌≤◌, [], vec_capacity}
use Rattle.std.specs.Global.{Vec}

-- a line that waits to be filled: empty, with room for so many bytes
pub record IsSpare (longest : ℕ) (line : Vec ℕ) : Type 0 where
  pub empty : line.items ≡ []
  pub room : longest ≤ vec_capacity line
