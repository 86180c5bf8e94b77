-- How long the text of a name is.
use Rattle.std.specs.Prelude.{ℕ, ◌<◌, ◌≤◌, List, length}
use Rattle.std.specs.Str.{chars}

-- 1 to 64 characters
pub record HasNameLength (text : List ℕ) : Type 0 where
  pub some : 0 < length (chars text)
  pub few : length (chars text) ≤ 64
