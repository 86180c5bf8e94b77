-- What a sink holds after bytes were sent to it, through a buffer or not.
use Rattle.std.specs.Prelude.{◌≡◌, ℕ, List, ◌++◌, Option}
use Rattle.std.specs.Io.KnownBytes.{Appends}

-- of these bytes a front was written, and the rest waits
pub record Sends (bytes waiting : List ℕ) (written_old written_new : Option (List ℕ)) : Type 0 where
  pub front : List ℕ
  pub split : bytes ≡ front ++ waiting
  pub written : Appends written_old written_new front

-- of these bytes some front was written
pub record SendsFront (bytes : List ℕ) (written_old written_new : Option (List ℕ)) : Type 0 where
  pub front : List ℕ
  pub rest : List ℕ
  pub split : bytes ≡ front ++ rest
  pub written : Appends written_old written_new front
