-- The two sides of one end of a connection: a read leaves what goes out, and a write what comes in.
use Rattle.std.specs.Prelude.{ℕ, List, Option, None}

-- the bytes that were written, where they are told, and how often writing failed
pub record Outgoing : Type 0 where
  pub written : Option (List ℕ)
  pub faults : ℕ

-- the bytes that reads will give, where they are told, and how often reading failed
pub record Incoming : Type 0 where
  pub left : Option (List ℕ)
  pub faults : ℕ

-- nothing goes out by what is only read
abbrev pub nothing_out : Outgoing
nothing_out = record { written = None; faults = 0 }

-- nothing comes in by what is only written
abbrev pub nothing_in : Incoming
nothing_in = record { left = None; faults = 0 }
