-- What contracts see of a gate and of a pass.
use Rattle.std.specs.Prelude.{ℕ, List, Option}
use Rattle.atomic_table.specs.Seated.{TableId}
use Rattle.session_gate.specs.declared.known.Made.{Made}

-- a pass shows its gate, its number, the machine's opening, and the history as far as it saw it
pub record PassView (E O : Type 0) : Type 0 where
  pub gate : TableId
  pub number : ℕ
  pub opening : Option O
  pub seen : List (Made E)

-- a gate shows which it is, the machine that it was made with, and how many passes it made
pub record GateView (M : Type 0) : Type 0 where
  pub id : TableId
  pub start : M
  pub made : ℕ
