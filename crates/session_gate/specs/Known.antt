-- What a seat at the gate's table knows, and what its steps make of that.
-- A seat that was handed back knows nothing: its view is None.
use Rattle.std.specs.Prelude.{ℕ, ◌+◌, ◌-◌, nat_lt, Bool, true, false, if◌then◌else◌, List, [], ◌∷◌, ◌++◌, map, length, Option, Some, None}
use Rattle.atomic_table.specs.Table.{Me, State}
use Rattle.atomic_table.specs.declared.shared.Seat.{Seat}
use Rattle.session_gate.specs.declared.known.Made.{Made}
use Rattle.session_gate.specs.declared.known.Told.{Told}
use Rattle.session_gate.specs.declared.known.Known.{Known}
use Rattle.session_gate.specs.History.{brought}

-- a seat at the gate's table
abbrev pub GateSeat : Type 0 → Type 0 → Type 0 → Type 0
GateSeat M E O = Seat (Option M) (Option (Known E O))

-- what a seat knows, and the machine that it holds
abbrev pub Sat : Type 0 → Type 0 → Type 0 → Type 0
Sat M E O = Me (Option M) (Option (Known E O))

-- the gate's table: its word, where its machine is, and what its seats know
abbrev pub GateState : Type 0 → Type 0 → Type 0 → Type 0
GateState M E O = State (Option M) (Option (Known E O))

module _ {E : Type 0} where
  -- the longer of two beginnings of one history
  abbrev pub longer : List (Made E) → List (Made E) → List (Made E)
  longer xs ys = if nat_lt (length xs) (length ys) then ys else xs

module _ {E O : Type 0} where
  -- the pass's number
  abbrev pub number_of : Option (Known E O) → ℕ
  number_of None = 0
  number_of (Some k) = k.number

  -- the beginning of the history that was seen
  abbrev pub seen_of : Option (Known E O) → List (Made E)
  seen_of None = []
  seen_of (Some k) = k.seen

  -- what the machine's history began from
  abbrev pub opening_of : Option (Known E O) → Option O
  opening_of None = None
  opening_of (Some k) = Some k.opening

  -- whether the seat holds the turn
  abbrev pub turn_of : Option (Known E O) → Bool
  turn_of None = false
  turn_of (Some k) = k.turn

  -- how many more passes the seat may make
  abbrev pub room_of : Option (Known E O) → ℕ
  room_of None = 0
  room_of (Some k) = k.room

  -- how many of the passes the seat stands for
  abbrev pub parts_of : Option (Known E O) → ℕ
  parts_of None = 0
  parts_of (Some k) = k.parts

  -- what it was told by passes that were handed back
  abbrev pub told_of : Option (Known E O) → List (Told E)
  told_of None = []
  told_of (Some k) = k.told

  -- the seat has won the turn, and has seen this
  abbrev pub holding : Known E O → List (Made E) → Known E O
  holding k seen = record k { turn = true; seen = seen }

  -- the seat has given the turn up, and has seen this
  abbrev pub resting : Known E O → List (Made E) → Known E O
  resting k seen = record k { turn = false; seen = seen }

  -- a pass that makes no more passes
  abbrev pub dealt : Option (Known E O) → Option (Known E O)
  dealt None = None
  dealt (Some k) = Some (record k { room = 0; parts = 1 })

  -- the pass that it made, which makes the others
  abbrev pub next_seat : Option (Known E O) → Option (Known E O)
  next_seat None = None
  next_seat (Some k) =
      Some (record k {
        number = k.number + 1;
        room = k.room - 1;
        parts = k.parts - 1;
        turn = false;
        told = [];
      })

  -- what a pass had seen
  abbrev pub told_by : Known E O → Told E
  told_by k = record { number = k.number; seen = k.seen }

  -- a pass to which another was handed back: the longer `seen` stays, what both had seen is told
  abbrev pub gathered : Option (Known E O) → Option (Known E O) → Option (Known E O)
  gathered None w = None
  gathered (Some k) None = Some k
  gathered (Some k) (Some l) =
      Some (record k {
        room = 0;
        parts = k.parts + l.parts;
        seen = longer k.seen l.seen;
        told = (k.told ++ told_by k ∷ []) ++ told_by l ∷ [];
      })

module _ {M E O : Type 0} (history : M → List E) (opening : M → O) where
  -- the seat that a gate of so many passes begins with
  abbrev pub first_seat : M → ℕ → Option (Known E O)
  first_seat start passes =
      Some (record {
        number = 0;
        room = passes - 1;
        parts = passes;
        turn = false;
        opening = opening start;
        seen = map brought (history start);
        told = [];
      })
