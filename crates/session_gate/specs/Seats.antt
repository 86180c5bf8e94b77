-- A seat at the gate's table: what it shows as a pass, and how passes are made and handed back.
use Rattle.std.specs.Prelude.{◌≡◌, ℕ, ◌+◌, ◌⊎◌, false, List, map, length, slice_get, Option, Some, None}
use mathlib.Core.Option.{some}
use lib.ListN.{get_elem?}
use Rattle.atomic_table.specs.Seated.{TableId}
use Rattle.session_gate.specs.declared.known.Made.{Made}
use Rattle.session_gate.specs.declared.known.Told.{Told}
use Rattle.session_gate.specs.declared.known.Known.{Known}
use Rattle.session_gate.specs.History.{brought}
use Rattle.session_gate.specs.Views.{PassView}
use Rattle.session_gate.specs.Known.{GateSeat, number_of, seen_of, opening_of, turn_of, room_of, parts_of, told_of}

module _ {E O : Type 0} where
  -- what a pass of this gate shows that knows this
  abbrev pub pass_at : TableId → Option (Known E O) → PassView E O
  pass_at gate v = record {
    gate = gate;
    number = number_of v;
    opening = opening_of v;
    seen = seen_of v;
  }

module _ {M E O : Type 0} where
  -- what the seat shows as a pass
  abbrev pub shown : GateSeat M E O → PassView E O
  shown s = pass_at s.table_id s.me.0

  -- a pass between two calls
  pub record IsIdle (s : GateSeat M E O) : Type 0 where
    pub carried : length s.me.1 ≡ 0
    pub turn : turn_of s.me.0 ≡ false
    pub parts : parts_of s.me.0 ≡ 1
    pub told : length (told_of s.me.0) ≡ 0

module _ {E O : Type 0} where
  -- the n-th pass of a gate, which has seen what the machine brought
  pub record IsNew (gate : TableId) (o : O) (h : List E) (n : ℕ) (pass : PassView E O)
      : Type 0 where
    pub gate_is : pass.gate ≡ gate
    pub number : pass.number ≡ n
    pub opening : pass.opening ≡ Some o
    pub seen : pass.seen ≡ map brought h

  -- the passes that a gate begins with, numbered from 0
  pub record AreNew (gate : TableId) (o : O) (h : List E) (passes : List (PassView E O))
      : Type 0 where
    pub each : (i : ℕ) (pass : PassView E O) → slice_get passes i ≡ Some pass
        → IsNew gate o h i pass

  -- all these are passes of one gate
  pub record AreOf (gate : TableId) (passes : List (PassView E O)) : Type 0 where
    pub each : (i : ℕ) (pass : PassView E O) → slice_get passes i ≡ Some pass
        → pass.gate ≡ gate

module _ {M E O : Type 0} where
  -- the seat that makes the passes, when i of them are made
  pub record IsDealer (gate : TableId) (o : O) (h : List E) (passes i : ℕ) (s : GateSeat M E O)
      : Type 0 where
    pub new : IsNew gate o h i (shown s)
    pub carried : length s.me.1 ≡ 0
    pub turn : turn_of s.me.0 ≡ false
    pub told : length (told_of s.me.0) ≡ 0
    pub parts : parts_of s.me.0 + i ≡ passes
    pub room : room_of s.me.0 + (i + 1) ≡ passes

module _ {E O : Type 0} where
  -- the pass n is this one, or was handed back to it, and had seen this
  abbrev pub Heard : ℕ → List (Made E) → Option (Known E O) → Type 0
  Heard n seen None = ⊥
  Heard n seen (Some k) = ((k.number ≡ n) × (k.seen ≡ seen))
      ⊎ ((i : ℕ) × (t : Told E) × (get_elem? k.told i ≡ some t)
      × (t.number ≡ n) × (t.seen ≡ seen))

module _ {M E O : Type 0} where
  -- the seat to which all these passes were handed back
  pub record IsGathered (gate : TableId) (passes : List (PassView E O)) (s : GateSeat M E O)
      : Type 0 where
    pub table_is : s.table_id ≡ gate
    pub carried : length s.me.1 ≡ 0
    pub turn : turn_of s.me.0 ≡ false
    pub parts : parts_of s.me.0 ≡ length passes
    pub heard : (i : ℕ) (pass : PassView E O) → slice_get passes i ≡ Some pass
        → Heard pass.number pass.seen s.me.0
