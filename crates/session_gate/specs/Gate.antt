-- A gate with its passes: when it is made, and when it is closed.
use Rattle.std.specs.Prelude.{◌≡◌, ℕ, ◌≤◌, List, map, length, slice_get, Some}
use mathlib.Core.List.{IsPrefix}
use Rattle.session_gate.specs.declared.known.Made.{Made}
use Rattle.session_gate.specs.History.{brought, entries_of, IsLegal}
use Rattle.session_gate.specs.Views.{PassView, GateView}
use Rattle.session_gate.specs.Rule.{IsBelow, IsSeen}
use Rattle.session_gate.specs.Seats.{IsNew}

module _ {M E O : Type 0} where
  -- the pass is one of this gate's
  abbrev pub IsPassOf : GateView M → PassView E O → Type 0
  IsPassOf gate pass = pass.gate ≡ gate.id

module _ {M E O : Type 0} (history : M → List E) (opening : M → O) where
  -- these are all passes of the new gate, numbered from 0; each has seen what the machine brought
  pub record AreAllNew (gate : GateView M) (passes : List (PassView E O)) : Type 0 where
    pub count : length passes ≡ gate.made
    pub each : (i : ℕ) (pass : PassView E O) → slice_get passes i ≡ Some pass
        → IsNew gate.id (opening gate.start) (history gate.start) i pass

module _ {M E O Ev Out : Type 0} (history : M → List E) (opening : M → O)
    (takes_event : Ev → Type 0) (answers : O → List E → List E → Ev → Out → Type 0) where
  -- The machine m comes out of the gate with this legal history. It begins with what was brought,
  -- all else has numbers of passes, and each pass has seen a beginning with all its own calls
  pub record IsWhole (gate : GateView M) (m : M) (passes : List (PassView E O))
      (log : List (Made E)) : Type 0 where
    pub opening_is : opening m ≡ opening gate.start
    pub history_is : history m ≡ entries_of log
    pub begins : IsPrefix (map brought (history gate.start)) log
    pub legal : IsLegal takes_event answers (opening gate.start) log
    pub numbered : (i : ℕ) (x : Made E) → slice_get log i ≡ Some x
        → length (history gate.start) ≤ i → IsBelow gate.made x.by
    pub each : (i : ℕ) (pass : PassView E O) → slice_get passes i ≡ Some pass
        → IsSeen (map brought (history gate.start)) log pass.number pass.seen
