-- How many connections ports hand out, and how they end.
use Rattle.std.specs.Prelude.{ℕ, ◌+◌, ◌≡◌, Bool, true, false, List, [], ◌∷◌, Some, slice_get, sum_by}
use Rattle.std.specs.List.{AllByRecursion}
use Rattle.io_edges.specs.Causes.{Rose}
use Rattle.io_edges.specs.Ports.{PortState}

module _ {Conn : Type 0} where
  abbrev pub handed_by : PortState Conn → ℕ
  handed_by p = p.handed

  -- how many connections ports have handed out together
  abbrev pub all_handed : List (PortState Conn) → ℕ
  all_handed ports = sum_by handed_by ports

  abbrev pub HasEnded : PortState Conn → Type 0
  HasEnded p = p.ended ≡ true

  -- one of the ports failed
  pub record SomeFailed (old new : List (PortState Conn)) : Type 0 where
    pub place : ℕ
    pub before : PortState Conn
    pub after : PortState Conn
    pub stood : slice_get old place ≡ Some before
    pub stands : slice_get new place ≡ Some after
    pub rose : Rose before.faults after.faults

  -- each port said that no connection will come, or one of them failed
  abbrev pub EndedBy : Bool → List (PortState Conn) → List (PortState Conn) → Type 0
  EndedBy true old new = AllByRecursion HasEnded new
  EndedBy false old new = SomeFailed old new
