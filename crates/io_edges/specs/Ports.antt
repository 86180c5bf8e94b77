-- What is told of a port, and what its calls change of that.
use Rattle.std.specs.Prelude.{ℕ, ◌+◌, ◌≡◌, ◌≤◌, Bool, true, false, List, [], ◌∷◌, ◌++◌, Option, Some, None, Result, Ok, Err, IfSome, option_map}
use Rattle.io_edges.specs.declared.Failed.{Failed}
use Rattle.io_edges.specs.declared.port.Returned.{Returned}
use Rattle.io_edges.specs.declared.session_end.SessionEnd.{SessionEnd}

-- how many connections it has handed out, whether one of them is out, whether its last answer was
-- that none will come, how often it has failed; and where they are told, the connections that are
-- left and those that came back
pub record PortState (Conn : Type 0) : Type 0 where
  pub handed : ℕ
  pub lent : Bool
  pub ended : Bool
  pub faults : ℕ
  pub left : Option (List Conn)
  pub back : Option (List (Returned Conn))

-- how many connections a port ever hands out
abbrev pub handed_bound : ℕ
handed_bound = 4294967295

module _ {Conn : Type 0} where
  -- this connection was handed out
  pub record HandsOut (old new : PortState Conn) (conn : Conn) : Type 0 where
    pub handed : new.handed ≡ old.handed + 1
    pub few : new.handed ≤ handed_bound
    pub lent : new.lent ≡ true
    pub ended : new.ended ≡ false
    pub left : old.left ≡ option_map (λ conns. conn ∷ conns) new.left
    pub back : new.back ≡ old.back

  -- no connection will come: none is left
  pub record HasEnded (old new : PortState Conn) : Type 0 where
    pub handed : new.handed ≡ old.handed
    pub lent : new.lent ≡ false
    pub ended : new.ended ≡ true
    pub none_left : IfSome old.left (λ conns. conns ≡ [])
    pub left : new.left ≡ old.left
    pub back : new.back ≡ old.back

  -- nothing was handed out
  pub record HasFailed (old new : PortState Conn) : Type 0 where
    pub handed : new.handed ≡ old.handed
    pub lent : new.lent ≡ false
    pub ended : new.ended ≡ false
    pub left : new.left ≡ old.left
    pub back : new.back ≡ old.back

  -- what the next connection is
  abbrev pub Gives : PortState Conn → PortState Conn → Result (Option Conn) Failed → Type 0
  Gives old new (Ok (Some conn)) = HandsOut old new conn
  Gives old new (Ok None) = HasEnded old new
  Gives old new (Err failed) = HasFailed old new

  -- the connection that was out came back with that end
  pub record TakesBack (old new : PortState Conn) (conn : Conn) (end : SessionEnd) : Type 0 where
    pub handed : new.handed ≡ old.handed
    pub lent : new.lent ≡ false
    pub ended : new.ended ≡ old.ended
    pub faults : new.faults ≡ old.faults
    pub left : new.left ≡ old.left
    pub back : new.back
        ≡ option_map (λ them. them ++ record { conn = conn; end = end } ∷ []) old.back
