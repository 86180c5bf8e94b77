-- Of which sessions the entries of lanes are.
use Rattle.std.specs.Prelude.{ℕ, ◌^◌, ◌<◌, ◌≡◌, false, List, [], ◌∷◌, if◌then◌else◌}
use Rattle.std.specs.Str.{bytes_eq}
use Rattle.std.specs.List.{AllByRecursion}
use Rattle.doc_model.specs.declared.entry.Entry.{Entry}
use Rattle.grist_lanes.specs.SessionNames.{session_name}

-- the entry is of the session of a connection of that lane
pub record IsOfLane (lane : ℕ) (e : Entry) : Type 0 where
  pub connection : ℕ
  pub few : connection < 2 ^ 64
  pub session : e.session ≡ session_name lane connection

-- the entry is of no session that a lane names
abbrev pub IsOfNoLane : Entry → Type 0
IsOfNoLane e = (lane connection : ℕ) → lane < 2 ^ 64 → connection < 2 ^ 64
    → bytes_eq e.session (session_name lane connection) ≡ false

-- no entry is of a session that a lane names
abbrev pub AreOfNoLane : List Entry → Type 0
AreOfNoLane = AllByRecursion IsOfNoLane

-- the entries of a session
abbrev pub of_session : List ℕ → List Entry → List Entry
of_session name [] = []
of_session name (e ∷ es) =
    if bytes_eq e.session name then e ∷ of_session name es else of_session name es
