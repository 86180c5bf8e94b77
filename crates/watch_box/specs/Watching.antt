-- A list of watchers, and what a line does to it.
use Rattle.std.specs.Prelude.{◌≡◌, ◌⊎◌, ℕ, ◌≤◌, List, [], ◌∷◌, ◌++◌, Bool, length, Option, Some, None, option_map, IfSome, nat_eq, if◌then◌else◌}
use Rattle.std.specs.Str.{bytes_eq}

-- what a watcher tells: the lines that it took, from which length on it refuses the next one, and
-- how often it has failed
pub record Telling : Type 0 where
  pub taken : Option (List (List ℕ))
  pub refused_from : Option ℕ
  pub faults : ℕ

-- a watcher in a list: its number, its session, and what it tells
pub record WatcherState : Type 0 where
  pub number : ℕ
  pub session : List ℕ
  pub telling : Telling

-- it took the line
pub record TookLine (line : List ℕ) (old new : WatcherState) : Type 0 where
  pub number : new.number ≡ old.number
  pub session : new.session ≡ old.session
  pub taken : new.telling.taken ≡ option_map (λ ls. ls ++ line ∷ []) old.telling.taken
  pub faults : old.telling.faults ≤ new.telling.faults

-- it refused the line: where it told from which length on, the line was that long
abbrev pub RefusedLine : List ℕ → WatcherState → Type 0
RefusedLine line w = IfSome w.telling.refused_from (λ n. n ≤ length line)

-- it stays: no line was told to it and it is as it was, or it took the line
abbrev pub Stays : Option (List ℕ) → WatcherState → WatcherState → Type 0
Stays None old new = new ≡ old
Stays (Some line) old new = TookLine line old new

-- it is dropped: it refused the line that was told to it
abbrev pub IsDropped : Option (List ℕ) → WatcherState → Type 0
IsDropped None w = ⊥
IsDropped (Some line) w = RefusedLine line w

-- each watcher was told the line of its session, where there is one: of the watchers before, each
-- stays or is dropped, in their order
abbrev pub Tells : (List ℕ → Option (List ℕ)) → List WatcherState → List WatcherState → Type 0
Tells line_of [] new = new ≡ []
Tells line_of (w ∷ ws) new =
    ((now : WatcherState) × (rest : List WatcherState) × (new ≡ now ∷ rest)
    × Stays (line_of w.session) w now × Tells line_of ws rest)
    ⊎ (IsDropped (line_of w.session) w × Tells line_of ws new)

-- a line of one session, and none of others
abbrev pub line_for : List ℕ → List ℕ → List ℕ → Option (List ℕ)
line_for session line other = if bytes_eq other session then Some line else None

-- whether it has that number
abbrev pub has_number : ℕ → WatcherState → Bool
has_number number w = nat_eq w.number number

-- the list without the first watcher of that number
abbrev pub without : ℕ → List WatcherState → List WatcherState
without number [] = []
without number (w ∷ ws) = if has_number number w then ws else w ∷ without number ws
