-- Watchers are told one after the other.
use Rattle.std.specs.Prelude.{◌≡◌, ℕ, List, ◌∷◌, ◌++◌, length, map, Option}
use Rattle.bundle_core.specs.Core.{CoreState}
use Rattle.bundle_core.specs.MadeLines.{IsMade, lines_made}
use Rattle.watch_box.specs.Watching.{IsDropped, Stays, WatcherState}

-- how many lines were made for the session of each watcher
abbrev pub counts_of : CoreState → List WatcherState → List (Option ℕ)
counts_of c ws = map (λ (w : WatcherState). lines_made c w.session) ws

-- the watcher at that place was told the line that the last entry made for its session, and stays
abbrev pub StaysAt : CoreState → List (List ℕ) → Option ℕ → ℕ → List WatcherState
    → List WatcherState → Type 0
StaysAt c lines before place old new =
    (front back : List WatcherState) (w : WatcherState)
    → old ≡ front ++ w ∷ back → length front ≡ place
    → (line : Option (List ℕ)) × (now : WatcherState) × IsMade c lines w.session before line
    × Stays line w now × (new ≡ front ++ now ∷ back)

-- it was told that line, and is dropped
abbrev pub DropsAt : CoreState → List (List ℕ) → Option ℕ → ℕ → List WatcherState
    → List WatcherState → Type 0
DropsAt c lines before place old new =
    (front back : List WatcherState) (w : WatcherState)
    → old ≡ front ++ w ∷ back → length front ≡ place
    → (line : Option (List ℕ)) × IsMade c lines w.session before line
    × IsDropped line w × (new ≡ front ++ back)
