-- Watchers that are attached when a core is started.
use Rattle.std.specs.Prelude.{ℕ, ◌+◌, List, [], ◌∷◌}
use Rattle.watch_box.specs.Watching.{Telling, WatcherState}
use Rattle.grist_run.specs.declared.watching.WatchedSession.{WatchedSession}

-- the watchers in their order, numbered from there on, by what is told of each
abbrev pub numbered_from : {W : Type 0} → (W → Telling) → ℕ → List (WatchedSession W)
    → List WatcherState
numbered_from told n [] = []
numbered_from told n (w ∷ ws) =
    record { number = n; session = w.session; telling = told w.watcher }
    ∷ numbered_from told (n + 1) ws
