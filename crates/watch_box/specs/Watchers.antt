-- What a watcher in memory tells.
use Rattle.std.specs.Prelude.{ℕ, ◌+◌, ◌≤◌, ◌<◌, Bool, ◌||◌, List, map, length, if◌then◌else◌, nat_eq}
use Rattle.std.specs.List.{list_any}
use Rattle.watch_box.specs.declared.memory_watcher.MemWatcher.{MemWatcher}

-- the lines that were taken
abbrev pub lines_of : MemWatcher → List (List ℕ)
lines_of w = map (λ v. v.items) w.lines.items

-- how many more it has room for
abbrev pub space_of : MemWatcher → ℕ
space_of w = length w.spare.items

-- how many bytes a line has at most
abbrev pub longest_of : MemWatcher → ℕ
longest_of w = w.longest

-- how often it has failed
abbrev pub watch_faults : MemWatcher → ℕ
watch_faults w = w.faults

-- how often it was called
abbrev pub watch_calls : MemWatcher → ℕ
watch_calls w = w.calls

-- the calls that are to fail
abbrev pub failing_takes : MemWatcher → List ℕ
failing_takes w = w.failing.items

-- whether the next call is to fail
abbrev pub is_listed : MemWatcher → Bool
is_listed w = list_any (λ n. nat_eq n (watch_calls w)) (failing_takes w)

-- whether there is room for the line
abbrev pub HasRoom : MemWatcher → List ℕ → Type 0
HasRoom w line = (0 < space_of w) × (length line ≤ longest_of w)

-- from which length on the next line is refused
abbrev pub bound_of : MemWatcher → ℕ
bound_of w = if is_listed w || nat_eq (space_of w) 0 then 0 else longest_of w + 1
