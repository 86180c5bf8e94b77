use Rattle.std.proofs.Common.{◌≡◌, All, vec_len}
use Rattle.watch_box.specs.SpareLines.{IsSpare}
use Rattle.watch_box.proofs.memory_watcher.spare_lines.Given as goal

abbrev pub invariant-loop : goal.invariant-loop
invariant-loop l = All (IsSpare l.longest) l.spare.items × (vec_len l.spare ≡ l.counter)
