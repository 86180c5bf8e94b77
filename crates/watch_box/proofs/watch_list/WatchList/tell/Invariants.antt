use Rattle.std.proofs.Common.{◌-◌, length}
use Rattle.watch_box.specs.Watching.{line_for}
use Rattle.watch_box.proofs.TellingLemmas.{ToldUpTo}
use Rattle.watch_box.proofs.watch_list.WatchList.tell.Given as goal

abbrev pub invariant-loop-place : goal.invariant-loop-place
invariant-loop-place g l = ToldUpTo (line_for l.session l.line) l.initial.self l.self l.place

abbrev pub decreases-loop-place : goal.decreases-loop-place
decreases-loop-place g l = length l.self - l.place
