use Rattle.std.proofs.Common.{◌≡◌, ◌++◌}
use Rattle.std.specs.List.{AllByRecursion}
use Rattle.context_changes.specs.Told.{IsSeen, told_since}
use Rattle.context_changes.proofs.views.tell_whole.Given as goal

-- what is told so far, and what is left to tell
abbrev pub invariant-loop-view : goal.invariant-loop-view
invariant-loop-view g l =
    let s = g.D.DocReader.document l.tables in
    record {
      told : l.told.items ++ told_since s l.view-iterator.a.rest.now l.view-iterator.b.rest.now ≡ told_since s l.before l.contexts;
      seen : AllByRecursion IsSeen l.view-iterator.a.rest.now;
    }
