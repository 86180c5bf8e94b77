use Rattle.std.proofs.Common.{◌≡◌, length}
use Rattle.std.specs.List.{AllByRecursion}
use Rattle.context_changes.specs.Differing.{IsSeenIfKept, all_told_with}
use Rattle.context_changes.proofs.differing.tell_differing.Given as goal

-- with those that are left all are told as they shall be
abbrev pub invariant-loop-kept : goal.invariant-loop-kept
invariant-loop-kept g l =
    let t = g.D.DocReader.document l.doc in
    record {
      told : all_told_with t l.contexts l.views.items l.told ≡ all_told_with t l.contexts l.fn.views.items l.initial.told;
      seen : AllByRecursion IsSeenIfKept l.views.items;
    }

abbrev pub decreases-loop-kept : goal.decreases-loop-kept
decreases-loop-kept g l = length l.views.items
