use Rattle.view_patch.proofs.PatchSteps.{Leads}
use Rattle.view_patch.proofs.patching.patch.Given as goal

-- the rest leads where the whole does
abbrev pub invariant-loop-index : goal.invariant-loop-index
invariant-loop-index l = Leads l.view.tables l.actions l.tables.items l.index
