use Rattle.std.proofs.Common.{◌≡◌, map, take}
use Rattle.context_changes.specs.Told.{view_of}
use Rattle.context_changes.proofs.views.see_all.Given as goal

abbrev pub invariant-loop-ctx : goal.invariant-loop-ctx
invariant-loop-ctx g l = l.views.items ≡ map (view_of (g.D.DocReader.document l.tables)) (take l.ctx-index l.contexts)
