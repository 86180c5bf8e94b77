use Rattle.std.proofs.Common.{◌≡◌, map, take}
use Rattle.censored_view.specs.View.{view}
use Rattle.bundle_judge.specs.Created.{told_of}
use Rattle.bundle_judge.proofs.created.all_told.Given as goal

abbrev pub invariant-loop-one : goal.invariant-loop-one
invariant-loop-one g l = l.told.items ≡ map (told_of (view (g.X.Lets.lets l.ctx) (g.D.DocReader.document l.tables))) (take l.one-index l.created)
