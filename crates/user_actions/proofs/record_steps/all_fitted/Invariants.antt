use Rattle.std.proofs.Common.{◌≡◌, map, take}
use Rattle.doc_readers.specs.Parts.{grid_at}
use Rattle.user_actions.specs.Steps.{fitted}
use Rattle.user_actions.proofs.record_steps.all_fitted.Given as goal

abbrev pub invariant-loop-column : goal.invariant-loop-column
invariant-loop-column g l = l.made.items ≡ map (fitted (grid_at (g.D.DocReader.document l.tables) l.table)) (take l.column-index l.columns)
