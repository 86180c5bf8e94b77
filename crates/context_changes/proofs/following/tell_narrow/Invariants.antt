use Rattle.std.proofs.Common.{◌≡◌, map, take}
use Rattle.action_censor.specs.Back.{back}
use Rattle.action_censor.specs.Step.{step_of}
use Rattle.context_changes.specs.Told.{told_of}
use Rattle.context_changes.proofs.following.tell_narrow.Given as goal

abbrev pub invariant-loop-ctx : goal.invariant-loop-ctx
invariant-loop-ctx g l =
    let s = g.D.DocReader.document l.tables in
    l.told.items ≡ map (λ x. told_of (back (map step_of l.steps) s) s x x) (take l.ctx-index l.contexts)
