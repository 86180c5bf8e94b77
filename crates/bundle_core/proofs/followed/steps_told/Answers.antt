use Rattle.std.proofs.Common.{◌<◌, ◌∷◌, [], ◌++◌, map, length, ap, ◌∙◌, arith}
use Rattle.std.proofs.lemmas.List.{map-append}
use Rattle.action_censor.specs.Step.{Step, step_of}
use Rattle.bundle_judge.specs.Losses.{cells_told}
use Rattle.bundle_core.proofs.FollowedLemmas.{told_at, told_length, with_cells_more}
use Rattle.bundle_core.proofs.followed.steps_told.Goals as goal

pub loop-index-preserved : goal.loop-index-preserved
loop-index-preserved g c =
    let l = c.loop-index in
    let ts = c.args.traces.now in
    let a = c.index-actions-index.result in
    let cells = c.cells.result.now in
    let lt : l.index < length c.args.actions.now = omega (arith, c.loop-index-test.true) in
    let within : l.index < length ts = omega (arith, lt, c.requires) in
    let le : l.index < length (cells_told ts) = omega (arith, within, told_length ts) in
    ap (map step_of) c.in_ok-push.ensures.items
    ∙ map-append step_of l.steps.items _
    ∙ ap (λ ks. ks ++ (let k : Step = record { action = a; cells = cells } in k) ∷ []) l.invariant
    ∙ with_cells_more l.index c.args.actions.now (cells_told ts) a cells lt le c.index-actions-index.is (told_at ts l.index c.index-traces-index.result cells within c.index-traces-index.is c.cells.ensures)
