use Rattle.std.proofs.Common.{ℕ, ◌≡◌, ◌<◌, List, ◌∷◌, [], ◌++◌, map, get_or, length, ap, sym, ◌∙◌, arith}
use Rattle.std.specs.Global.{Vec}
use Rattle.std.proofs.lemmas.List.{length-map, map-append}
use Rattle.cell_types.specs.declared.cell.CellOld.{CellOld}
use Rattle.action_censor.specs.Step.{Step, step_of}
use Rattle.bundle_core.proofs.FollowedLemmas.{with_cells_more}
use Rattle.bundle_core.proofs.LastChanges.{lost_at}
use Rattle.bundle_core.proofs.last_change.steps_with.Goals as goal

pub loop-index-preserved : goal.loop-index-preserved
loop-index-preserved c =
    let l = c.loop-index in
    let ls = c.args.lost.now in
    let told = map (λ (cells : Vec CellOld). cells.items) ls in
    let a = c.index-actions-index.result in
    let cells = c.as_slice.result.now in
    let lt : l.index < length c.args.actions.now = omega (arith, c.loop-index-test.true) in
    let within : l.index < length ls = omega (arith, lt, c.requires) in
    let le : l.index < length told = omega (arith, within, length-map ls (λ (cells : Vec CellOld). cells.items)) in
    ap (map step_of) c.in_ok-push.ensures.items
    ∙ map-append step_of l.steps.items _
    ∙ ap (λ ks. ks ++ (let k : Step = record { action = a; cells = cells } in k) ∷ []) l.invariant
    ∙ with_cells_more l.index c.args.actions.now told a cells lt le c.index-actions-index.is (lost_at ls l.index c.index-lost-index.result cells within c.index-lost-index.is c.as_slice.ensures.value)
