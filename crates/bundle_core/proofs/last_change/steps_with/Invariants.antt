use Rattle.std.proofs.Common.{◌≡◌, map, take}
use Rattle.std.specs.Global.{Vec}
use Rattle.cell_types.specs.declared.cell.CellOld.{CellOld}
use Rattle.action_censor.specs.Step.{step_of}
use Rattle.bundle_core.specs.Followed.{with_cells}
use Rattle.bundle_core.proofs.last_change.steps_with.Given as goal

abbrev pub invariant-loop-index : goal.invariant-loop-index
invariant-loop-index l =
    map step_of l.steps.items ≡ with_cells (take l.index l.actions) (take l.index (map (λ (cells : Vec CellOld). cells.items) l.lost))
