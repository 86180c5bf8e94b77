use Rattle.std.proofs.Common.{◌≡◌, List, map, true, ap, ◌∙◌}
use Rattle.std.specs.Global.{Vec}
use Rattle.std.specs.List.{list_all}
use Rattle.cell_types.specs.declared.cell.CellOld.{CellOld}
use Rattle.action_censor.specs.Step.{are_records, is_of_records}
use Rattle.user_actions.specs.StepLaws.{action_of}
use Rattle.bundle_core.specs.Followed.{with_cells}
use Rattle.bundle_core.proofs.LastChanges.{change_steps, with_records}
use Rattle.bundle_core.proofs.last_change.LastChange.steps_of_records.Goals as goal

pub returns-clause-records : goal.returns-clause-records
returns-clause-records c =
    let actions = c.actions-actions.result.now in
    let records : list_all is_of_records actions ≡ true = search (c.are_of_records.ensures, c.if-not-are_of_records.false, c.if-not-are_of_records.ensures) in
    ap are_records c.in_ok-steps.ensures ∙ with_records actions (map (λ (cells : Vec CellOld). cells.items) c.as_slice.result.now) records

pub returns-clause-steps : goal.returns-clause-steps
returns-clause-steps c =
    let told = λ (ls : List (Vec CellOld)). map (λ (cells : Vec CellOld). cells.items) ls in
    λ s t h. c.in_ok-steps.ensures
    ∙ ap (λ l. with_cells l (told c.as_slice.result.now)) c.actions-actions.ensures
    ∙ ap (λ l. with_cells (map action_of c.args.self.now.steps) (told l)) c.as_slice.ensures.value
    ∙ change_steps s t c.args.self.now c.in-Some.lost c.in-Some.is h
