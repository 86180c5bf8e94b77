use Rattle.std.proofs.Common.{◌≡◌, List, Option, Some, None, Result, Ok, Err, IfOk, IfSome, IfNone, true, sym, ◌∙◌}
use Rattle.std.specs.List.{list_all}
use Rattle.serde_json.specs.Data.{Data}
use Rattle.serde_json.specs.View.{view}
use Rattle.doc_model.specs.declared.user_action.UserAction.{UserAction}
use Rattle.doc_model.specs.WellFormed.{is_well_formed}
use Rattle.action_lines.specs.Actions.{AreActions, actions_from}
use Rattle.action_lines.proofs.StepLemmas.{none≢some}
use Rattle.action_lines.proofs.ActionLemmas.{actions_take, actions_again}
use Rattle.action_lines.proofs.WellFormedLemmas.{actions_formed}
use Rattle.action_lines.proofs.actions.read_actions.Goals as goal

found : {E : Type 0} (r : Result (Option (List UserAction)) E) (d : Data) → IfOk r (λ o. o ≡ actions_from d) → IfOk r (λ o. IfSome o (λ actions. AreActions actions d))
found (Ok (Some actions)) d e = actions_take d actions (sym e)
found (Ok None) d e = tt
found (Err x) d e = tt

missed : {E : Type 0} (r : Result (Option (List UserAction)) E) (d : Data) → IfOk r (λ o. o ≡ actions_from d) → IfOk r (λ o. IfNone o ((actions : List UserAction) → AreActions actions d → ⊥))
missed (Ok (Some actions)) d e = tt
missed (Ok None) d e = λ actions are. none≢some actions (e ∙ actions_again actions d are)
missed (Err x) d e = tt

formed : {E : Type 0} (r : Result (Option (List UserAction)) E) (d : Data) → IfOk r (λ o. o ≡ actions_from d) → IfOk r (λ o. IfSome o (λ actions. list_all is_well_formed actions ≡ true))
formed (Ok (Some actions)) d e = actions_formed actions d (actions_take d actions (sym e))
formed (Ok None) d e = tt
formed (Err x) d e = tt

pub returns-clause-found : goal.returns-clause-found
returns-clause-found c = found c.actions_of.result (view c.args.value.now) c.actions_of.ensures

pub returns-clause-none : goal.returns-clause-none
returns-clause-none c = missed c.actions_of.result (view c.args.value.now) c.actions_of.ensures

pub returns-clause-well_formed : goal.returns-clause-well_formed
returns-clause-well_formed c = formed c.actions_of.result (view c.args.value.now) c.actions_of.ensures
