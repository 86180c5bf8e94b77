use Rattle.std.proofs.Common.{◌≡◌, map, take}
use Rattle.serde_json.specs.View.{view}
use Rattle.grist_json.specs.Actions.{action_data}
use Rattle.grist_json.proofs.printed_actions.actions_value.Given as goal

abbrev pub invariant-loop-action : goal.invariant-loop-action
invariant-loop-action l = map view l.values.items ≡ map action_data (take l.action-index l.actions)
