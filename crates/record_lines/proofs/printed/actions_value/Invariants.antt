use Rattle.std.proofs.Common.{◌≡◌, map, take}
use Rattle.serde_json.specs.View.{view}
use Rattle.record_lines.specs.Printed.{doc_action_data}
use Rattle.record_lines.proofs.printed.actions_value.Given as goal

abbrev pub invariant-loop-action : goal.invariant-loop-action
invariant-loop-action l = map view l.values.items ≡ map doc_action_data (take l.action-index l.actions)
