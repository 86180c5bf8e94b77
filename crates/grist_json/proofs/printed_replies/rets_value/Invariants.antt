use Rattle.std.proofs.Common.{◌≡◌, map, take}
use Rattle.serde_json.specs.View.{view}
use Rattle.grist_json.specs.Replies.{ret_data}
use Rattle.grist_json.proofs.printed_replies.rets_value.Given as goal

abbrev pub invariant-loop-value : goal.invariant-loop-value
invariant-loop-value l = map view l.shown.items ≡ map ret_data (take l.value-index l.values)
