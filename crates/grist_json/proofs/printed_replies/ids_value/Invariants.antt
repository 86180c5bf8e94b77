use Rattle.std.proofs.Common.{◌≡◌, map, take}
use Rattle.serde_json.specs.View.{view}
use Rattle.grist_json.specs.Replies.{id_data}
use Rattle.grist_json.proofs.printed_replies.ids_value.Given as goal

abbrev pub invariant-loop-id : goal.invariant-loop-id
invariant-loop-id l = map view l.values.items ≡ map id_data (take l.id-index l.ids)
