use Rattle.std.proofs.Common.{◌≡◌, ◌∷◌, codes, map, take}
use Rattle.serde_json.specs.Data.{string}
use Rattle.serde_json.specs.View.{view}
use Rattle.grist_json.specs.Values.{item_data}
use Rattle.grist_json.proofs.printed_values.list_value.Given as goal

abbrev pub invariant-loop-item : goal.invariant-loop-item
invariant-loop-item l = map view l.values.items ≡ string (codes "L") ∷ map item_data (take l.item-index l.items)
