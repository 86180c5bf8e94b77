use Rattle.std.proofs.Common.{◌≡◌, map, take}
use Rattle.serde_json.specs.View.{view}
use Rattle.action_lines.specs.Numbers.{row_data}
use Rattle.grist_json.proofs.printed_values.rows_value.Given as goal

abbrev pub invariant-loop-row : goal.invariant-loop-row
invariant-loop-row l = map view l.values.items ≡ map row_data (take l.row-index l.rows)
