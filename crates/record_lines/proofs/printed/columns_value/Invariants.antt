use Rattle.std.proofs.Common.{◌≡◌, map, take}
use Rattle.serde_json.specs.View.{view}
use Rattle.record_lines.specs.Infos.{column_data}
use Rattle.record_lines.proofs.printed.columns_value.Given as goal

abbrev pub invariant-loop-column : goal.invariant-loop-column
invariant-loop-column l = map view l.values.items ≡ map column_data (take l.column-index l.columns)
