use Rattle.std.proofs.Common.{◌≡◌, map, take}
use Rattle.affected_values.specs.Relaid.{blank_of}
use Rattle.affected_values.proofs.relaying.blank_columns.Given as goal

abbrev pub invariant-loop-column : goal.invariant-loop-column
invariant-loop-column l = map (λ w. w.items) l.blank.items ≡ map (blank_of l.rows) (take l.column-index l.columns)
