use Rattle.std.proofs.Common.{◌≡◌, ◌-◌, length, map, take}
use Rattle.recalc.specs.Kept.{blank_table, table_part}
use Rattle.recalc.proofs.blank.blank_tables.Given as goal

abbrev pub invariant-loop-id : goal.invariant-loop-id
invariant-loop-id g l = map table_part l.kept.items ≡ map blank_table (take (length l.kept.items) (g.D.DocReader.document l.tables))

abbrev pub decreases-loop-id : goal.decreases-loop-id
decreases-loop-id g l = length (g.D.DocReader.document l.tables) - length l.kept.items
