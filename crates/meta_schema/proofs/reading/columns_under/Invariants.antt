use Rattle.std.proofs.Common.{◌≡◌, take}
use Rattle.std.specs.Prelude.{filter_map}
use Rattle.meta_schema.specs.Decoding.{column_under}
use Rattle.meta_schema.proofs.reading.columns_under.Given as goal

-- those of the rows so far
abbrev pub invariant-loop-row : goal.invariant-loop-row
invariant-loop-row g l = l.columns ≡ filter_map (column_under (g.D.DocReader.document l.tables) l.parent) (take l.row-index l.row-items)
