use Rattle.std.proofs.Common.{◌≡◌, take}
use Rattle.std.specs.Prelude.{filter_map}
use Rattle.meta_schema.specs.Decoding.{table_in}
use Rattle.meta_schema.proofs.reading.schema_by.Given as goal

-- those of the rows so far
abbrev pub invariant-loop-row : goal.invariant-loop-row
invariant-loop-row g l = l.schema ≡ filter_map (table_in (g.D.DocReader.document l.tables)) (take l.row-index l.row-items)
