use Rattle.std.proofs.Common.{◌≡◌, map, take}
use Rattle.std.specs.Option.{option_copied}
use Rattle.doc_model.specs.Readers.{cell_at}
use Rattle.recalc.specs.Evaluated.{filled}
use Rattle.evaluated_doc.proofs.doc.each_value.Given as goal

-- the values so far
abbrev pub invariant-loop-row : goal.invariant-loop-row
invariant-loop-row g l = map option_copied l.values.items ≡ map (cell_at (filled (g.D.DocReader.document l.tables)) l.table l.column) (take l.row-index l.rows)
