use Rattle.std.proofs.Common.{◌≡◌, map, drop}
use Rattle.doc_model.specs.WellFormed.{are_by_id}
use Rattle.record_lines.specs.Columns.{unnamed}
use Rattle.bundle_records.proofs.printable.are_by_id.Given as goal

abbrev pub invariant-loop-index : goal.invariant-loop-index
invariant-loop-index l = are_by_id (map unnamed l.columns) ≡ are_by_id (map unnamed (drop l.index l.columns))
