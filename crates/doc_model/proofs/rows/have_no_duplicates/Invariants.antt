use Rattle.std.proofs.Common.{◌≡◌, drop}
use Rattle.doc_model.specs.Rows.{has_no_duplicates}
use Rattle.doc_model.proofs.rows.have_no_duplicates.Given as goal

-- the rest decides
abbrev pub invariant-loop-index : goal.invariant-loop-index
invariant-loop-index l = has_no_duplicates (drop l.index l.rows) ≡ has_no_duplicates l.rows
