use Rattle.std.proofs.Common.{◌≡◌, ◌++◌, drop}
use Rattle.doc_readers.specs.Parts.{grid_at}
use Rattle.affected_search.specs.Listed.{update_reads}
use Rattle.affected_search.proofs.listed.update_reads.Given as goal

-- the reads so far, and those of the columns that are to come
abbrev pub invariant-loop-column : goal.invariant-loop-column
invariant-loop-column g l =
    l.reads.items ++ update_reads l.graph.names l.table (grid_at (g.R.DocReader.document l.tables) l.table) l.rows (drop l.column-index l.columns)
    ≡ update_reads l.graph.names l.table (grid_at (g.R.DocReader.document l.tables) l.table) l.rows l.columns
