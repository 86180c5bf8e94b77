use Rattle.std.proofs.Common.{◌≡◌, map, filter, take}
use Rattle.doc_model.specs.Rows.{has}
use Rattle.doc_readers.specs.Parts.{grid_at}
use Rattle.censored_view.specs.Readable.{row_of}
use Rattle.action_censor.specs.Back.{grid_back}
use Rattle.action_censor.specs.Step.{step_of}
use Rattle.action_censor.specs.TouchedTables.{kept_row}
use Rattle.action_censor.proofs.old_rows.old_rows.Given as goal

-- the rows so far
abbrev pub invariant-loop-row : goal.invariant-loop-row
invariant-loop-row g l =
    map kept_row l.rows.items ≡ map (row_of (grid_back (map step_of l.steps) l.table (grid_at (g.D.DocReader.document l.tables) l.table)))
    (filter (has (grid_back (map step_of l.steps) l.table (grid_at (g.D.DocReader.document l.tables) l.table)).rows) (take l.row-index l.touched))
