use Rattle.std.proofs.Common.{◌≡◌, ◌-◌, ◌&&◌, Some, length, drop}
use Rattle.std.specs.List.{list_any}
use Rattle.doc_model.specs.declared.column.ColDef.{ColDef}
use Rattle.doc_readers.specs.Parts.{grid_at}
use Rattle.censored_view.proofs.questions.is_read_in_some.Given as goal

-- the rest decides
abbrev pub invariant-loop-column : goal.invariant-loop-column
invariant-loop-column g l =
    list_any (λ (d : ColDef). (g.X.Lets.lets l.ctx l.table).column d.id && (g.X.Lets.lets l.ctx l.table).cell (Some d.id) (g.W.RowReader.told l.row)) (drop l.index (grid_at (g.D.DocReader.document l.tables) l.table).columns)
    ≡ list_any (λ (d : ColDef). (g.X.Lets.lets l.ctx l.table).column d.id && (g.X.Lets.lets l.ctx l.table).cell (Some d.id) (g.W.RowReader.told l.row)) (grid_at (g.D.DocReader.document l.tables) l.table).columns

abbrev pub decreases-loop-column : goal.decreases-loop-column
decreases-loop-column g l = length (grid_at (g.D.DocReader.document l.tables) l.table).columns - l.index
