use Rattle.std.proofs.Common.{◌≡◌, ◌-◌, length, drop}
use Rattle.doc_readers.specs.Parts.{grid_at}
use Rattle.user_actions.specs.References.{is_referrer, put_referrers, referrers_among}
use Rattle.user_actions.proofs.referrers.add_columns.Given as goal

-- those so far, with those that are to come
abbrev pub invariant-loop-column : goal.invariant-loop-column
invariant-loop-column g l =
    put_referrers (referrers_among l.id (is_referrer l.old l.retypes) (drop l.index (grid_at (g.D.DocReader.document l.tables) l.table).columns)) l.found.items
    ≡ put_referrers (referrers_among l.id (is_referrer l.old l.retypes) (grid_at (g.D.DocReader.document l.tables) l.table).columns) l.initial.found.items

abbrev pub decreases-loop-column : goal.decreases-loop-column
decreases-loop-column g l = length (grid_at (g.D.DocReader.document l.tables) l.table).columns - l.index
