use Rattle.std.proofs.Common.{◌≡◌, ◌≤◌}
use Rattle.doc_model.specs.DocumentLaws.{IsWhole}
use Rattle.doc_opening.specs.Loading.{Leads}
use Rattle.doc_opening.proofs.opening.open_records.Given as goal

abbrev pub invariant-loop-number : goal.invariant-loop-number
invariant-loop-number g l =
    (g.K.Keeper.records l.keeper ≡ g.K.Keeper.records l.fn.keeper)
    × (g.K.Keeper.failures l.fn.keeper ≤ g.K.Keeper.failures l.keeper)
    × Leads (g.K.Keeper.records l.fn.keeper) (g.D.DocReader.document l.fn.tables) (g.D.DocReader.document l.tables) l.number
    × IsWhole (g.D.DocReader.document l.tables)
