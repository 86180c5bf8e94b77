use Rattle.std.proofs.Common.{subst}
use Rattle.recalc.specs.Evaluated.{sheet_of}
use Rattle.recalc.specs.Indexes.{AreIndexes}
use Rattle.affected_values.proofs.LeftIndexes.{last_index}
use Rattle.affected_values.proofs.indexing.leave_each.Goals as goal

pub leave_index-requires : goal.leave_index-requires
leave_index-requires g c =
    let s = sheet_of (g.D.DocReader.document c.args.tables.now) in
    last_index s c.pop.new.self.items c.in-Some.index (subst (AreIndexes s) c.in-Some.ensures.items c.leaving.invariant.rest)
