use Rattle.std.proofs.Common.{◌+◌, ◌≤◌, length, vec_len, vec_capacity}
use Rattle.recalc.specs.Kept.{IsKeptOf, held_at}
use Rattle.affected_values.proofs.TakenLemmas.{IsTaking}
use Rattle.affected_values.proofs.taking.take_values.Given as goal

abbrev pub invariant-taking : goal.invariant-taking
invariant-taking g l = record {
  of_document : IsKeptOf (g.D.DocReader.document l.tables) l.kept.items;
  taking : IsTaking l.fn.cells.items l.cells.items l.taken.items
      (held_at (g.D.DocReader.document l.tables) l.initial.kept.items)
      (held_at (g.D.DocReader.document l.tables) l.kept.items);
  room : length l.cells.items + vec_len l.taken ≤ vec_capacity l.taken;
}

abbrev pub decreases-taking : goal.decreases-taking
decreases-taking g l = length l.cells.items
