use Rattle.std.proofs.Common.{true, ◌≡◌, length, unwrap_or}
use Rattle.std.specs.Option.{is_some}
use Rattle.cell_types.specs.declared.cell.CellId.{CellId}
use Rattle.recalc.specs.Evaluated.{formula_at}
use Rattle.recalc.specs.Kept.{IsKeptOf, held_at}
use Rattle.affected_values.specs.Taken.{taken_of}
use Rattle.affected_values.proofs.taking.put_values_back.Given as goal

abbrev pub invariant-putting : goal.invariant-putting
invariant-putting g l = record {
  of_document : IsKeptOf (g.D.DocReader.document l.tables) l.kept.items;
  back : (c : CellId) → is_some (formula_at (g.D.DocReader.document l.tables) c) ≡ true
      → unwrap_or (taken_of l.taken.items c) (held_at (g.D.DocReader.document l.tables) l.kept.items c)
      ≡ unwrap_or (taken_of l.fn.taken.items c) (held_at (g.D.DocReader.document l.tables) l.initial.kept.items c);
}

abbrev pub decreases-putting : goal.decreases-putting
decreases-putting g l = length l.taken.items
