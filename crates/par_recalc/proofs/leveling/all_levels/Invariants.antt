use Rattle.std.proofs.Common.{ℕ, ◌≡◌, List, map, length, Some, slice_get}
use Rattle.par_recalc.specs.Levels.{marks, places_of}
use Rattle.par_recalc.proofs.RoundLemmas.{unmarked}
use Rattle.par_recalc.proofs.leveling.all_levels.Given as goal

abbrev pub invariant-rounds : goal.invariant-rounds
invariant-rounds l = record {
  marked : l.before.items ≡ marks l.formulas (length l.levels.items);
  found : (k : ℕ) (ps : List ℕ) → slice_get (map (λ v. v.items) l.levels.items) k ≡ Some ps → ps ≡ places_of l.formulas k;
}

abbrev pub decreases-rounds : goal.decreases-rounds
decreases-rounds l = unmarked l.before.items
