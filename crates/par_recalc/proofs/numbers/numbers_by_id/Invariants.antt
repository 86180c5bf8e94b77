use Rattle.std.proofs.Common.{◌≡◌, List, ℕ, drop}
use Rattle.std.specs.HashMap.{get_by_text}
use Rattle.std.specs.Option.{option_or}
use Rattle.par_recalc.specs.Numbers.{number_from, number_of}
use Rattle.par_recalc.proofs.numbers.numbers_by_id.Given as goal

abbrev pub invariant-loop-place : goal.invariant-loop-place
invariant-loop-place l = (q : List ℕ) → option_or (get_by_text l.numbers q) (number_from l.place (drop l.place l.formulas) q) ≡ number_of l.formulas q
