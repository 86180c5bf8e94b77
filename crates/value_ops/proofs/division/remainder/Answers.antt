use Rattle.std.proofs.Common.{ℤ, sym, ◌∙◌, rules, w64}
use Rattle.std.proofs.lemmas.Bool.{false≢true}
use Rattle.std.proofs.lemmas.Int.{to_z-of_z}
use Rattle.std.specs.Int.RustNames.{FitsSigned}
use Rattle.value_ops.proofs.Divisions.{rest_up, rest_down, fits_up, not_zero}
use Rattle.value_ops.proofs.division.remainder.Goals as goal

pub returns-then-leans_away : goal.returns-then-leans_away
returns-then-leans_away c =
    let a : ℤ = c.args.dividend in
    let b : ℤ = c.args.divisor in
    let fits_a : FitsSigned w64 a = c.ranges.dividend in
    let fits_b : FitsSigned w64 b = c.ranges.divisor in
    let fits_r : FitsSigned w64 c.wrapping_rem-rest.result = search rules in
    let leaves = simp to_z-of_z at c.wrapping_rem-rest.ensures in
    let leans = simp to_z-of_z at (c.leans_away.ensures.0) in
    let away = leans c.if-leans_away.true in
    let fits = fits_up b _ away fits_b fits_r in
    simp to_z-of_z (rest_up a b _ (not_zero b c.requires) leaves away)

pub returns-else-leans_away : goal.returns-else-leans_away
returns-else-leans_away c =
    let a : ℤ = c.args.dividend in
    let b : ℤ = c.args.divisor in
    let fits_a : FitsSigned w64 a = c.ranges.dividend in
    let fits_b : FitsSigned w64 b = c.ranges.divisor in
    let fits_r : FitsSigned w64 c.wrapping_rem-rest.result = search rules in
    let leaves = simp to_z-of_z at c.wrapping_rem-rest.ensures in
    let leans = simp to_z-of_z at (c.leans_away.ensures.1) in
    let is = rest_down a b _ (not_zero b c.requires) leaves (λ l. false≢true (sym c.if-leans_away.false ∙ leans l)) in
    simp to_z-of_z is
