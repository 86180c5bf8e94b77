use Rattle.std.proofs.Common.{◌≡◌, ℤ, sym, ◌∙◌, subst, rules, w64}
use Rattle.std.proofs.lemmas.Bool.{false≢true}
use Rattle.std.proofs.lemmas.Int.{to_z-of_z}
use Rattle.std.specs.Int.RustNames.{FitsSigned}
use Rattle.value_ops.specs.Division.{floored_quotient}
use Rattle.value_ops.proofs.Divisions.{quotient_up, quotient_down, not_zero}
use Rattle.value_ops.proofs.division.quotient.Goals as goal

pub returns-then-leans_away : goal.returns-then-leans_away
returns-then-leans_away c =
    let a : ℤ = c.args.dividend in
    let b : ℤ = c.args.divisor in
    let fits_a : FitsSigned w64 a = c.ranges.dividend in
    let fits_b : FitsSigned w64 b = c.ranges.divisor in
    let fits_q : FitsSigned w64 c.in_ok-toward_zero.toward_zero = search rules in
    let fits_r : FitsSigned w64 c.wrapping_rem.result = search rules in
    let divides = simp to_z-of_z at c.in_ok-toward_zero.ensures in
    let leaves = simp to_z-of_z at c.wrapping_rem.ensures in
    let leans = simp to_z-of_z at (c.leans_away.ensures.0) in
    let less = simp to_z-of_z at c.checked_sub.ensures in
    quotient_up a b _ _ _ (not_zero b c.requires) divides.1 leaves (leans c.if-leans_away.true) less

pub returns-else-leans_away : goal.returns-else-leans_away
returns-else-leans_away c =
    let a : ℤ = c.args.dividend in
    let b : ℤ = c.args.divisor in
    let fits_a : FitsSigned w64 a = c.ranges.dividend in
    let fits_b : FitsSigned w64 b = c.ranges.divisor in
    let fits_q : FitsSigned w64 c.in_ok-toward_zero.toward_zero = search rules in
    let fits_r : FitsSigned w64 c.wrapping_rem.result = search rules in
    let divides = simp to_z-of_z at c.in_ok-toward_zero.ensures in
    let leaves = simp to_z-of_z at c.wrapping_rem.ensures in
    let leans = simp to_z-of_z at (c.leans_away.ensures.1) in
    let is : c.in_ok-toward_zero.toward_zero ≡ floored_quotient a b =
    quotient_down a b _ _ (not_zero b c.requires) divides.1 leaves (λ l. false≢true (sym c.if-leans_away.false ∙ leans l)) in
    (subst (λ x. FitsSigned w64 x) is fits_q, simp to_z-of_z is)
