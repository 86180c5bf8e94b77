use Rattle.std.proofs.Common.{false, [], ◌∷◌, ◌++◌, ◌+◌, ◌<◌, ap, sym, ◌∙◌, append_assoc, arith, drop, length}
use Rattle.par_recalc.specs.Rounds.{blank}
use Rattle.par_recalc.proofs.RoundLemmas.{blank_left}
use Rattle.par_recalc.proofs.leveling.blank.Goals as goal

pub loop-column-preserved : goal.loop-column-preserved
loop-column-preserved c =
    let fs = c.args.formulas.now in
    let i = c.loop-column._column-index in
    let rest = blank (drop (i + 1) fs) in
    let within : i < length fs = omega arith in
    ap (λ l. l ++ rest) c.in_ok-push.ensures.items
    ∙ append_assoc c.loop-column.marks.items (false ∷ []) rest
    ∙ sym (ap (λ l. c.loop-column.marks.items ++ l) (blank_left fs i within))
    ∙ c.loop-column.invariant
