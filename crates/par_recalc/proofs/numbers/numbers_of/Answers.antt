use Rattle.std.proofs.Common.{◌++◌, ◌+◌, ◌∙◌, append_assoc, ap, drop, sym}
use Rattle.std.specs.Prelude.{option_to_list}
use Rattle.par_recalc.specs.Numbers.{numbers_of}
use Rattle.par_recalc.proofs.RoundLemmas.{numbers_left}
use Rattle.par_recalc.proofs.numbers.numbers_of.Goals as goal

pub loop-id-preserved : goal.loop-id-preserved
loop-id-preserved c =
    let fs = c.args.numbers.now in
    let ids = c.args.ids.now in
    let i = c.loop-id.id-index in
    let rest = numbers_of fs (drop (i + 1) ids) in
    ap (λ l. l ++ rest) c.in_ok-push_number.ensures
    ∙ append_assoc c.loop-id.all (option_to_list c.number.result) rest
    ∙ ap (λ o. c.loop-id.all ++ (option_to_list o ++ rest)) c.number.ensures
    ∙ sym (ap (λ l. c.loop-id.all ++ l) (numbers_left fs ids i c.id-item.result c.loop-id-test.true c.id-item.is))
    ∙ c.loop-id.invariant
