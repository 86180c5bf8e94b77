use Rattle.std.proofs.Common.{None, Some, cond, ap, sym, ◌∙◌, arith}
use Rattle.std.specs.HashMap.{get_by_text}
use Rattle.std.specs.Option.{option_or}
use Rattle.std.specs.Str.{bytes_eq}
use Rattle.par_recalc.specs.declared.plan.ColumnFormula.{ColumnFormula}
use Rattle.par_recalc.proofs.NumberLemmas.{number_end, number_more}
use Rattle.par_recalc.proofs.numbers.numbers_by_id.Goals as goal

pub loop-place-preserved : goal.loop-place-preserved
loop-place-preserved c = λ q.
    number_more c.args.formulas.now c.loop-place.place c.index-formulas-place.result q
    (get_by_text c.loop-place.numbers q) (get_by_text c.note_place.new.numbers q)
    c.loop-place-test.true c.index-formulas-place.is
    (c.in_ok-note_place.ensures q ∙ ap (λ (f : ColumnFormula). option_or (get_by_text c.loop-place.numbers q) (cond (bytes_eq f.column q) (Some c.loop-place.place) None)) (sym c.index-formulas-place.is))
    (c.loop-place.invariant q)

pub returns : goal.returns
returns c = λ q. number_end c.args.formulas.now c.loop-place.place q _ (omega arith) (c.loop-place.invariant q)
