use Rattle.std.proofs.Common.{◌∙◌, ap, subst, sym, ltb}
use Rattle.doc_model.specs.Apply.{apply}
use Rattle.action_limits.specs.Left.{TellsMaxima}
use Rattle.action_limits.proofs.Bringing.{brought_told}
use Rattle.action_limits.proofs.MaximaMoves.{never-less}
use Rattle.action_limits.proofs.Rising.{TellsBrought, more_told, most_told, within_told}
use Rattle.action_limits.proofs.StepMoves.{below_within}
use Rattle.action_limits.proofs.maxima.maxima_after.Goals as goal

pub returns-then-within : goal.returns-then-within
returns-then-within g c =
    let s = g.D.DocReader.document c.args.tables.now in
    let a = c.args.action.now in
    subst (λ e. TellsMaxima e (apply s a)) (sym c.maxima_brought.ensures)
    (within_told s (apply s a) _ (brought_told s a c.requires.whole c.requires.valid) (below_within s (sym c.requires.within ∙ c.if-within.true)))

pub returns : goal.returns
returns g c =
    let s = g.D.DocReader.document c.args.tables.now in
    let a = c.args.action.now in
    let before : TellsMaxima c.greatest_maxima-before.result s = record {
      columns = ap (ltb 1024) c.greatest_maxima-before.ensures.columns;
      rows = ap (ltb 1000000) c.greatest_maxima-before.ensures.rows;
      row_id = ap (ltb 4294967295) c.greatest_maxima-before.ensures.row_id;
    } in
    let brought : TellsBrought c.maxima_brought-2.result s (apply s a) = subst (λ e. TellsBrought e s (apply s a)) (sym c.maxima_brought-2.ensures) (brought_told s a c.requires.whole c.requires.valid) in
    most_told s (apply s a) c.greatest_maxima-before.result c.maxima_brought-2.result c.wider.result before
    (more_told s (apply s a) c.maxima_brought-2.result brought (never-less s a c.requires.whole c.requires.valid (sym c.takes_away.ensures ∙ c.if-takes_away.false)))
    c.wider.ensures.columns c.wider.ensures.rows c.wider.ensures.row_id
