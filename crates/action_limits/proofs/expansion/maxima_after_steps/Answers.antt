use Rattle.std.proofs.Common.{◌∙◌, sym}
use Rattle.action_limits.proofs.StepMoves.{first_valid, kept_maxima, no_steps}
use Rattle.action_limits.proofs.expansion.maxima_after_steps.Goals as goal

pub returns-then-is_empty : goal.returns-then-is_empty
returns-then-is_empty g c =
    no_steps (g.D.DocReader.document c.args.tables.now) c.args.steps.now c.maxima_before.result (sym c.is_empty.ensures ∙ c.if-is_empty.true) c.maxima_before.ensures

pub maxima_after-requires : goal.maxima_after-requires
maxima_after-requires g c = record {
  whole = c.requires.whole;
  within = c.requires.within;
  valid = first_valid (g.D.DocReader.document c.args.tables.now) c.args.steps.now c.index-steps-0.result (sym c.is_empty.ensures ∙ c.if-is_empty.false) c.requires.valid;
}

pub returns : goal.returns
returns g c =
    kept_maxima (g.D.DocReader.document c.args.tables.now) c.args.steps.now c.index-steps-0.result c.maxima_after.result c.requires.whole c.requires.valid c.requires.quiet
    (sym c.is_empty.ensures ∙ c.if-is_empty.false) c.maxima_after.ensures
