use Rattle.std.proofs.Common.{◌∙◌, subst, sym, ap}
use Rattle.doc_model.specs.Changes.{IsView, changes}
use Rattle.censored_view.specs.Parts.{part}
use Rattle.action_censor.specs.Back.{back}
use Rattle.action_censor.specs.Step.{is_row_of, is_table_of}
use Rattle.action_censor.proofs.PartLemmas.{after_is_view, after_part, before_is_view, before_part}
use Rattle.action_censor.proofs.following.follow.Goals as goal

pub changes-requires-clause-before : goal.changes-requires-clause-before
changes-requires-clause-before g c =
    subst IsView (sym (c.from.ensures ∙ c.in_ok-parts.ensures.before))
    (before_is_view c.requires.touched.0 (g.X.Lets.lets c.args.ctx.now) (g.D.DocReader.document c.args.tables.now) c.args.touched.now c.requires.touched.1 c.requires.laid_out)

pub changes-requires-clause-after : goal.changes-requires-clause-after
changes-requires-clause-after g c =
    subst IsView (sym (c.from-2.ensures ∙ c.in_ok-parts.ensures.after))
    (after_is_view c.requires.touched.0 (g.X.Lets.lets c.args.ctx.now) (g.D.DocReader.document c.args.tables.now) c.args.touched.now c.requires.touched.1 c.requires.laid_out)

pub returns : goal.returns
returns g c = λ ks are.
    let x = g.X.Lets.lets c.args.ctx.now in
    let s = g.D.DocReader.document c.args.tables.now in
    c.in_ok-told.ensures
    ∙ ap (λ v. changes v c.from-2.result) (c.from.ensures ∙ c.in_ok-parts.ensures.before ∙ before_part ks x s c.args.touched.now are c.requires.laid_out)
    ∙ ap (changes (part (is_table_of ks) (is_row_of ks) x (back ks s))) (c.from-2.ensures ∙ c.in_ok-parts.ensures.after ∙ after_part ks x s c.args.touched.now are c.requires.laid_out)
    ∙ c.narrow_law.ensures ks x s c.requires.laid_out c.requires.schema
