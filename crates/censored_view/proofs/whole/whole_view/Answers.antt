use Rattle.std.proofs.Common.{◌∙◌, subst, sym}
use Rattle.doc_model.specs.Changes.{IsView}
use Rattle.censored_view.proofs.ViewLemmas.{IsView-view, part_whole}
use Rattle.censored_view.proofs.whole.whole_view.Goals as goal

pub returns-clause-tables : goal.returns-clause-tables
returns-clause-tables g c =
    c.from.ensures ∙ c.in_ok-shown.ensures ∙ part_whole (g.X.Lets.lets c.args.ctx.now) (g.D.DocReader.document c.args.tables.now)

pub returns-clause-is_view : goal.returns-clause-is_view
returns-clause-is_view g c =
    subst IsView (sym (c.from.ensures ∙ c.in_ok-shown.ensures ∙ part_whole (g.X.Lets.lets c.args.ctx.now) (g.D.DocReader.document c.args.tables.now)))
    (IsView-view (g.X.Lets.lets c.args.ctx.now) (g.D.DocReader.document c.args.tables.now) c.requires)
