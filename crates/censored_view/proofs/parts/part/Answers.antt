use Rattle.std.proofs.Common.{◌∙◌, subst, sym}
use Rattle.doc_model.specs.Changes.{IsView}
use Rattle.censored_view.proofs.PartsMade.{part_made}
use Rattle.censored_view.proofs.ViewLemmas.{IsView-part}
use Rattle.censored_view.proofs.parts.part.Goals as goal

pub returns-clause-tables : goal.returns-clause-tables
returns-clause-tables g c =
    c.from.ensures ∙ c.in_ok-shown.ensures
    ∙ part_made (g.S.Selection.takes c.args.selection.now) (g.S.Selection.takes_row c.args.selection.now) (g.X.Lets.lets c.args.ctx.now) (g.D.DocReader.document c.args.tables.now) c.requires

pub returns-clause-is_view : goal.returns-clause-is_view
returns-clause-is_view g c =
    subst IsView (sym (c.from.ensures ∙ c.in_ok-shown.ensures))
    (IsView-part (g.X.Lets.lets c.args.ctx.now) (g.D.DocReader.document c.args.tables.now) c.requires (g.S.Selection.takes c.args.selection.now) (g.S.Selection.takes_row c.args.selection.now))
