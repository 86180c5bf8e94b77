use Rattle.std.proofs.Common.{◌&&◌, sym, ap, ◌∙◌}
use Rattle.doc_readers.specs.Parts.{grid_at}
use Rattle.censored_view.specs.View.{is_shown}
use Rattle.censored_view.proofs.QuestionLemmas.{table_seen}
use Rattle.censored_view.proofs.questions.is_table_seen.Goals as goal

pub returns-then-has_table : goal.returns-then-has_table
returns-then-has_table g c =
    let x = g.X.Lets.lets c.args.ctx.now in
    let s = g.D.DocReader.document c.args.tables.now in
    let t = c.args.table.now in
    c.is_shown.ensures
    ∙ ap (λ b. b && is_shown (x t) (grid_at s t).columns) (sym (sym c.has_table.ensures ∙ c.if-has_table.true))
    ∙ table_seen x s c.requires t

pub returns-else-has_table : goal.returns-else-has_table
returns-else-has_table g c =
    let x = g.X.Lets.lets c.args.ctx.now in
    let s = g.D.DocReader.document c.args.tables.now in
    let t = c.args.table.now in
    c.if-has_table.false
    ∙ ap (λ b. b && is_shown (x t) (grid_at s t).columns) (sym (sym c.has_table.ensures ∙ c.if-has_table.false))
    ∙ table_seen x s c.requires t
