use Rattle.std.proofs.Common.{◌&&◌, sym, ap, ◌∙◌}
use Rattle.censored_view.proofs.QuestionLemmas.{column_seen}
use Rattle.censored_view.proofs.questions.is_column_seen.Goals as goal

pub returns-then-has_column : goal.returns-then-has_column
returns-then-has_column g c =
    let x = g.X.Lets.lets c.args.ctx.now in
    c.is_column_shown.ensures
    ∙ ap (λ b. b && (x c.args.table.now).column c.args.column.now) (sym (sym c.has_column.ensures ∙ c.if-has_column.true))
    ∙ column_seen x (g.D.DocReader.document c.args.tables.now) c.requires c.args.table.now c.args.column.now

pub returns-else-has_column : goal.returns-else-has_column
returns-else-has_column g c =
    let x = g.X.Lets.lets c.args.ctx.now in
    c.if-has_column.false
    ∙ ap (λ b. b && (x c.args.table.now).column c.args.column.now) (sym (sym c.has_column.ensures ∙ c.if-has_column.false))
    ∙ column_seen x (g.D.DocReader.document c.args.tables.now) c.requires c.args.table.now c.args.column.now
