use Rattle.std.proofs.Common.{sym, ap, ◌∙◌}
use Rattle.censored_view.specs.Rows.{rows_at}
use Rattle.censored_view.specs.View.{shown_rows}
use Rattle.censored_view.proofs.TableWalk.{seen_absent, seen_hidden, seen_made}
use Rattle.censored_view.proofs.tables.seen_part.Goals as goal

pub returns-then-not-has_table : goal.returns-then-not-has_table
returns-then-not-has_table g c =
    seen_absent (g.X.Lets.lets c.args.ctx.now c.args.table.now) (g.D.DocReader.document c.args.tables.now) c.args.table.now c.args.rows.now
    (sym c.has_table.ensures ∙ c.if-not-has_table.true)

pub returns-then-not-is_shown : goal.returns-then-not-is_shown
returns-then-not-is_shown g c =
    seen_hidden (g.X.Lets.lets c.args.ctx.now c.args.table.now) (g.D.DocReader.document c.args.tables.now) c.args.table.now c.args.rows.now
    (sym c.has_table.ensures ∙ c.if-not-has_table.false) (sym c.is_shown.ensures ∙ c.if-not-is_shown.true)

pub returns : goal.returns
returns g c =
    let x = g.X.Lets.lets c.args.ctx.now c.args.table.now in
    let s = g.D.DocReader.document c.args.tables.now in
    let id = c.args.table.now in
    seen_made x s id c.args.rows.now (sym c.has_table.ensures ∙ c.if-not-has_table.false) c.in_ok-shown.shown (sym c.is_shown.ensures ∙ c.if-not-is_shown.false)
    (c.in_ok-shown.ensures ∙ ap (λ ds. shown_rows x id ds (rows_at s id c.args.rows.now)) c.in_ok-columns.ensures)
