use Rattle.std.proofs.Common.{◌&&◌, sym, ap, ◌∙◌}
use Rattle.doc_model.specs.Rows.{has}
use Rattle.doc_readers.specs.Parts.{grid_at}
use Rattle.censored_view.specs.Questions.{is_read}
use Rattle.censored_view.specs.Readable.{row_of}
use Rattle.censored_view.proofs.QuestionLemmas.{row_seen}
use Rattle.censored_view.proofs.questions.is_row_seen.Goals as goal

pub returns-then-not-holds_row : goal.returns-then-not-holds_row
returns-then-not-holds_row g c =
    let x = g.X.Lets.lets c.args.ctx.now in
    let s = g.D.DocReader.document c.args.tables.now in
    let t = c.args.table.now in
    ap (λ b. b && is_read (x t) (grid_at s t).columns (row_of (grid_at s t) c.args.row))
    (sym (ap (λ rows. has rows c.args.row) (sym c.rows_in.ensures.value) ∙ sym c.holds_row.ensures ∙ c.if-not-holds_row.true))
    ∙ row_seen x s c.requires t c.args.row

pub returns : goal.returns
returns g c =
    let x = g.X.Lets.lets c.args.ctx.now in
    let s = g.D.DocReader.document c.args.tables.now in
    let t = c.args.table.now in
    c.is_read.ensures
    ∙ ap (λ b. b && is_read (x t) (grid_at s t).columns (row_of (grid_at s t) c.args.row))
    (sym (ap (λ rows. has rows c.args.row) (sym c.rows_in.ensures.value) ∙ sym c.holds_row.ensures ∙ c.if-not-holds_row.false))
    ∙ row_seen x s c.requires t c.args.row
