use Rattle.std.proofs.Common.{ap, ◌∙◌}
use Rattle.std.proofs.lemmas.Result.{IfOk-weaker}
use Rattle.doc_model.specs.ByIds.{find_id}
use Rattle.doc_model.specs.Document.{table_id}
use Rattle.censored_view.specs.Parts.{seen_part}
use Rattle.censored_view.proofs.QuestionLemmas.{table_found}
use Rattle.censored_view.proofs.questions.seen_table.Goals as goal

pub returns : goal.returns
returns g c =
    let x = g.X.Lets.lets c.args.ctx.now in
    let s = g.D.DocReader.document c.args.tables.now in
    let t = c.args.table.now in
    IfOk-weaker c.seen_part.result _ _
    (λ o e. e ∙ ap (seen_part (x t) t (find_id table_id t s)) c.rows_in.ensures.value ∙ table_found x s c.requires t) c.seen_part.ensures
