use Rattle.std.proofs.Common.{sym, ◌∙◌}
use Rattle.std.proofs.lemmas.Bool.{false≢true}
use Rattle.std.proofs.lemmas.Result.{IfOk-weaker}
use Rattle.rule_contexts.specs.Context.{view}
use Rattle.bundle_core.proofs.FetchLemmas.{fetched_some}
use Rattle.bundle_core.proofs.dispatch.fetch_reply.Goals as goal

pub returns : goal.returns
returns g c =
    let v = view c.args.user.now (g.D.DocReader.document c.args.doc.now) in
    IfOk-weaker c.reply_showing.result _ _ (λ l e. fetched_some c.args.table.now v c.in_ok-asked.asked.tables l c.in_ok-asked.ensures.seen (λ none. false≢true (sym c.if-is_empty.false ∙ c.is_empty.ensures.1 none)) e) c.reply_showing.ensures
