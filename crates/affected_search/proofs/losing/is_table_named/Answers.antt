use Rattle.std.proofs.Common.{◌≡◌, ◌∙◌, ap, length, not, sym, rules}
use Rattle.affected_search.proofs.LosingLaws.{no_number, nothing_there, unknown_table}
use Rattle.affected_search.proofs.losing.is_table_named.Goals as goal

pub returns-then-is_none : goal.returns-then-is_none
returns-then-is_none g c =
    let counts : length c.in_ok-written.written.items ≡ 0 = search rules in
    sym (unknown_table c.args.named.now.graph.now.names c.args.named.now.index.now (g.R.DocReader.document c.args.doc.now) c.args.named.now.action.now c.args.table.now
    (sym c.number.ensures ∙ no_number c.number.result (c.is_none.ensures ∙ ap not c.if-is_none.true))
    (sym c.in_ok-written.ensures ∙ nothing_there c.in_ok-written.written.items counts))
