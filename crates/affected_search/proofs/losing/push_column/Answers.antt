use Rattle.std.proofs.Common.{◌≡◌, ◌∙◌, ◌++◌, ap, filter, subst, sym}
use Rattle.std.specs.Prelude.{OnOk}
use Rattle.doc_model.specs.Rows.{has}
use Rattle.doc_readers.specs.Parts.{grid_at}
use Rattle.recalc.specs.Lost.{cells_at}
use Rattle.affected_search.specs.Losing.{named_rows}
use Rattle.affected_search.proofs.LosingLaws.{column_named}
use Rattle.affected_search.proofs.losing.push_column.Goals as goal

pub returns : goal.returns
returns g c =
    let v = g.R.DocReader.document c.args.doc.now in
    let t = c.args.table.now in
    let k = c.args.column.now in
    let names = c.args.named.now.graph.now.names in
    let index = c.args.named.now.index.now in
    let a = c.args.named.now.action.now in
    subst (λ l. OnOk c.push_there.result (c.push_there.new.cells.items ≡ c.args.cells.now.items ++ l))
    (ap (λ rows. cells_at t (grid_at v t) k (filter (has rows) (grid_at v t).rows)) (c.in_ok-rows.ensures ∙ ap (λ written. named_rows names index a t written k) c.requires)
    ∙ sym (column_named names index v a t k))
    c.push_there.ensures
