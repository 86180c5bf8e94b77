use Rattle.dep_graph.specs.Readers.{lists_of}
use Rattle.dep_graph.proofs.ReaderLaws.{links-put, links-same, on_ok, on_err, columns_linked, columns_same, backable_put, backable_same, ok_or_err}
use Rattle.dep_graph.proofs.readers.add_cell.Goals as goal

pub returns-clause-ok : goal.returns-clause-ok
returns-clause-ok c =
    on_ok c.insert.result (links-put (lists_of c.args.rows.now c.args.columns.now.entries) (lists_of c.insert.new.self c.list_column.new.columns.entries) c.args.read c.args.cell) c.insert.ensures.ok

pub returns-clause-err : goal.returns-clause-err
returns-clause-err c =
    on_err c.insert.result (links-same (lists_of c.args.rows.now c.args.columns.now.entries) (lists_of c.insert.new.self c.list_column.new.columns.entries)) c.insert.ensures.err

pub returns-clause-columns : goal.returns-clause-columns
returns-clause-columns c =
    let old = lists_of c.args.rows.now c.args.columns.now.entries in
    let new = lists_of c.insert.new.self c.list_column.new.columns.entries in
    ok_or_err c.insert.result
    (λ put. columns_linked old new c.args.read c.args.cell (links-put old new c.args.read c.args.cell put) c.list_column.ensures.keeps c.in_ok-list_column.ensures.there c.requires)
    (λ same. columns_same old new (links-same old new same) c.list_column.ensures.keeps c.requires) c.insert.ensures.ok c.insert.ensures.err

pub returns-clause-backable : goal.returns-clause-backable
returns-clause-backable c =
    let old = lists_of c.args.rows.now c.args.columns.now.entries in
    let new = lists_of c.insert.new.self c.list_column.new.columns.entries in
    ok_or_err c.insert.result
    (λ put. backable_put old new c.args.cell c.list_column.ensures.keeps c.insert.ensures.room c.args.read put)
    (λ same. backable_same old new c.args.cell c.list_column.ensures.keeps c.insert.ensures.room same) c.insert.ensures.ok c.insert.ensures.err
