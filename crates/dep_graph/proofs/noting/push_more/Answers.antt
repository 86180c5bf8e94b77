use Rattle.std.proofs.Common.{◌++◌, sym, subst}
use Rattle.dep_graph.specs.Runs.{more_cells}
use Rattle.dep_graph.specs.Sources.{AreNumbers, sources}
use Rattle.dep_graph.proofs.NameLaws.{numbers_stay}
use Rattle.dep_graph.proofs.RunLaws.{numbers_of_cells, on_ok}
use Rattle.dep_graph.proofs.noting.push_more.Goals as goal

pub returns-clause-ok : goal.returns-clause-ok
returns-clause-ok c done h =
    let now = c.column_number.new.names in
    on_ok c.push_cells.result
    (λ e. subst (AreNumbers now (done ++ sources (more_cells c.args.table.now c.args.column.now c.args.rows.now))) (sym e)
    (numbers_of_cells now c.args.table.now c.args.column.now c.in_ok-column.column c.in_ok-column.ensures.ok c.args.rows.now done c.args.reads.now.items
    (numbers_stay c.args.names.now now c.column_number.ensures.grown done c.args.reads.now.items h))) c.push_cells.ensures
