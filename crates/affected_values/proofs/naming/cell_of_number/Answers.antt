use Rattle.std.proofs.Common.{ap, Some, slice_get}
use Rattle.affected_values.proofs.NamedLemmas.{cell_named, column_named, not_named, numbered_cell, table_named}
use Rattle.affected_values.proofs.naming.cell_of_number.Goals as goal

pub returns-in_default-clause-cell : goal.returns-in_default-clause-cell
returns-in_default-clause-cell c = λ d h. absurd (not_named (slice_get c.args.graph.now.names c.args.number.column.table) d.table c.in_default.ensures.name (table_named c.args.graph.now.names d c.args.number h))

pub returns-in_default-name-clause-cell : goal.returns-in_default-name-clause-cell
returns-in_default-name-clause-cell c = λ d h. absurd (not_named (slice_get c.args.graph.now.names c.args.number.column.column) d.column c.in_default-name.ensures.name (column_named c.args.graph.now.names d c.args.number h))

pub returns-clause-cell : goal.returns-clause-cell
returns-clause-cell c = λ d h. ap (λ x. Some x) (cell_named c.args.graph.now.names d c.args.number h c.in-Some.table.now c.in-Some-name.column.now c.in-Some.ensures.name c.in-Some-name.ensures.name c.in_ok-cell_id.field-0 c.in_ok-cell_id.ensures)

pub returns-clause-number : goal.returns-clause-number
returns-clause-number c =
    numbered_cell c.args.graph.now.names c.args.number c.in-Some.table.now c.in-Some-name.column.now c.in-Some.ensures.number c.in-Some-name.ensures.number c.in_ok-cell_id.field-0 c.in_ok-cell_id.ensures
