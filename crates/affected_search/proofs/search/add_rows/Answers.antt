use Rattle.std.proofs.Common.{false, ◌&&◌, get_or, refl}
use Rattle.std.proofs.lemmas.Bool.{false≢true, and_parts}
use Rattle.dep_graph.specs.declared.numbers.CellNumber.{CellNumber}
use Rattle.dep_graph.specs.Numbers.{is_column}
use Rattle.affected_search.proofs.FoundLaws.{more_none, row_step}
use Rattle.affected_search.proofs.search.add_rows.Goals as goal

pub loop-row-init : goal.loop-row-init
loop-row-init c = more_none c.args.found.now (λ (d : CellNumber). is_column c.args.column d.column && false) (λ d h. absurd (false≢true (and_parts (is_column c.args.column d.column) false h).1))

pub loop-row-preserved : goal.loop-row-preserved
loop-row-preserved c =
    let i = c.loop-row.row-index in
    let rows = c.args.rows.now in
    row_step c.args.found.now c.loop-row.found c.add.new.self c.args.column rows i (get_or rows i 0) c.loop-row-test.true refl c.loop-row.invariant c.in_ok-add.ensures.ok
