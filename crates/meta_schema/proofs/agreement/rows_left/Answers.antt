use Rattle.std.proofs.Common.{◌<◌, length, sym, ◌∙◌, arith}
use Rattle.doc_readers.specs.Parts.{grid_at}
use Rattle.meta_schema.specs.Agreement.{are_said}
use Rattle.meta_schema.proofs.AgreementWalks.{column_within, column_passed, column_low, column_unsaid, columns_end, not_all, too_many}
use Rattle.meta_schema.proofs.agreement.rows_left.Goals as goal
use Rattle.meta_schema.proofs.agreement.rows_left.Goals.{then-index-left-via-then-index-left, then-index-left-via-else-index-left+then-column-low, then-index-left-via-else-index-left+else-column-low+then-not-is_said}

pub returns-then-index-left : goal.returns-then-index-left
returns-then-index-left g c =
    let s = g.D.DocReader.document c.args.tables.now in
    let t = c.args.table.now in
    let columns = (grid_at s t).columns in
    let within : c.loop-column.index < length columns = column_within s t c.loop-column.index c.in-Some.column.now c.in-Some.ensures.told in
    elim c.then-index-left.branch [
      | then-index-left-via-then-index-left w ↦ too_many (are_said s c.args.parent 0 columns) (length columns) c.args.left (omega arith)
      | then-index-left-via-else-index-left+then-column-low w ↦ not_all (are_said s c.args.parent 0 columns) (length columns) c.args.left (column_low s t c.args.parent c.loop-column.index c.loop-column.low c.loop-column.invariant.rest c.in-Some.column.now c.in-Some.ensures.told w.if-column-low.true)
      | then-index-left-via-else-index-left+else-column-low+then-not-is_said w ↦ not_all (are_said s c.args.parent 0 columns) (length columns) c.args.left (column_unsaid s t c.args.parent c.loop-column.index c.loop-column.low c.loop-column.invariant.rest c.in-Some.column.now c.in-Some.ensures.told (sym w.is_said.ensures ∙ w.if-not-is_said.true))
    ]

pub loop-column-smaller : goal.loop-column-smaller
loop-column-smaller g c =
    let s = g.D.DocReader.document c.args.tables.now in
    let within : c.loop-column.index < length (grid_at s c.args.table.now).columns = column_within s c.args.table.now c.loop-column.index c.in-Some.column.now c.in-Some.ensures.told in
    omega arith

pub loop-column-preserved : goal.loop-column-preserved
loop-column-preserved g c =
    let s = g.D.DocReader.document c.args.tables.now in
    let t = c.args.table.now in
    let within : c.loop-column.index < length (grid_at s t).columns = column_within s t c.loop-column.index c.in-Some.column.now c.in-Some.ensures.told in
    record {
      within = omega arith;
      passed = omega arith;
      rest = column_passed s t c.args.parent c.loop-column.index c.loop-column.low c.loop-column.invariant.rest c.in-Some.column.now c.in-Some.ensures.told c.if-column-low.false (sym c.is_said.ensures ∙ c.if-not-is_said.false);
    }

pub returns : goal.returns
returns g c =
    columns_end (g.D.DocReader.document c.args.tables.now) c.args.table.now c.args.parent c.loop-column.index c.loop-column.low c.loop-column.invariant.rest c.args.left c.in_default.ensures.told c.loop-column.invariant.within c.loop-column.invariant.passed
