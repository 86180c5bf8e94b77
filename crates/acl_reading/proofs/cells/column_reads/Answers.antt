use Rattle.std.proofs.Common.{◌∙◌, ap}
use Rattle.acl_rules.specs.Chain.{of_column}
use Rattle.acl_reading.specs.Shown.{reading_row}
use Rattle.acl_reading.specs.Walking.{reads_among}
use Rattle.acl_reading.proofs.WalkLemmas.{column_read}
use Rattle.acl_reading.proofs.cells.column_reads.Goals as goal

pub returns : goal.returns
returns g c =
    let x = reading_row c.args.user.now (g.W.RowReader.told c.args.row.now) in
    c.reads_among.ensures
    ∙ ap (reads_among x (of_column c.args.table.now c.args.column.now) c.args.book.now) c.places_on.ensures
    ∙ column_read x c.args.book.now c.args.table.now c.args.column.now
