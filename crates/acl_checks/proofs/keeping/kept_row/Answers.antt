use Rattle.std.proofs.Common.{refl}
use Rattle.acl_formula.specs.declared.user_info.AttributeRow.{AttributeRow}
use Rattle.acl_checks.proofs.KeptLemmas.{row_told}
use Rattle.acl_checks.proofs.keeping.kept_row.Goals as goal

pub returns : goal.returns
returns g c =
    let kept : AttributeRow = record { row = c.args.row; cells = c.in_ok-cells.cells } in
    row_told (g.D.DocReader.document c.args.tables.now) c.args.table.now c.args.row c.args.names.now kept refl c.in_ok-cells.ensures
