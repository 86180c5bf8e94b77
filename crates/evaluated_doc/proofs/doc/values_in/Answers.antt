use Rattle.std.proofs.Common.{◌≡◌, IfOk, map, subst, sym}
use Rattle.std.specs.Option.{option_copied}
use Rattle.evaluated_doc.proofs.ValueLemmas.{data_values}
use Rattle.evaluated_doc.proofs.doc.values_in.Goals as goal

pub returns-in-Some : goal.returns-in-Some
returns-in-Some g c =
    let s = g.D.DocReader.document c.args.tables.now in
    subst (λ told. IfOk c.cells.result (λ x. map option_copied x.items ≡ told))
    (data_values s c.args.kept.now c.requires.evaluated c.args.table.now c.args.column.now c.in-Some.held.now c.in-Some.ensures (sym c.if-not-held.true) c.args.rows.now)
    c.cells.ensures
