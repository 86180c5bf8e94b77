use Rattle.std.proofs.Common.{ap, ◌∙◌, arith}
use Rattle.std.specs.List.{remove}
use Rattle.row_tables.proofs.AddedLaws.{remove-insert}
use Rattle.column_store.proofs.plain_change.insert_table.Goals as goal

pub returns-clause-back : goal.returns-clause-back
returns-clause-back c =
    let kept = c.args.tables.now.ok.0 in
    let within = c.requires in
    ap (λ s. remove s c.args.index) c.in_ok-insert.ensures.items ∙ remove-insert c.args.tables.now.items c.args.index c.args.new (omega arith)
