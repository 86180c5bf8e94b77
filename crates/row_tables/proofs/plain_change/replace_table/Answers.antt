use Rattle.std.proofs.Common.{List, set, ap, ◌∙◌}
use Rattle.doc_model.specs.Document.{Table}
use Rattle.row_tables.proofs.SchemaLaws.{set_back}
use Rattle.row_tables.proofs.plain_change.replace_table.Goals as goal

pub returns-clause-back : goal.returns-clause-back
returns-clause-back c =
    let s : List Table = c.args.tables.now.items in
    ap (λ z. set z c.args.index c.swap_at.new.item) c.swap_at.ensures.items ∙ ap (set (set s c.args.index c.args.new) c.args.index) c.swap_at.ensures.item
    ∙ set_back s c.args.index c.args.new
