use Rattle.std.proofs.Common.{◌∙◌}
use Rattle.acl_rules.proofs.LoadedLemmas.{book_paired}
use Rattle.acl_rules.proofs.loading.book_in.Goals as goal

pub returns-in_ok-book-in-Ok : goal.returns-in_ok-book-in-Ok
returns-in_ok-book-in-Ok g c =
    c.in_ok-book-in-Ok.ensures
    ∙ book_paired (g.D.DocReader.document c.args.tables.now) c.args.rows.now c.in_ok-rules.rules.items c.in-Ok.resources.items c.in_ok-rules.ensures c.in-Ok.ensures
