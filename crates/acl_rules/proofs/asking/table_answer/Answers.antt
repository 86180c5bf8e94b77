use Rattle.std.proofs.Common.{◌∙◌, ap}
use Rattle.acl_formula.specs.Asked.{asked_by}
use Rattle.acl_rules.specs.Asking.{first_at}
use Rattle.acl_rules.specs.Chain.{of_table}
use Rattle.acl_rules.proofs.ChainLemmas.{table_picked}
use Rattle.acl_rules.proofs.asking.table_answer.Goals as goal

pub returns : goal.returns
returns g c =
    let asked = asked_by g.W.RowReader.told c.args.user.now c.args.rec c.args.new_rec in
    c.part_answer.ensures
    ∙ ap (first_at asked c.args.perm (of_table c.args.table.now) c.args.book.now) c.places_on.ensures
    ∙ table_picked asked c.args.perm c.args.book.now c.args.table.now
