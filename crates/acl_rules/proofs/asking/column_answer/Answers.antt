use Rattle.std.proofs.Common.{◌∙◌, ap}
use Rattle.acl_formula.specs.Asked.{asked_by}
use Rattle.acl_rules.specs.Asking.{first_at}
use Rattle.acl_rules.specs.Chain.{of_column}
use Rattle.acl_rules.proofs.ChainLemmas.{column_picked}
use Rattle.acl_rules.proofs.asking.column_answer.Goals as goal

pub returns : goal.returns
returns g c =
    let asked = asked_by g.W.RowReader.told c.args.user.now c.args.rec c.args.new_rec in
    c.part_answer.ensures
    ∙ ap (first_at asked c.args.perm (of_column c.args.table.now c.args.column.now) c.args.book.now) c.places_on.ensures
    ∙ column_picked asked c.args.perm c.args.book.now c.args.table.now c.args.column.now
