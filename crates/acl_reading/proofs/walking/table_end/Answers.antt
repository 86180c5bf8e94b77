use Rattle.std.proofs.Common.{◌∙◌, ap}
use Rattle.acl_rules.specs.Chain.{of_table}
use Rattle.acl_reading.specs.Walking.{end_among}
use Rattle.acl_reading.proofs.WalkLemmas.{table_picked}
use Rattle.acl_reading.proofs.walking.table_end.Goals as goal

pub returns : goal.returns
returns c =
    c.end_among.ensures
    ∙ ap (end_among c.args.user.now (of_table c.args.table.now) c.args.book.now) c.places_on.ensures
    ∙ table_picked c.args.user.now c.args.book.now c.args.table.now
