use Rattle.std.proofs.Common.{◌∙◌, ap}
use Rattle.acl_rules.specs.Chain.{of_column}
use Rattle.acl_reading.specs.Walking.{end_among}
use Rattle.acl_reading.proofs.WalkLemmas.{column_picked}
use Rattle.acl_reading.proofs.walking.column_end.Goals as goal

pub returns : goal.returns
returns c =
    c.end_among.ensures
    ∙ ap (end_among c.args.user.now (of_column c.args.table.now c.args.column.now) c.args.book.now) c.places_on.ensures
    ∙ column_picked c.args.user.now c.args.book.now c.args.table.now c.args.column.now
