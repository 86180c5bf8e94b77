use Rattle.std.proofs.Common.{◌∙◌, ap}
use Rattle.std.specs.List.{list_any}
use Rattle.acl_rules.specs.Chain.{of_column}
use Rattle.acl_reading.specs.Walking.{tells_at}
use Rattle.acl_reading.proofs.WalkLemmas.{column_told}
use Rattle.acl_reading.proofs.walking.column_tells.Goals as goal

pub returns : goal.returns
returns c =
    c.tells_among.ensures
    ∙ ap (list_any (tells_at (of_column c.args.table.now c.args.column.now) c.args.book.now)) c.places_on.ensures
    ∙ column_told c.args.book.now c.args.table.now c.args.column.now
