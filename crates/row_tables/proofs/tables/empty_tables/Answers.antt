use Rattle.std.proofs.Common.{rules}
use Rattle.row_tables.specs.Known.{empty_table}
use Rattle.row_tables.proofs.tables.empty_tables.Goals as goal

pub returns : goal.returns
returns c = c.all_made.ensures empty_table (λ x y r. search rules)
