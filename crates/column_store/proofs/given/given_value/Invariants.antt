use Rattle.std.proofs.Common.{◌≡◌, drop}
use Rattle.std.specs.Option.{option_copied}
use Rattle.doc_model.specs.Records.{or_else}
use Rattle.row_tables.specs.RowIndexes.{given_at}
use Rattle.column_store.proofs.given.given_value.Given as goal

-- what the rest gives goes before what was found
abbrev pub invariant-loop-column : goal.invariant-loop-column
invariant-loop-column l =
    or_else (given_at (drop l.column-index l.columns) l.id l.index) (option_copied l.last) ≡ given_at l.columns l.id l.index
