use Rattle.std.proofs.Common.{◌≡◌, ◌++◌, drop, option_map}
use Rattle.cell_types.specs.Reference.{rows_in}
use Rattle.cell_types.proofs.reference.rows_of.Given as goal

-- the rows so far and those of what remains are the rows of the whole
abbrev pub invariant-loop-item : goal.invariant-loop-item
invariant-loop-item l =
    option_map (λ more. l.rows.items ++ more) (rows_in l.table (drop l.item-index l.items))
    ≡ rows_in l.table l.items
