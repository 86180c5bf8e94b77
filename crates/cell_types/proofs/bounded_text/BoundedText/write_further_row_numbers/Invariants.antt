use Rattle.std.proofs.Common.{◌≡◌, ◌++◌, map, drop}
use Rattle.std.specs.Fmt.{decimal}
use Rattle.cell_types.specs.ValueText.{after_commas}
use Rattle.cell_types.proofs.bounded_text.BoundedText.write_further_row_numbers.Given as goal

-- what is written and what remains are the whole
abbrev pub invariant-loop-row : goal.invariant-loop-row
invariant-loop-row l =
    l.self ++ after_commas (map decimal (drop l.row-index l.rows))
    ≡ l.initial.self ++ after_commas (map decimal l.rows)
