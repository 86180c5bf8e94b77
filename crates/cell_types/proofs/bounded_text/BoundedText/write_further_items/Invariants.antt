use Rattle.std.proofs.Common.{◌≡◌, ◌++◌, map, drop}
use Rattle.cell_types.specs.ValueText.{item_text, after_commas}
use Rattle.cell_types.proofs.bounded_text.BoundedText.write_further_items.Given as goal

-- what is written and what remains are the whole
abbrev pub invariant-loop-item : goal.invariant-loop-item
invariant-loop-item l =
    l.self ++ after_commas (map item_text (drop l.item-index l.items))
    ≡ l.initial.self ++ after_commas (map item_text l.items)
