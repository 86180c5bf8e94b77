use Rattle.std.proofs.Common.{◌≡◌, get_or, length, map, take, vec_capacity, vec_len}
use Rattle.cell_types.specs.declared.value.CellValue.TheVariants.{Null}
use Rattle.column_store.specs.Crossed.{all_items, remove_firsts}
use Rattle.column_store.proofs.columns.take_each.Given as goal

-- the row is out of the first columns, and its first cells stand there
abbrev pub invariant-loop-column : goal.invariant-loop-column
invariant-loop-column l =
    (all_items l.columns.items ≡ remove_firsts l.column l.index (all_items l.initial.columns.items))
    × (l.taken.items ≡ take l.column (map (λ v. get_or v l.index Null) (all_items l.initial.columns.items)))
    × (length l.columns.items ≡ length l.initial.columns.items)
    × (vec_len l.taken ≡ l.column) × (vec_capacity l.taken ≡ vec_capacity l.initial.taken)
