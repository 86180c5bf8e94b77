use Rattle.std.proofs.Common.{◌≡◌, MatchOption, None, Some, [], drop, map, take}
use Rattle.formula_eval.specs.Asked.{read_note, told_at, told_of}
use Rattle.formula_eval.specs.Reader.{Reader}
use Rattle.formula_eval.specs.Run.{after, collect}
use Rattle.formula_eval.specs.Attribute.{as_item, column_runs}
use Rattle.formula_eval.specs.Halted.{fronted}
use Rattle.formula_eval.proofs.attribute.items_told.Given as goal

abbrev pub invariant-loop-index : goal.invariant-loop-index
invariant-loop-index l =
    (l.count ≡ l.index)
    × ((reader : Reader)
    → MatchOption l.ty (reader.kind l.table l.column ≡ None) (λ ty. reader.kind l.table l.column ≡ Some ty.now)
    → map told_of l.told ≡ map (told_at reader l.table l.column) l.rows
    → fronted l.items.items (after (map (read_note l.table l.column) (take l.index l.rows)) (collect (map as_item (column_runs reader l.table l.column (drop l.index l.rows)))))
    ≡ after [] (collect (map as_item (column_runs reader l.table l.column l.rows))))
