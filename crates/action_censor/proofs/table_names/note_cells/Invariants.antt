use Rattle.std.proofs.Common.{◌≡◌, map, drop}
use Rattle.cell_types.specs.declared.cell.CellOld.{CellOld}
use Rattle.action_censor.specs.Touched.{with_names}
use Rattle.action_censor.proofs.table_names.note_cells.Given as goal

-- the names so far, with those that are left
abbrev pub invariant-loop-old : goal.invariant-loop-old
invariant-loop-old l =
    with_names l.names.items (map (λ (o : CellOld). o.cell.table) (drop l.old-index l.cells)) ≡ with_names l.initial.names.items (map (λ (o : CellOld). o.cell.table) l.cells)
