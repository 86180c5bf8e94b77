-- What is seen of cells after changes.
use Rattle.std.specs.Prelude.{if◌then◌else◌}
use Rattle.cell_types.specs.declared.value.CellValue.{CellValue}
use Rattle.cell_types.specs.declared.value.CellValue.TheVariants.{Null}
use Rattle.shot_cells.specs.Places.{ByCell, with_all, with_each}
use Rattle.shot_cells.specs.declared.changes.CellChanges.{CellChanges}

-- nothing but Null is seen
abbrev pub nothing_seen : ByCell CellValue
nothing_seen table column row = Null

-- what is seen where all is made anew, or else what was seen
abbrev pub seen_from : CellChanges → ByCell CellValue → ByCell CellValue
seen_from c seen = if c.anew then nothing_seen else seen

-- what is seen after changes: the values that are set, and Null of what is gone
abbrev pub seen_after : CellChanges → ByCell CellValue → ByCell CellValue
seen_after c seen = with_each c.gone.items Null
    (with_all c.cells.items c.values.items (seen_from c seen))
