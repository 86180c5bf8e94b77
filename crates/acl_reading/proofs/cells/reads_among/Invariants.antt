use Rattle.std.proofs.Common.{◌≡◌, drop}
use Rattle.acl_rules.specs.Chain.{part_in}
use Rattle.acl_reading.specs.Shown.{reading_row}
use Rattle.acl_reading.specs.Walking.{reads_among}
use Rattle.acl_reading.proofs.cells.reads_among.Given as goal

-- the rest decides
abbrev pub invariant-loop-place : goal.invariant-loop-place
invariant-loop-place g l =
    reads_among (reading_row l.user (g.W.RowReader.told l.row)) (part_in l.part) l.book (drop l.place-index l.places)
    ≡ reads_among (reading_row l.user (g.W.RowReader.told l.row)) (part_in l.part) l.book l.places
