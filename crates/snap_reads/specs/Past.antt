-- Histories from their openings, of which one continues another.
use Rattle.std.specs.Prelude.{◌≡◌, List}
use Rattle.std.specs.List.{AllByRecursion}
use mathlib.Core.List.{IsPrefix}
use Rattle.snap_reads.specs.declared.past.Past.{Past}

module _ {O E : Type 0} where
  -- the second has the opening of the first, and begins with its entries
  abbrev pub Continues : Past O E → Past O E → Type 0
  Continues before now = (now.opening ≡ before.opening) × IsPrefix before.entries now.entries

  -- it continues each of these
  abbrev pub ContinuesAll : List (Past O E) → Past O E → Type 0
  ContinuesAll known now = AllByRecursion (λ before. Continues before now) known
