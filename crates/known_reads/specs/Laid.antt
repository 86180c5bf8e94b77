-- What cells read before, laid aside.
use Rattle.std.specs.Prelude.{List, [], ◌∷◌, ◌++◌}
use Rattle.dep_graph.specs.Named.{Were}
use Rattle.known_reads.specs.declared.laid.Link.{Link}
use Rattle.known_reads.specs.declared.laid.Link.TheVariants.{End, More}

-- what was laid aside, the last first
abbrev pub laid_in : Link → List (List Were)
laid_in End = []
laid_in (More were below) = were.items ∷ below.value

-- one after the other
abbrev pub all_laid : List (List Were) → List Were
all_laid [] = []
all_laid (were ∷ below) = were ++ all_laid below

-- the same from the last to the first
abbrev pub all_turned : List (List Were) → List Were
all_turned [] = []
all_turned (were ∷ above) = all_turned above ++ were
