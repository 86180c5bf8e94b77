-- The two sessions have the length of a name.
use Rattle.std.proofs.Common.{codes, lit<, lit≤}
use Rattle.std.specs.Str.{chars}
use Rattle.cell_types.specs.NameLength.{HasNameLength}

pub first_length : HasNameLength (codes "s1")
unfolding chars
first_length = record { some = lit< tt; few = lit≤ tt }

pub second_length : HasNameLength (codes "s2")
unfolding chars
second_length = record { some = lit< tt; few = lit≤ tt }
