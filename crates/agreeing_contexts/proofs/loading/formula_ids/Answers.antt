use Rattle.std.proofs.Common.{lit<, lit≤}
use Rattle.std.specs.Str.{chars}
use Rattle.agreeing_contexts.proofs.loading.formula_ids.Goals as goal

pub name_of-requires : goal.name_of-requires
unfolding chars
name_of-requires c = record { some = lit< tt; few = lit≤ tt }

pub name_of-requires-2 : goal.name_of-requires-2
unfolding chars
name_of-requires-2 c = record { some = lit< tt; few = lit≤ tt }
