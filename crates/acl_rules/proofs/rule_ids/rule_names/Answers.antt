use Rattle.std.proofs.Common.{lit<, lit≤}
use Rattle.std.specs.Str.{chars}
use Rattle.acl_rules.proofs.rule_ids.rule_names.Goals as goal

pub name_of-requires : goal.name_of-requires
unfolding chars
name_of-requires c = record { some = lit< tt; few = lit≤ tt }

pub name_of-requires-2 : goal.name_of-requires-2
unfolding chars
name_of-requires-2 c = record { some = lit< tt; few = lit≤ tt }

pub name_of-requires-3 : goal.name_of-requires-3
unfolding chars
name_of-requires-3 c = record { some = lit< tt; few = lit≤ tt }
