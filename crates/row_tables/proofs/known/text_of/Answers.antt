use Rattle.std.proofs.Common.{lit<, lit≤}
use Rattle.std.specs.Str.{chars}
use Rattle.row_tables.proofs.known.text_of.Goals as goal

pub returns-in-Tables-clause-length : goal.returns-in-Tables-clause-length
unfolding chars
returns-in-Tables-clause-length c = record { some = lit< tt; few = lit≤ tt }

pub returns-in-Columns-clause-length : goal.returns-in-Columns-clause-length
unfolding chars
returns-in-Columns-clause-length c = record { some = lit< tt; few = lit≤ tt }

pub returns-in-Resources-clause-length : goal.returns-in-Resources-clause-length
unfolding chars
returns-in-Resources-clause-length c = record { some = lit< tt; few = lit≤ tt }

pub returns-in-Rules-clause-length : goal.returns-in-Rules-clause-length
unfolding chars
returns-in-Rules-clause-length c = record { some = lit< tt; few = lit≤ tt }

pub returns-in-TableId-clause-length : goal.returns-in-TableId-clause-length
unfolding chars
returns-in-TableId-clause-length c = record { some = lit< tt; few = lit≤ tt }

pub returns-in-ParentId-clause-length : goal.returns-in-ParentId-clause-length
unfolding chars
returns-in-ParentId-clause-length c = record { some = lit< tt; few = lit≤ tt }

pub returns-in-ColId-clause-length : goal.returns-in-ColId-clause-length
unfolding chars
returns-in-ColId-clause-length c = record { some = lit< tt; few = lit≤ tt }

pub returns-in-Type-clause-length : goal.returns-in-Type-clause-length
unfolding chars
returns-in-Type-clause-length c = record { some = lit< tt; few = lit≤ tt }

pub returns-in-IsFormula-clause-length : goal.returns-in-IsFormula-clause-length
unfolding chars
returns-in-IsFormula-clause-length c = record { some = lit< tt; few = lit≤ tt }

pub returns-in-Formula-clause-length : goal.returns-in-Formula-clause-length
unfolding chars
returns-in-Formula-clause-length c = record { some = lit< tt; few = lit≤ tt }

pub returns-in-ColIds-clause-length : goal.returns-in-ColIds-clause-length
unfolding chars
returns-in-ColIds-clause-length c = record { some = lit< tt; few = lit≤ tt }

pub returns-in-Resource-clause-length : goal.returns-in-Resource-clause-length
unfolding chars
returns-in-Resource-clause-length c = record { some = lit< tt; few = lit≤ tt }

pub returns-in-AclFormula-clause-length : goal.returns-in-AclFormula-clause-length
unfolding chars
returns-in-AclFormula-clause-length c = record { some = lit< tt; few = lit≤ tt }

pub returns-in-PermissionsText-clause-length : goal.returns-in-PermissionsText-clause-length
unfolding chars
returns-in-PermissionsText-clause-length c = record { some = lit< tt; few = lit≤ tt }

pub returns-in-RulePos-clause-length : goal.returns-in-RulePos-clause-length
unfolding chars
returns-in-RulePos-clause-length c = record { some = lit< tt; few = lit≤ tt }

pub returns-in-UserAttributes-clause-length : goal.returns-in-UserAttributes-clause-length
unfolding chars
returns-in-UserAttributes-clause-length c = record { some = lit< tt; few = lit≤ tt }

pub returns-in-Memo-clause-length : goal.returns-in-Memo-clause-length
unfolding chars
returns-in-Memo-clause-length c = record { some = lit< tt; few = lit≤ tt }

pub returns-in-Table1-clause-length : goal.returns-in-Table1-clause-length
unfolding chars
returns-in-Table1-clause-length c = record { some = lit< tt; few = lit≤ tt }

pub returns-in-A-clause-length : goal.returns-in-A-clause-length
unfolding chars
returns-in-A-clause-length c = record { some = lit< tt; few = lit≤ tt }

pub returns-in-B-clause-length : goal.returns-in-B-clause-length
unfolding chars
returns-in-B-clause-length c = record { some = lit< tt; few = lit≤ tt }

pub returns-in-C-clause-length : goal.returns-in-C-clause-length
unfolding chars
returns-in-C-clause-length c = record { some = lit< tt; few = lit≤ tt }
