-- What a fault tells.
use Rattle.std.specs.Fmt.{decimal}
use Rattle.std.specs.Prelude.{ℕ, List, ◌++◌, codes}
use Rattle.formula_parse.specs.declared.fault.ParseFault.{ParseFault}
use Rattle.formula_parse.specs.declared.fault.ParseFault.TheVariants.{Syntax, NoMemory}

-- the place where the reading ended, or what is wanting
abbrev pub message_of : ParseFault → List ℕ
message_of (Syntax at) = codes "no formula, from byte " ++ decimal at ++ codes " on"
message_of NoMemory = codes "out of memory"
