-- What a fault tells.
use Rattle.std.specs.Fmt.{decimal}
use Rattle.std.specs.Prelude.{ℕ, List, ◌++◌, codes}
use Rattle.formula_lex.specs.declared.fault.LexFault.{LexFault}
use Rattle.formula_lex.specs.declared.fault.LexFault.TheVariants.{Bad, NoMemory}

-- the place that has no token, or what is wanting
abbrev pub message_of : LexFault → List ℕ
message_of (Bad at) = codes "no token at byte " ++ decimal at
message_of NoMemory = codes "out of memory"
