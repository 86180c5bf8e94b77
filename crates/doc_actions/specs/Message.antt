-- What a fault tells.
use Rattle.std.specs.Prelude.{ℕ, List, codes}
use Rattle.doc_actions.specs.declared.applying.ApplyFault.{ApplyFault}
use Rattle.doc_actions.specs.declared.applying.ApplyFault.TheVariants.{Invalid, NoMemory}

abbrev pub message_of : ApplyFault → List ℕ
message_of Invalid = codes "the action is not valid"
message_of NoMemory = codes "out of memory"
