-- What a fault tells.
use Rattle.std.specs.Prelude.{ℕ, List, ◌++◌, codes}
use Rattle.cell_types.specs.ValueText.{err_text}
use Rattle.value_ops.specs.declared.fault.OpFault.{OpFault}
use Rattle.value_ops.specs.declared.fault.OpFault.TheVariants.{Raised, NoMemory}

-- the error that is raised, by the name that its cells show, or what is wanting
abbrev pub message_of : OpFault → List ℕ
message_of (Raised e) = codes "the operator raises " ++ err_text e
message_of NoMemory = codes "out of memory"
