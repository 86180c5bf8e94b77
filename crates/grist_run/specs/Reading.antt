-- What the reading of the next line came to.
use Rattle.std.specs.Prelude.{◌≡◌, ℕ, List, Option, Result, Ok, Err}
use Rattle.io_edges.specs.NextLine.{Reads}
use Rattle.io_edges.specs.Reading.{LineState}
use Rattle.io_edges.specs.declared.line_reader.NextLine.{NextLine}
use Rattle.io_edges.specs.declared.line_reader.ReadEnd.TheVariants as end
use Rattle.grist_run.specs.declared.status.Status.{Status}
use Rattle.grist_run.specs.declared.status.Status.TheVariants.{ReadFault, NoMemory, TurnsSpent}

-- the reader gave a line or the end of the input, or the run ends
abbrev pub ReadsNext : Result NextLine Status → LineState → LineState → Option (List ℕ)
    → Option (List ℕ) → Type 0
ReadsNext (Ok n) old new l l' = Reads (Ok n) old new l l'
ReadsNext (Err ReadFault) old new l l' = Reads (Err end.ReadFault) old new l l'
ReadsNext (Err TurnsSpent) old new l l' = Reads (Err end.TurnsSpent) old new l l'
    × (new.turns ≡ 4294967296)
ReadsNext (Err NoMemory) old new l l' = Reads (Err end.NoMemory) old new l l'
ReadsNext (Err status) old new l l' = ⊥
