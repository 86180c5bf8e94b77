-- How long a text in a cell may be, and what adding to such a text does.
use Rattle.std.specs.Prelude.{◌≡◌, ℕ, ◌+◌, ◌<◌, List, ◌++◌, length, Result, Ok, Err, ⊤}
use Rattle.cell_types.specs.declared.bounded_text.TextEnd.{TextEnd}
use Rattle.cell_types.specs.declared.bounded_text.TextEnd.TheVariants.{TooLong, NoMemory}

-- in bytes
abbrev pub text_bound : ℕ
text_bound = 65536

-- the piece stands at the end of the text; or the text is too long with it; or there was no memory
abbrev pub Adds : List ℕ → List ℕ → List ℕ → Result (Unit {0}) TextEnd → Type 0
Adds old new piece (Ok _) = new ≡ old ++ piece
Adds old new piece (Err TooLong) = text_bound < length old + length piece
Adds old new piece (Err NoMemory) = ⊤
