-- What the answers of a reader in the program mean.
use Rattle.std.specs.Prelude.{ℕ, List, ◌≡◌}
use Rattle.cell_types.specs.declared.value.ErrKind.TheVariants as err
use Rattle.cell_types.specs.declared.cell.Read.TheVariants.{Cell}
use Rattle.formula_eval.specs.declared.note.Note.{Note}
use Rattle.formula_eval.specs.declared.reader.Reading.{Reading}
use Rattle.formula_eval.specs.declared.reader.Reading.TheVariants as reading
use Rattle.formula_eval.specs.declared.reader.Matching.{Matching}
use Rattle.formula_eval.specs.declared.reader.Matching.TheVariants as matching
use Rattle.formula_eval.specs.Reader.{Reader, Told, cell_at, known, no_table, no_column, no_row, needed}
use Rattle.formula_eval.specs.Run.{Out, gives, raises, stops, circular, MayName}

-- what is told of a cell
abbrev pub told_of : Reading → Told
told_of (reading.Known v) = known v.now
told_of reading.NoTable = no_table
told_of reading.NoColumn = no_column
told_of reading.NoRow = no_row
told_of reading.Need = needed

-- what a reader tells of the cell of a column in a row
abbrev pub told_at : Reader → List ℕ → List ℕ → ℕ → Told
told_at reader t c r = reader.cell (cell_at t c r)

-- the note of a read of the cell of a column in a row
abbrev pub read_note : List ℕ → List ℕ → ℕ → Note
read_note t c r = Note.Read (Cell (cell_at t c r))

-- the answer tells which rows meet keys; of the cells that are needed it names any
abbrev pub IsMatching : Matching → Out (List ℕ) → Type 0
IsMatching (matching.Rows rs) o = o ≡ gives rs
IsMatching matching.NoTable o = o ≡ raises err.Name
IsMatching matching.NoColumn o = o ≡ raises err.Key
IsMatching matching.Circular o = o ≡ stops circular
IsMatching (matching.Need c) o = MayName c o
