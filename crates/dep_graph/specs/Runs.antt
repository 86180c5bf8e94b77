-- Notes of which those of cells of one column, one after the other, stand together.
use Rattle.std.specs.Prelude.{ℕ, List, [], ◌∷◌, ◌++◌, map}
use Rattle.cell_types.specs.declared.cell.Read.TheVariants.{Cell}
use Rattle.formula_eval.specs.declared.note.Note.{Note}
use Rattle.formula_eval.specs.declared.note.Note.TheVariants as note
use Rattle.formula_eval.specs.Reader.{cell_at}
use Rattle.dep_graph.specs.declared.runs.NoteRun.{NoteRun}

-- reads of the column of a cell in these rows
abbrev pub more_cells : List ℕ → List ℕ → List ℕ → List Note
more_cells t c rows = map (λ r. note.Read (Cell (cell_at t c r))) rows

-- the notes that follow a note: where it is a read of a cell, those of its column in these rows
abbrev pub notes_after : Note → List ℕ → List Note
notes_after (note.Read (Cell c)) rows = more_cells c.table c.column rows
notes_after n rows = []

abbrev pub notes_of : NoteRun → List Note
notes_of run = run.note ∷ notes_after run.note run.more.items

-- all notes, in order
abbrev pub notes_in : List NoteRun → List Note
notes_in [] = []
notes_in (run ∷ runs) = notes_of run ++ notes_in runs
