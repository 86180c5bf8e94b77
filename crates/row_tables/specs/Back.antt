-- The document that taking an action back gives.
use Rattle.std.specs.Prelude.{ℕ, ◌+◌, ◌≤◌, Option, None, Some, length, slice_get, slice_set, vec_capacity, ⊤}
use Rattle.std.specs.List.{insert, remove}
use Rattle.doc_model.specs.Document.{Table, Document, on_grid}
use Rattle.doc_model.specs.DocumentLaws.{IsWhole}
use Rattle.row_tables.specs.InPlace.{cells_again, HasRoom, on_rows, rows_again, written_back}
use Rattle.row_tables.specs.RowIndexes.{taken_out}
use Rattle.row_tables.specs.declared.change.Change.{Change}
use Rattle.row_tables.specs.declared.change.Change.TheVariants as change
use Rattle.row_tables.specs.declared.plain_change.PlainChange.{PlainChange}
use Rattle.row_tables.specs.declared.plain_change.PlainChange.TheVariants as plain
use Rattle.row_tables.specs.declared.put.Replaced.{Replaced}
use Rattle.row_tables.specs.declared.put.Replaced.TheVariants as replaced
use Rattle.row_tables.specs.declared.schema.SchemaTables.{SchemaTables}

-- a table with a record action taken back
abbrev pub change_back : Change → Table → Table
change_back (change.Added indexes) =
    on_grid (on_rows (taken_out indexes.items) (taken_out indexes.items))
change_back (change.Written writes) = on_grid (on_rows (λ rows. rows) (written_back writes.items))
change_back (change.Taken back) =
    on_grid (on_rows (rows_again back.taken.items) (cells_again back.taken.items))

-- where that takes no memory
abbrev pub change_fits : Change → Table → Type 0
change_fits (change.Taken back) t = HasRoom back t.grid
change_fits _ t = ⊤

-- the document with the table that is found at an index as it was, and where that takes no memory
abbrev pub back_there : Change → ℕ → Option Table → Document → Document
back_there c index None s = s
back_there c index (Some t) s = slice_set s index (change_back c t)

abbrev pub fits_there : Change → Option Table → Type 0
fits_there c None = ⊤
fits_there c (Some t) = change_fits c t

-- the document with these schema tables
abbrev pub with_tables : SchemaTables → Document → Document
with_tables schema s = slice_set (slice_set s 0 schema.tables) 1 schema.columns

-- the document with its plain tables as they were, and where that takes no memory
abbrev pub plain_back : PlainChange → Document → Document
plain_back (plain.Changed index old) s = slice_set s index old
plain_back (plain.Came index) s = remove s index
plain_back (plain.Went index old room) s = insert s index old

abbrev pub plain_fits : PlainChange → Document → Type 0
plain_fits (plain.Went index old room) s = length s + 1 ≤ vec_capacity room
plain_fits _ s = ⊤

-- the changed table at its place as it was, or the schema tables and the plain ones
abbrev pub put_back : Replaced → Document → Document
put_back (replaced.Changed index c) s = back_there c index (slice_get s index) s
put_back (replaced.Schema schema c) s = plain_back c (with_tables schema s)

abbrev pub has_index : Replaced → Document → Type 0
has_index (replaced.Changed index c) s = fits_there c (slice_get s index)
has_index (replaced.Schema schema c) s = plain_fits c s

-- what is put back makes a whole document, and takes no memory
abbrev pub fits_back : Replaced → Document → Type 0
fits_back r s = IsWhole (put_back r s) × has_index r s
