-- The document that taking an action back gives.
use Rattle.std.specs.Prelude.{ℕ, ◌+◌, ◌≤◌, Option, None, Some, length, slice_get, slice_set, vec_capacity, ⊤}
use Rattle.std.specs.List.{insert, remove}
use Rattle.doc_model.specs.Document.{Table, Document}
use Rattle.doc_model.specs.DocumentLaws.{IsWhole}
use Rattle.column_store.specs.Changes.{change_back, change_fits}
use Rattle.column_store.specs.Reshaped.{back_fits, table_back}
use Rattle.column_store.specs.Schema.{schema_back, schema_back_fits}
use Rattle.column_store.specs.declared.plain_change.PlainChange.{PlainChange}
use Rattle.column_store.specs.declared.plain_change.PlainChange.TheVariants as plain
use Rattle.column_store.specs.declared.put.Replaced.{Replaced}
use Rattle.column_store.specs.declared.put.Replaced.TheVariants as replaced
use Rattle.column_store.specs.declared.schema.SchemaTables.{SchemaTables}

-- the document with the table that is found at an index changed, and what is asked of that table
abbrev pub there : (Table → Table) → ℕ → Option Table → Document → Document
there f index None s = s
there f index (Some t) s = slice_set s index (f t)

abbrev pub IfThere : (Table → Type 0) → Option Table → Type 0
IfThere P None = ⊤
IfThere P (Some t) = P t

-- the document with these schema tables
abbrev pub with_tables : SchemaTables → Document → Document
with_tables schema s = slice_set (slice_set s 0 schema.tables) 1 schema.columns

-- the document with its plain tables as they were, and where that takes no memory
abbrev pub plain_back : PlainChange → Document → Document
plain_back (plain.Changed index back) s = there (table_back back) index (slice_get s index) s
plain_back (plain.Came index) s = remove s index
plain_back (plain.Went index old room) s = insert s index old

abbrev pub plain_fits : PlainChange → Document → Type 0
plain_fits (plain.Changed index back) s = IfThere (back_fits back) (slice_get s index)
plain_fits (plain.Came index) s = ⊤
plain_fits (plain.Went index old room) s = length s + 1 ≤ vec_capacity room

-- the changed table at its place as it was, or the schema tables, whole or told, and the plain ones
abbrev pub put_back : Replaced → Document → Document
put_back (replaced.Changed index c) s = there (change_back c) index (slice_get s index) s
put_back (replaced.Schema schema c) s = plain_back c (with_tables schema s)
put_back (replaced.Told schema c) s = plain_back c (schema_back schema s)

abbrev pub has_index : Replaced → Document → Type 0
has_index (replaced.Changed index c) s = IfThere (change_fits c) (slice_get s index)
has_index (replaced.Schema schema c) s = plain_fits c (with_tables schema s)
has_index (replaced.Told schema c) s =
    schema_back_fits schema s × plain_fits c (schema_back schema s)

-- what is put back makes a whole document, and takes no memory
abbrev pub fits_back : Replaced → Document → Type 0
fits_back r s = IsWhole (put_back r s) × has_index r s
