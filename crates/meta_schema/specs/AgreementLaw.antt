-- That the test of agreement is exact.
use Rattle.std.specs.Prelude.{ℕ, true, List, [], ◌∷◌, map, ◌≡◌, ◌↔◌}
use Rattle.doc_model.specs.MetadataIds.{tables_id}
use Rattle.doc_model.specs.Document.{Document, Table, table_row}
use Rattle.doc_model.specs.Schema.{SchemaAgrees}
use Rattle.doc_model.specs.Sound.{IsSound}
use Rattle.doc_readers.specs.Parts.{grid_at}
use Rattle.meta_schema.specs.Agreement.{agrees}

-- the metadata rows of the tables, which no store tells, are 0 for the metadata tables and those
-- that the table of tables has for the others
abbrev pub HasToldRows : Document → Type 0
HasToldRows s = map table_row s ≡ 0 ∷ 0 ∷ 0 ∷ 0 ∷ (grid_at s tables_id).rows

-- a sound document agrees with its schema exactly where it agrees as far as a store tells it, and
-- has those rows
abbrev pub AgreesLaw : Type 0
AgreesLaw = (s : Document) → IsSound s → SchemaAgrees s ↔ ((agrees s ≡ true) × HasToldRows s)

-- tables with these metadata rows, in order; those behind the rows keep theirs
abbrev pub with_rows : List ℕ → List Table → List Table
with_rows (r ∷ rows) (t ∷ ts) = record { id = t.id; row = r; grid = t.grid } ∷ with_rows rows ts
with_rows (r ∷ rows) [] = []
with_rows [] ts = ts

-- a document as a store tells it: each table has the metadata row that the table of tables has for
-- it, since no store tells another one
abbrev pub as_told : Document → Document
as_told s = with_rows (0 ∷ 0 ∷ 0 ∷ 0 ∷ (grid_at s tables_id).rows) s

-- a sound document, as a store tells it, agrees with its schema exactly where the test says so
abbrev pub ToldAgreesLaw : Type 0
ToldAgreesLaw = (s : Document) → IsSound s → SchemaAgrees (as_told s) ↔ (agrees s ≡ true)
