-- What a document tells of its tables and cells, and what tests read.
use Rattle.std.proofs.Common.{ℕ, true, false, cond, not, ◌&&◌, List, ◌≡◌, refl, ap, Some, None}
use Rattle.std.specs.Option.{is_some}
use Rattle.cell_types.specs.declared.value.CellValue.{CellValue}
use Rattle.doc_model.specs.ByIds.{find_id, has_id}
use Rattle.doc_model.specs.Column.{column_id}
use Rattle.cell_types.specs.ColumnRange.{is_null}
use Rattle.doc_model.specs.Document.{Document, table_id}
use Rattle.doc_model.specs.Grid.{cell}
use Rattle.doc_model.specs.MetadataIds.{is_schema_id, is_metadata_id}
use Rattle.doc_model.specs.Readers.{cell_at}
use Rattle.doc_model.specs.Valid.{record_table, schema_table}
use Rattle.doc_model.proofs.ByIdsLaws.{has_id-find}
use Rattle.doc_readers.specs.Parts.{grid_at}
use Rattle.doc_readers.proofs.CellLemmas.{cell_absent, cell_there}

pub record_some : (s : Document) (id : List ℕ) → (not (is_schema_id id) && has_id table_id s id) ≡ is_some (record_table s id)
record_some s id =
    elim (is_schema_id id) as (λ b. (not b && has_id table_id s id) ≡ is_some (cond b None (find_id table_id id s))) [
      | true ↦ refl
      | false ↦ has_id-find table_id id s
    ]

pub schema_some : (s : Document) (id : List ℕ) → (not (is_metadata_id id) && has_id table_id s id) ≡ is_some (schema_table s id)
schema_some s id =
    elim (is_metadata_id id) as (λ b. (not b && has_id table_id s id) ≡ is_some (cond b None (find_id table_id id s))) [
      | true ↦ refl
      | false ↦ has_id-find table_id id s
    ]

pub null_absent : (s : Document) (t c : List ℕ) (r : ℕ) → cell_at s t c r ≡ None → true ≡ is_null (cell column_id (grid_at s t) c r)
null_absent s t c r h = ap is_null (cell_absent s t c r h)

pub null_there : (s : Document) (t c : List ℕ) (r : ℕ) (v : CellValue) → cell_at s t c r ≡ Some v → is_null v ≡ is_null (cell column_id (grid_at s t) c r)
null_there s t c r v h = ap is_null (cell_there s t c r v h)
