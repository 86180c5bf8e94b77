-- The rows that describe the tables of a document, by the places of the tables.
use Rattle.std.proofs.Common.{ℕ, suc, ◌+◌, ◌-◌, ◌≤◌, true, false, cond, List, [], ◌∷◌, map, drop, slice_get, ◌≡◌, sym, ap, ◌∙◌, Option, Some, None, arith}
use Rattle.std.proofs.lemmas.Option.{slice_get-map}
use Rattle.std.specs.Option.{option_map}
use Rattle.std.specs.Str.{bytes_eq}
use Rattle.doc_model.specs.declared.column.ColDef.{ColDef}
use Rattle.doc_model.specs.ByIds.{find_id}
use Rattle.doc_model.specs.Document.{Document, Table, table_id, table_row}
use Rattle.doc_model.specs.DocumentLaws.{IsWhole}
use Rattle.doc_model.specs.Grid.{Grid}
use Rattle.doc_model.specs.MetadataIds.{tables_id}
use Rattle.doc_model.specs.Readers.{table_at}
use Rattle.doc_model.specs.Schema.{metadata_table, no_grid, plain_tables, resources, rules, tables_grid, with_schema}
use Rattle.doc_model.specs.Touched.{table_described}
use Rattle.doc_model.proofs.ByIdsLaws.{bytes_itself}
use Rattle.doc_model.proofs.Choices.{cond_false, cond_true}
use Rattle.doc_readers.specs.Parts.{grid_at}
use Rattle.recalc.proofs.WalkLemmas.{table_past, table_read}
use Rattle.affected_cells.proofs.Tests.{found_once}
use Rattle.affected_search.proofs.RowFlats.{drop_past, drop_there}

-- ---- the row of a table

module _ (r u : Grid ColDef) (p : List Table) where
  back : (j : ℕ) (t : Table) → slice_get (with_schema r u p) (suc (suc (suc (suc j)))) ≡ Some t → slice_get (map table_row p) j ≡ Some t.row
  back j t h = slice_get-map table_row p j ∙ ap (option_map table_row) h

module _ (s : Document) (whole : IsWhole s) where
  in_schema : (i : ℕ) (t : Table) → slice_get s i ≡ Some t → slice_get (with_schema (resources s) (rules s) (plain_tables s)) i ≡ Some t
  in_schema i t h = sym (ap (λ d. slice_get d i) whole.agrees.schema) ∙ h

  first_table : table_at s 0 ≡ Some tables_id
  first_table = ap (λ d. table_at d 0) whole.agrees.schema

  first_rows : (grid_at s tables_id).rows ≡ map table_row (plain_tables s)
  first_rows =
      ap (λ d. (grid_at d tables_id).rows) whole.agrees.schema
      ∙ ap (λ (o : Option Table). (elim o as (λ _. Grid ColDef) [ None ↦ no_grid | Some t ↦ t.grid ]).rows)
      (cond_true (bytes_eq tables_id tables_id) (Some (metadata_table tables_id (tables_grid (plain_tables s)))) _ (bytes_itself tables_id))

  -- the table of tables has the row of each of the others
  pub plain_row : (id : List ℕ) (i j : ℕ) (t : Table) → table_at s 0 ≡ Some id → 4 ≤ i → j ≡ i - 4 → slice_get s i ≡ Some t → slice_get (grid_at s id).rows j ≡ Some t.row
  plain_row id i j t first l is h =
      let far : i ≡ suc (suc (suc (suc j))) = omega (arith, l, is) in
      ap (λ n. slice_get (grid_at s n).rows j) (found_once id tables_id (sym first ∙ first_table)) ∙ ap (λ rows. slice_get rows j) first_rows
      ∙ back (resources s) (rules s) (plain_tables s) j t (sym (ap (slice_get (with_schema (resources s) (rules s) (plain_tables s))) far) ∙ in_schema i t h)

-- ---- the table of an id

module _ (s : Document) (id : List ℕ) (i : ℕ) (rest : find_id table_id id (drop i s) ≡ find_id table_id id s) where
  walk : (t : Table) → slice_get s i ≡ Some t → cond (bytes_eq t.id id) (Some t) (find_id table_id id (drop (suc i) s)) ≡ find_id table_id id s
  walk t h = sym (ap (find_id table_id id) (drop_there s i t h)) ∙ rest

  pub row_found : (name : List ℕ) → table_at s i ≡ Some name → bytes_eq name id ≡ true → (row : ℕ) → ((t : Table) → slice_get s i ≡ Some t → row ≡ t.row) → row ∷ [] ≡ table_described s id
  row_found name h is row so =
      let t = table_read s i name h in
      let found : Some t.0 ≡ find_id table_id id s = sym (cond_true (bytes_eq t.0.id id) (Some t.0) _ (ap (λ n. bytes_eq n id) (sym t.2) ∙ is)) ∙ walk t.0 t.1 in
      ap (λ n. n ∷ []) (so t.0 t.1) ∙ ap (λ (o : Option Table). elim o as (λ _. List ℕ) [ None ↦ [] | Some u ↦ u.row ∷ [] ]) found

  pub table_passed : (name : List ℕ) → table_at s i ≡ Some name → bytes_eq name id ≡ false → (j : ℕ) → j ≡ i + 1 → find_id table_id id (drop j s) ≡ find_id table_id id s
  table_passed name h isnt j next =
      let t = table_read s i name h in
      let after : j ≡ suc i = omega (arith, next) in
      ap (λ n. find_id table_id id (drop n s)) after ∙ sym (cond_false (bytes_eq t.0.id id) (Some t.0) _ (ap (λ n. bytes_eq n id) (sym t.2) ∙ isnt)) ∙ walk t.0 t.1

  pub table_absent : table_at s i ≡ None → [] ≡ table_described s id
  table_absent h =
      ap (λ (o : Option Table). elim o as (λ _. List ℕ) [ None ↦ [] | Some u ↦ u.row ∷ [] ]) (sym (ap (find_id table_id id) (drop_past s i (table_past s i h))) ∙ rest)
