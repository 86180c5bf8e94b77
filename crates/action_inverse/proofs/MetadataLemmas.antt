-- Where the table of tables stands, and what its rows describe.
use Rattle.std.proofs.Common.{ℕ, zero, suc, ◌+◌, ◌<◌, ◌≤◌, true, cond, List, [], ◌∷◌, map, length, get_or, drop, slice_get, ◌≡◌, refl, sym, ap, subst, ◌∙◌, Option, Some, None, arith, add-one, drop_of_length-le}
use Rattle.std.specs.Option.{option_map}
use Rattle.std.specs.Str.{bytes_eq}
use Rattle.std.proofs.lemmas.Slice.Eq.{bytes_eq-Decides}
use Rattle.doc_model.specs.ByIds.{find_id}
use Rattle.doc_model.specs.Document.{Table, Document, table_id, table_row}
use Rattle.doc_model.specs.MetadataIds.{tables_id}
use Rattle.doc_model.specs.Readers.{table_at, rows_at}
use Rattle.doc_model.specs.Schema.{SchemaAgrees, with_schema, resources, rules, plain_tables, metadata_table, tables_grid}
use Rattle.doc_model.specs.declared.action.DocAction.TheVariants.{RemoveTable}
use Rattle.doc_model.specs.Valid.{schema_table, valid}
use Rattle.doc_model.proofs.DocumentParts.{find_plain, passes_parts, schema_table_parts}
use Rattle.doc_model.proofs.WholeLaws.{IsPlain}
use Rattle.doc_model.proofs.ByIdsLaws.{bytes_itself}
use Rattle.doc_model.proofs.Choices.{cond_true, cond_false, false_from, length_map}

-- the table at an index, and its row
record Part (p : List Table) (i : ℕ) : Type 0 where
  table : Table
  found : slice_get p i ≡ Some table
  opened : drop i p ≡ table ∷ drop (i + 1) p
  row : (d : ℕ) → get_or (map table_row p) i d ≡ table.row

part : (p : List Table) (i : ℕ) → i < length (map table_row p) → Part p i
part [] i h = absurd (omega arith)
part (t ∷ p) zero h = record { table = t; found = refl; opened = refl; row = λ d. refl }
part (q ∷ p) (suc i) h =
    let rest : Part p i = part p i (omega arith) in
    record {
      table = rest.table;
      found = rest.found;
      opened = rest.opened ∙ ap (λ n. rest.table ∷ drop n p) (add-one i) ∙ ap (λ n. rest.table ∷ drop n (q ∷ p)) (sym (add-one (suc i)));
      row = rest.row;
    }

none_some : {X : Type 0} (x : X) → ◌≡◌ {A = Option X} None (Some x) → ⊥
none_some x e = absurd (cc)

module _ (s : Document) (h : SchemaAgrees s) where
  pub first_table : table_at s 0 ≡ Some tables_id
  first_table = ap (λ d. table_at d 0) h.schema

  pub tables_rows : rows_at s tables_id ≡ Some (map table_row (plain_tables s))
  tables_rows =
      ap (λ d. rows_at d tables_id) h.schema
      ∙ ap (λ (o : Option Table). elim o as (λ _. Option (List ℕ)) [ None ↦ None | Some t ↦ Some t.grid.rows ])
      (cond_true (bytes_eq tables_id tables_id) (Some (metadata_table tables_id (tables_grid (plain_tables s)))) _ (bytes_itself tables_id))

  pub first_there : table_at s 0 ≡ None → ⊥
  first_there e = none_some tables_id (sym e ∙ first_table)

  is_tables : (name : List ℕ) → table_at s 0 ≡ Some name → name ≡ tables_id
  is_tables name e = let both : Some name ≡ Some tables_id = sym e ∙ first_table in cc

  pub rows_there : (name : List ℕ) → table_at s 0 ≡ Some name → rows_at s name ≡ None → ⊥
  rows_there name e none = none_some (map table_row (plain_tables s)) (sym none ∙ ap (rows_at s) (is_tables name e) ∙ tables_rows)

  pub rows_are : (name : List ℕ) (rows : List ℕ) → table_at s 0 ≡ Some name → rows_at s name ≡ Some rows → rows ≡ map table_row (plain_tables s)
  rows_are name rows e told =
      let both : Some rows ≡ Some (map table_row (plain_tables s)) = sym told ∙ ap (rows_at s) (is_tables name e) ∙ tables_rows in cc

  plain_at : (i : ℕ) → table_at s (4 + i) ≡ option_map table_id (slice_get (plain_tables s) i)
  plain_at i =
      let far : 4 + i ≡ suc (suc (suc (suc i))) = omega arith in
      ap (λ d. table_at d (4 + i)) h.schema
      ∙ ap (λ n. option_map table_id (slice_get (with_schema (resources s) (rules s) (plain_tables s)) n)) far

  module _ (rows : List ℕ) (same : rows ≡ map table_row (plain_tables s)) (i : ℕ) (within : i < length rows) (table : List ℕ) (past : find_id table_id table (drop i (plain_tables s)) ≡ find_id table_id table (plain_tables s)) where
    here : Part (plain_tables s) i
    here = part (plain_tables s) i (subst (λ (l : List ℕ). i < length l) same within)

    told : table_at s (4 + i) ≡ Some here.table.id
    told = plain_at i ∙ ap (option_map table_id) here.found

    pub never_past : table_at s (4 + i) ≡ None → ⊥
    never_past e = none_some here.table.id (sym e ∙ told)

    found : find_id table_id table (plain_tables s) ≡ cond (bytes_eq here.table.id table) (Some here.table) (find_id table_id table (drop (i + 1) (plain_tables s)))
    found = sym past ∙ ap (find_id table_id table) here.opened

    named : (name : List ℕ) → table_at s (4 + i) ≡ Some name → here.table.id ≡ name
    named name e = let both : Some here.table.id ≡ Some name = sym told ∙ e in cc

    pub row_found : (d : ℕ) (name : List ℕ) → table_at s (4 + i) ≡ Some name → name ≡ table → Some (get_or rows i d) ≡ option_map table_row (find_id table_id table (plain_tables s))
    row_found d name e is =
        ap Some (ap (λ l. get_or l i d) same ∙ here.row d)
        ∙ sym (ap (option_map table_row) (found ∙ cond_true (bytes_eq here.table.id table) (Some here.table) _ ((bytes_eq-Decides here.table.id table).1 (named name e ∙ is))))

    pub row_past : (name : List ℕ) → table_at s (4 + i) ≡ Some name → (name ≡ table → ⊥) → find_id table_id table (drop (i + 1) (plain_tables s)) ≡ find_id table_id table (plain_tables s)
    row_past name e other =
        sym (found ∙ cond_false (bytes_eq here.table.id table) (Some here.table) _ (false_from (bytes_eq here.table.id table) (λ is. other (sym (named name e) ∙ (bytes_eq-Decides here.table.id table).0 is))))

  pub row_absent : (rows : List ℕ) → rows ≡ map table_row (plain_tables s) → (i : ℕ) → length rows ≤ i → (table : List ℕ)
      → find_id table_id table (drop i (plain_tables s)) ≡ find_id table_id table (plain_tables s) → None ≡ option_map table_row (find_id table_id table (plain_tables s))
  row_absent rows same i end table past =
      let all : length (plain_tables s) ≤ i = subst (λ n. n ≤ i) (ap length same ∙ length_map table_row (plain_tables s)) end in
      ap (option_map table_row) (sym (ap (find_id table_id table) (drop_of_length-le (plain_tables s) all)) ∙ past)

-- the table of a valid removal, in the document and among its plain tables
pub removed : (s : Document) → SchemaAgrees s → (id : List ℕ) → valid s (RemoveTable id) ≡ true
    → (t : Table) × ((find_id table_id id s ≡ Some t) × (find_id table_id id (plain_tables s) ≡ Some t))
removed s h id v =
    let there : (t : Table) × ((schema_table s id ≡ Some t) × (true ≡ true)) = passes_parts (schema_table s id) (λ _. true) v in
    let parts : IsPlain id × (find_id table_id id (plain_tables s) ≡ Some there.0)
    = schema_table_parts (resources s) (rules s) (plain_tables s) id there.0 (sym (ap (λ d. schema_table d id) h.schema) ∙ there.1.0) in
    (there.0, (ap (find_id table_id id) h.schema ∙ find_plain (resources s) (rules s) (plain_tables s) id parts.0 ∙ parts.1, parts.1))

-- the row that is told of it
pub told_row : (s : Document) (id : List ℕ) (row : ℕ) (t : Table) → Some row ≡ option_map table_row (find_id table_id id (plain_tables s)) → find_id table_id id (plain_tables s) ≡ Some t → row ≡ t.row
told_row s id row t told found = let both : Some row ≡ Some t.row = told ∙ ap (option_map table_row) found in cc
