-- A table that comes, told to the schema tables in their places.
use Rattle.std.proofs.Common.{ℕ, Bool, true, false, cond, not, ◌&&◌, ◌||◌, List, [], ◌∷◌, map, length, insert, ◌≡◌, refl, sym, ap, subst, ◌∙◌, Option, Some, None, is_some, eqb, ltb}
use Rattle.std.proofs.lemmas.Bool.{and_parts}
use Rattle.std.specs.List.{AllByRecursion, list_all}
use Rattle.cell_types.specs.NameRule.{is_name}
use Rattle.cell_types.specs.declared.value.CellValue.{CellValue}
use Rattle.cell_types.specs.declared.value.CellValue.TheVariants as value
use Rattle.doc_model.specs.declared.action.DocAction.{DocAction}
use Rattle.doc_model.specs.declared.action.DocAction.TheVariants.{BulkAdd, BulkUpdate, BulkRemove, AddTable, RemoveTable, RenameTable, AddColumn, RemoveColumn, RenameColumn, ModifyColumn}
use Rattle.doc_model.specs.declared.column.ColDef.{ColDef}
use Rattle.doc_model.specs.Apply.{apply, new_table}
use Rattle.doc_model.specs.ByIds.{are_distinct}
use Rattle.doc_model.specs.Column.{column_id, column_row, is_sound_info}
use Rattle.doc_model.specs.Document.{Document, Table, by_row, on_grid, put_by_row, table_row}
use Rattle.doc_model.specs.DocumentLaws.{IsWhole}
use Rattle.doc_model.specs.Grid.{Grid, IsGrid}
use Rattle.doc_model.specs.MetadataIds.{columns_id, resources_id, rules_id, tables_id}
use Rattle.doc_model.specs.NewDocument.{no_rows}
use Rattle.doc_model.specs.Records.{or_else}
use Rattle.doc_model.specs.Rows.{IsAscending, has, has_no_duplicates, none_in}
use Rattle.doc_model.specs.Schema.{Described, all_columns, columns_columns, columns_grid, describe, described_row, in_order, metadata_table, plain_tables, resources, rules, tables_columns, tables_grid, with_schema}
use Rattle.doc_model.specs.Valid.{are_free, from_one, is_new_table, rows_of, valid}
use Rattle.doc_model.proofs.ByRowLaws.{has-by_row, put_by_row-column_index}
use Rattle.doc_model.proofs.Choices.{length_map, not_true, parts_3, parts_6}
use Rattle.doc_model.proofs.DescribedRows.{described_at, described-in_order, described_in, same_described}
use Rattle.doc_model.proofs.DocumentParts.{rows_of-columns, rows_of-tables}
use Rattle.doc_model.proofs.FirstRows.{first_at, first-append, first-none, has-first}
use Rattle.doc_model.proofs.RowsLaws.{none_in_at, number_itself}
use Rattle.doc_model.proofs.SchemaLaws.{IsAscending-in_order}
use Rattle.row_tables.specs.RowIndexes.{AreNew, new_indexes, put_at}
use Rattle.row_tables.specs.Spots.{columns_of}
use Rattle.row_tables.specs.Steps.{plain_after, table_index}
use Rattle.row_tables.proofs.SchemaLaws.{above}
use Rattle.row_tables.proofs.StepLaws.{put_by_row-table_index}
use Rattle.column_store.specs.Changes.{AreFull, told_fits, told_grid}
use Rattle.column_store.specs.Schema.{IsCome, TellsOf, adds_table, schema_fits, schema_told}
use Rattle.column_store.specs.declared.change.Told.{Told}
use Rattle.column_store.specs.declared.change.Told.TheVariants as told
use Rattle.column_store.specs.declared.schema.SchemaTold.{SchemaTold}
use Rattle.column_store.proofs.AboveLaws.{after_whole, moved, schema_after}
use Rattle.column_store.proofs.ComeLaws.{each_of}
use Rattle.column_store.proofs.RowLaws.{first-insert, map-put, put_new}

-- ---- what comes among others

module _ {X : Type 0} (row : X → ℕ) (cells : X → List CellValue) (columns : List ColDef) where
  abbrev grid_with : List X → Grid ColDef
  grid_with xs = record { columns = columns; rows = map row xs; cells = map cells xs }

  full_with : (new xs : List X) → AllByRecursion (λ x. length (cells x) ≡ length columns) new → AreFull (map cells new) (grid_with xs)
  full_with [] xs h = tt
  full_with (x ∷ new) xs h = (h.0, full_with new xs h.1)

  pub into_fits : (t : Told) (new xs : List X) → IsCome (map row new) (map cells new) t → IsGrid column_id (grid_with xs) → AreNew (map row new) (map row xs)
      → AllByRecursion (λ x. length (cells x) ≡ length columns) new → told_fits t (grid_with xs)
  into_fits (told.Come rows lists) new xs is grid n wide = (
    grid,
    subst (λ rs. AreNew rs (map row xs)) (sym is.0) n,
    ap length is.1 ∙ length_map cells new ∙ sym (length_map row new) ∙ ap length (sym is.0),
    subst (λ ls. AreFull ls (grid_with xs)) (sym is.1) (full_with new xs wide),
  )
  into_fits (told.Go rows) new xs is grid n wide = absurd is
  into_fits (told.Values writes) new xs is grid n wide = absurd is

  pub into_grid : (t : Told) (new xs ys : List X) → IsCome (map row new) (map cells new) t → AreNew (map row new) (map row xs) → IsAscending (map row ys)
      → ((r : ℕ) → first_at row r ys ≡ or_else (first_at row r new) (first_at row r xs)) → told_grid t (grid_with xs) ≡ grid_with ys
  into_grid (told.Come rows lists) new xs ys is n a h =
      let put : put_at (new_indexes (map row new) (map row xs)) new xs ≡ ys = put_new row new xs ys n a h in
      ap (λ rs. let g : Grid ColDef = record { columns = columns; rows = put_at (new_indexes rs (map row xs)) rs (map row xs); cells = put_at (new_indexes rs (map row xs)) lists.items (map cells xs) } in g) is.0
      ∙ ap (λ ls. let g : Grid ColDef = record { columns = columns; rows = put_at (new_indexes (map row new) (map row xs)) (map row new) (map row xs); cells = put_at (new_indexes (map row new) (map row xs)) ls (map cells xs) } in g) is.1
      ∙ ap (λ rs. let g : Grid ColDef = record { columns = columns; rows = rs; cells = put_at (new_indexes (map row new) (map row xs)) (map cells new) (map cells xs) } in g) (sym (map-put row (new_indexes (map row new) (map row xs)) new xs) ∙ ap (map row) put)
      ∙ ap (λ cs. let g : Grid ColDef = record { columns = columns; rows = map row ys; cells = cs } in g) (sym (map-put cells (new_indexes (map row new) (map row xs)) new xs) ∙ ap (map cells) put)
  into_grid (told.Go rows) new xs ys is n a h = absurd is
  into_grid (told.Values writes) new xs ys is n a h = absurd is

-- ---- what stands in a row then

first_columns : (cs : List ColDef) (r : ℕ) → has_no_duplicates (map column_row cs) ≡ true → first_at column_row r (by_row column_row cs) ≡ first_at column_row r cs
first_columns [] r once = refl
first_columns (d ∷ cs) r once =
    let two = and_parts (not (has (map column_row cs) d.row)) (has_no_duplicates (map column_row cs)) once in
    let absent : has (map column_row (by_row column_row cs)) d.row ≡ false = has-by_row column_row cs d.row ∙ not_true (has (map column_row cs) d.row) two.0 in
    ap (first_at column_row r) (put_by_row-column_index d (by_row column_row cs))
    ∙ first-insert column_row (by_row column_row cs) _ d r absent
    ∙ ap (λ o. cond (eqb d.row r) (Some d) o) (first_columns cs r two.1)

all_at : (t : Table) (p : List Table) (r : ℕ) → described_at r (all_columns (t ∷ p)) ≡ or_else (described_at r (described_in t)) (described_at r (all_columns p))
all_at t p r = first-append described_row (described_in t) (all_columns p) r

come_none : (t : Table) (p : List Table) (r : ℕ) → described_at r (described_in t) ≡ None → described_at r (all_columns (put_by_row table_row t p)) ≡ described_at r (all_columns p)
come_none t [] r e = all_at t [] r ∙ ap (λ o. or_else o None) e
come_none t (u ∷ p) r e =
    elim (ltb t.row u.row) as (λ b. described_at r (all_columns (cond b (t ∷ u ∷ p) (u ∷ put_by_row table_row t p))) ≡ described_at r (all_columns (u ∷ p))) [
      | true ↦ all_at t (u ∷ p) r ∙ ap (λ o. or_else o (described_at r (all_columns (u ∷ p)))) e
      | false ↦ all_at u (put_by_row table_row t p) r ∙ ap (or_else (described_at r (described_in u))) (come_none t p r e) ∙ sym (all_at u p r)
    ]

or_nothing : {X : Type 0} (o : Option X) → or_else o None ≡ o
or_nothing None = refl
or_nothing (Some x) = refl

neither : {X : Type 0} (a b : Option X) → or_else a b ≡ None → (a ≡ None) × (b ≡ None)
neither None b e = (refl, e)
neither (Some x) b e = absurd (cc)

come_some : (t : Table) (p : List Table) (r : ℕ) → described_at r (all_columns p) ≡ None → described_at r (all_columns (put_by_row table_row t p)) ≡ described_at r (described_in t)
come_some t [] r e = all_at t [] r ∙ or_nothing (described_at r (described_in t))
come_some t (u ∷ p) r e =
    let two = neither (described_at r (described_in u)) (described_at r (all_columns p)) (sym (all_at u p r) ∙ e) in
    elim (ltb t.row u.row) as (λ b. described_at r (all_columns (cond b (t ∷ u ∷ p) (u ∷ put_by_row table_row t p))) ≡ described_at r (described_in t)) [
      | true ↦ all_at t (u ∷ p) r ∙ ap (or_else (described_at r (described_in t))) e ∙ or_nothing (described_at r (described_in t))
      | false ↦ all_at u (put_by_row table_row t p) r ∙ ap (λ o. or_else o (described_at r (all_columns (put_by_row table_row t p)))) two.0 ∙ come_some t p r two.1
    ]

rows_told : (parent : ℕ) (cs : List ColDef) → map described_row (columns_of parent cs) ≡ map column_row cs
rows_told parent [] = refl
rows_told parent (d ∷ cs) = ap (λ rs. d.row ∷ rs) (rows_told parent cs)

-- the new table beside those that are there
module _ (id : List ℕ) (row : ℕ) (columns : List ColDef) (p : List Table) where
  abbrev new : Table
  new = new_table id row columns

  described_new : (r : ℕ) → has_no_duplicates (map column_row columns) ≡ true → described_at r (described_in new) ≡ described_at r (columns_of row columns)
  described_new r once =
      let t : Table = record { id = id; row = row; grid = no_rows columns } in
      same_described t new r refl (first_columns columns r once)

  columns_come : AreNew (map described_row (columns_of row columns)) (map described_row (in_order (all_columns p))) → has_no_duplicates (map column_row columns) ≡ true → (r : ℕ)
      → first_at described_row r (in_order (all_columns (put_by_row table_row new p))) ≡ or_else (first_at described_row r (columns_of row columns)) (first_at described_row r (in_order (all_columns p)))
  columns_come n once r =
      described-in_order (all_columns (put_by_row table_row new p)) r
      ∙ elim (described_at r (columns_of row columns)) as (λ o. described_at r (columns_of row columns) ≡ o → described_at r (all_columns (put_by_row table_row new p)) ≡ or_else o (described_at r (all_columns p))) [
        | None ↦ λ e. come_none new p r (described_new r once ∙ e)
        | Some x ↦ λ e. come_some new p r (absent x e) ∙ described_new r once ∙ e
      ] refl
      ∙ ap (or_else (described_at r (columns_of row columns))) (sym (described-in_order (all_columns p) r))
    where
      absent : (x : Described) → described_at r (columns_of row columns) ≡ Some x → described_at r (all_columns p) ≡ None
      absent x e =
          let here : has (map described_row (columns_of row columns)) r ≡ true = has-first described_row (columns_of row columns) r ∙ ap is_some e in
          sym (described-in_order (all_columns p) r)
          ∙ first-none described_row (in_order (all_columns p)) r (none_in_at (map described_row (columns_of row columns)) (map described_row (in_order (all_columns p))) r n.2 here)

  table_comes : has (map table_row p) row ≡ false → (r : ℕ) → first_at table_row r (put_by_row table_row new p) ≡ or_else (first_at table_row r (new ∷ [])) (first_at table_row r p)
  table_comes absent r =
      ap (first_at table_row r) (put_by_row-table_index new p)
      ∙ first-insert table_row p (table_index row p) new r absent
      ∙ elim (eqb row r) as (λ b. cond b (Some new) (first_at table_row r p) ≡ or_else (cond b (Some new) None) (first_at table_row r p)) [ true ↦ refl | false ↦ refl ]

-- ---- the action

module _ (s : Document) (id : List ℕ) (row : ℕ) (columns : List ColDef) (whole : IsWhole s) (v : valid s (AddTable id row columns) ≡ true) where
  p : List Table
  p = plain_tables s

  free : (are_free s tables_id (row ∷ []) ≡ true) × (are_free s columns_id (map column_row columns) ≡ true)
  free =
      let all = parts_6 (is_new_table s id) (are_free s tables_id (row ∷ [])) (are_distinct column_id columns) (list_all (λ (d : ColDef). is_name d.id) columns) (are_free s columns_id (map column_row columns)) (list_all (λ (d : ColDef). is_sound_info d.info) columns) v in
      (all.1, all.4)

  schema_is : s ≡ with_schema (resources s) (rules s) (plain_tables s)
  schema_is = whole.agrees.schema

  table_new : AreNew (row ∷ []) (map table_row (plain_tables s))
  table_new =
      let three = parts_3 (from_one (row ∷ [])) (has_no_duplicates (row ∷ [])) (none_in (row ∷ []) (rows_of s tables_id)) free.0 in
      (whole.agrees.tables_ascend, three.1, subst (λ rs. none_in (row ∷ []) rs ≡ true) (ap (λ d. rows_of d tables_id) schema_is ∙ rows_of-tables (resources s) (rules s) (plain_tables s)) three.2)

  once : has_no_duplicates (map column_row columns) ≡ true
  once = (parts_3 (from_one (map column_row columns)) (has_no_duplicates (map column_row columns)) (none_in (map column_row columns) (rows_of s columns_id)) free.1).1

  columns_new : AreNew (map described_row (columns_of row columns)) (map described_row (in_order (all_columns (plain_tables s))))
  columns_new =
      let three = parts_3 (from_one (map column_row columns)) (has_no_duplicates (map column_row columns)) (none_in (map column_row columns) (rows_of s columns_id)) free.1 in
      subst (λ rs. AreNew rs (map described_row (in_order (all_columns (plain_tables s))))) (sym (rows_told row columns)) (
        IsAscending-in_order (all_columns (plain_tables s)),
        three.1,
        subst (λ rs. none_in (map column_row columns) rs ≡ true) (ap (λ d. rows_of d columns_id) schema_is ∙ rows_of-columns (resources s) (rules s) (plain_tables s)) three.2,
      )

  grids : IsGrid column_id (tables_grid (plain_tables s)) × IsGrid column_id (columns_grid (plain_tables s))
  grids =
      let same : IsWhole (with_schema (resources s) (rules s) (plain_tables s)) = subst IsWhole schema_is whole in
      (same.sound.grids.0.is_grid, same.sound.grids.1.0.is_grid)

  pub come_told : (t : SchemaTold) → TellsOf t (AddTable id row columns)
      → schema_fits t (plain_after (AddTable id row columns) s) × (schema_told t (plain_after (AddTable id row columns) s) ≡ apply s (AddTable id row columns))
  come_told t is =
      let a : DocAction = AddTable id row columns in
      let q : List Table = put_by_row table_row (new_table id row columns) (plain_tables s) in
      let after : IsWhole (with_schema (resources s) (rules s) q) = after_whole s a whole refl v in
      let fits : told_fits t.tables (tables_grid (plain_tables s)) × told_fits t.columns (columns_grid (plain_tables s)) = (
        into_fits table_row (λ (t : Table). value.Text t.id ∷ []) tables_columns t.tables (new_table id row columns ∷ []) (plain_tables s) is.0 grids.0 table_new (refl, tt),
        into_fits described_row describe columns_columns t.columns (columns_of row columns) (in_order (all_columns (plain_tables s))) is.1 grids.1 columns_new (each_of _ (λ e. refl) (columns_of row columns)),
      ) in
      let absent : has (map table_row (plain_tables s)) row ≡ false = none_in_at (row ∷ []) (map table_row (plain_tables s)) row table_new.2 (has_itself row) in
      let tables : told_grid t.tables (tables_grid (plain_tables s)) ≡ tables_grid q
      = into_grid table_row (λ (t : Table). value.Text t.id ∷ []) tables_columns t.tables (new_table id row columns ∷ []) (plain_tables s) q is.0 table_new after.agrees.tables_ascend (table_comes id row columns (plain_tables s) absent) in
      let cols : told_grid t.columns (columns_grid (plain_tables s)) ≡ columns_grid q
      = into_grid described_row describe columns_columns t.columns (columns_of row columns) (in_order (all_columns (plain_tables s))) (in_order (all_columns q)) is.1 columns_new (IsAscending-in_order (all_columns q)) (columns_come id row columns (plain_tables s) columns_new once) in
      let rest : List Table = metadata_table resources_id (resources s) ∷ metadata_table rules_id (rules s) ∷ q in (
        subst (schema_fits t) (sym (moved s a whole refl v)) fits,
        ap (schema_told t) (moved s a whole refl v)
            ∙ ap (λ g. metadata_table tables_id g ∷ metadata_table columns_id (told_grid t.columns (columns_grid (plain_tables s))) ∷ rest) tables
            ∙ ap (λ g. metadata_table tables_id (tables_grid q) ∷ metadata_table columns_id g ∷ rest) cols
            ∙ sym (schema_after s a whole refl v),
      )
    where
      has_itself : (n : ℕ) → has (n ∷ []) n ≡ true
      has_itself n = ap (λ b. b || false) (number_itself n)

-- the same of any action that adds a table
pub table_told : (s : Document) (a : DocAction) → IsWhole s → valid s a ≡ true → adds_table a ≡ true → (t : SchemaTold) → TellsOf t a → schema_fits t (plain_after a s) × (schema_told t (plain_after a s) ≡ apply s a)
table_told s (AddTable table row columns) whole v e t is = come_told s table row columns whole v t is
table_told s (BulkAdd table rows ks) whole v e t is = absurd is
table_told s (BulkUpdate table rows ks) whole v e t is = absurd is
table_told s (BulkRemove table rows) whole v e t is = absurd is
table_told s (RemoveTable table) whole v e t is = absurd is
table_told s (RenameTable table new) whole v e t is = absurd is
table_told s (AddColumn table d) whole v e t is = absurd is
table_told s (RemoveColumn table column) whole v e t is = absurd is
table_told s (RenameColumn table column new) whole v e t is = absurd is
table_told s (ModifyColumn table column info) whole v e t is = absurd is
