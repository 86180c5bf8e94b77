-- A valid action leaves each row that it does not touch.
use Rattle.std.proofs.Common.{ℕ, Bool, true, false, cond, not, ◌||◌, ◌&&◌, List, [], ◌∷◌, map, ◌≡◌, refl, sym, ap, subst, ◌∙◌, Option, Some, None, option_map, eqb}
use Rattle.std.proofs.lemmas.Bool.{false≢true, and_parts, or_parts}
use Rattle.std.proofs.lemmas.Slice.Eq.{bytes_eq-Decides}
use Rattle.std.specs.List.{list_all, AllByRecursion}
use Rattle.std.specs.Str.{bytes_eq}
use Rattle.cell_types.specs.declared.value.CellValue.TheVariants as value
use Rattle.cell_types.specs.NameRule.{is_name}
use Rattle.doc_model.specs.declared.action.DocAction.{DocAction}
use Rattle.doc_model.specs.declared.action.DocAction.TheVariants.{BulkAdd, BulkUpdate, BulkRemove, AddTable, RemoveTable, RenameTable, AddColumn, RemoveColumn, RenameColumn, ModifyColumn}
use Rattle.doc_model.specs.declared.column.ColDef.{ColDef}
use Rattle.doc_model.specs.ByIds.{find_id, has_id, are_distinct, with_id, without_id}
use Rattle.doc_model.specs.Column.{column_id, column_row, start_of, is_sound_info}
use Rattle.doc_model.specs.Document.{Table, Document, table_id, table_row, on_grid, renamed, with_table, put_by_row}
use Rattle.doc_model.specs.DocumentLaws.{IsWhole}
use Rattle.doc_model.specs.Grid.{Grid}
use Rattle.doc_model.specs.MetadataIds.{tables_id, columns_id, resources_id, rules_id}
use Rattle.doc_model.specs.Records.{add_rows, update_rows, remove_rows}
use Rattle.doc_model.specs.Rows.{has}
use Rattle.doc_model.specs.SameRows.{Both, SameRow}
use Rattle.doc_model.specs.Schema.{described_row, describe, all_columns, in_order, tables_columns, columns_columns, tables_grid, columns_grid, metadata_table, with_schema, resources, rules, plain_tables}
use Rattle.doc_model.specs.Touched.{names_table, is_about, table_described, columns_described, column_described, tables_touched, columns_touched, is_row_touched, AreSameTables, UntouchedLaw}
use Rattle.doc_model.specs.Sound.{IsSoundGrid}
use Rattle.doc_model.specs.Valid.{passes, schema_table, all_null, are_free, is_new_table, is_new_column, valid}
use Rattle.doc_model.specs.Apply.{new_table, add_column, remove_column, with_column, with_name, with_info, effect}
use Rattle.doc_model.proofs.Choices.{cond_false, not_true, parts_6}
use Rattle.doc_model.proofs.ByIdsLaws.{find-without_id, found_all}
use Rattle.doc_model.proofs.ByRowLaws.{find-put_by_row, find-with_id, has-by_row}
use Rattle.doc_model.proofs.DocumentParts.{absent_parts, applied, find_plain, passes_parts, schema_table_parts, tables_grid_same}
use Rattle.doc_model.proofs.FirstRows.{first_at, first-none, first-put_by_row, first-without_id, first-with_id, each_of_id, same_row_by}
use Rattle.doc_model.proofs.DescribedRows.{described_at, described-in_order, described_in, same_described, described-with_table, described-without_table, described-put_table}
use Rattle.doc_model.proofs.SameRowLaws.{both_itself, rows_itself, rows_added, rows_updated, rows_removed, SameRow-itself}
use Rattle.doc_model.proofs.WholeLaws.{IsGood, good_from}

-- ---- actions on records

module _ (s : Document) (table c : List ℕ) (rows : List ℕ) (f : Grid ColDef → Grid ColDef) (keeps : (g : Grid ColDef) (r : ℕ) → has rows r ≡ false → SameRow column_id r g (f g)) where
  kept : (o : Option Table) (r : ℕ) → has rows r ≡ false → Both (AreSameTables r) o (option_map (on_grid f) o)
  kept None r out = tt
  kept (Some t) r out = keeps t.grid r out

  records_left : (r : ℕ) → (bytes_eq table c && has rows r) ≡ false → Both (AreSameTables r) (find_id table_id c s) (find_id table_id c (with_table table (on_grid f) s))
  records_left r away =
      subst (λ o. Both (AreSameTables r) (find_id table_id c s) o) (sym (find-with_id table_id table (on_grid f) (λ t. refl) s c)) (
      elim (bytes_eq table c) as (λ b. (b && has rows r) ≡ false → Both (AreSameTables r) (find_id table_id c s) (cond b (option_map (on_grid f) (find_id table_id c s)) (find_id table_id c s))) [
        | true ↦ λ out. kept (find_id table_id c s) r out
        | false ↦ λ _. both_itself (AreSameTables r) (λ t. SameRow-itself column_id r t.grid) (find_id table_id c s)
      ] away)

-- ---- schema actions

-- whom an id finds among others of which one gets another id
find_other : {X : Type 0} (id : X → List ℕ) (old c : List ℕ) (f : X → X) (xs : List X) → bytes_eq old c ≡ false → ((x : X) → bytes_eq (id x) old ≡ true → bytes_eq (id (f x)) c ≡ false)
    → find_id id c (with_id id old f xs) ≡ find_id id c xs
find_other id old c f [] apart new = refl
find_other id old c f (x ∷ xs) apart new =
    elim (bytes_eq (id x) old) as (λ b. bytes_eq (id x) old ≡ b → cond (bytes_eq (id (cond b (f x) x)) c) (Some (cond b (f x) x)) (find_id id c (with_id id old f xs)) ≡ cond (bytes_eq (id x) c) (Some x) (find_id id c xs)) [
      | true ↦ λ is.
          cond_false (bytes_eq (id (f x)) c) (Some (f x)) (find_id id c (with_id id old f xs)) (new x is)
          ∙ find_other id old c f xs apart new
          ∙ sym (cond_false (bytes_eq (id x) c) (Some x) (find_id id c xs) (ap (λ n. bytes_eq n c) ((bytes_eq-Decides (id x) old).0 is) ∙ apart))
      | false ↦ λ _. ap (λ o. cond (bytes_eq (id x) c) (Some x) o) (find_other id old c f xs apart new)
    ] refl

-- other plain tables leave the row of every table, where that is so of the schema tables and of the plain ones
module _ (g u : Grid ColDef) (p q : List Table) (c : List ℕ) (r : ℕ) where
  parts_left : (bytes_eq tables_id c ≡ true → SameRow column_id r (tables_grid p) (tables_grid q))
      → (bytes_eq columns_id c ≡ true → SameRow column_id r (columns_grid p) (columns_grid q))
      → Both (AreSameTables r) (find_id table_id c p) (find_id table_id c q)
      → Both (AreSameTables r) (find_id table_id c (with_schema g u p)) (find_id table_id c (with_schema g u q))
  parts_left tables columns plain =
      either (bytes_eq tables_id c) (metadata_table tables_id (tables_grid p)) (metadata_table tables_id (tables_grid q)) (find_id table_id c (metadata_table columns_id (columns_grid p) ∷ metadata_table resources_id g ∷ metadata_table rules_id u ∷ p)) (find_id table_id c (metadata_table columns_id (columns_grid q) ∷ metadata_table resources_id g ∷ metadata_table rules_id u ∷ q)) tables
      (either (bytes_eq columns_id c) (metadata_table columns_id (columns_grid p)) (metadata_table columns_id (columns_grid q)) (find_id table_id c (metadata_table resources_id g ∷ metadata_table rules_id u ∷ p)) (find_id table_id c (metadata_table resources_id g ∷ metadata_table rules_id u ∷ q)) columns
      (either (bytes_eq resources_id c) (metadata_table resources_id g) (metadata_table resources_id g) (find_id table_id c (metadata_table rules_id u ∷ p)) (find_id table_id c (metadata_table rules_id u ∷ q)) (λ _. SameRow-itself column_id r g)
      (either (bytes_eq rules_id c) (metadata_table rules_id u) (metadata_table rules_id u) (find_id table_id c p) (find_id table_id c q) (λ _. SameRow-itself column_id r u) plain)))
    where
      either : (b : Bool) (x y : Table) (o w : Option Table) → (b ≡ true → AreSameTables r x y) → Both (AreSameTables r) o w → Both (AreSameTables r) (cond b (Some x) o) (cond b (Some y) w)
      either true x y o w h k = h refl
      either false x y o w h k = k

-- the row of the table of tables, and that of the table of columns
tables_left : (p q : List Table) (r : ℕ) → first_at table_row r q ≡ first_at table_row r p → SameRow column_id r (tables_grid p) (tables_grid q)
tables_left p q r e = same_row_by column_id tables_columns table_row (λ (t : Table). value.Text t.id ∷ []) p q r (ap (option_map (λ (t : Table). value.Text t.id ∷ [])) (sym e))

tables_same : (p q : List Table) (r : ℕ) → tables_grid q ≡ tables_grid p → SameRow column_id r (tables_grid p) (tables_grid q)
tables_same p q r e = subst (λ g. SameRow column_id r (tables_grid p) g) (sym e) (SameRow-itself column_id r (tables_grid p))

columns_left : (p q : List Table) (r : ℕ) → described_at r (all_columns q) ≡ described_at r (all_columns p) → SameRow column_id r (columns_grid p) (columns_grid q)
columns_left p q r e =
    same_row_by column_id columns_columns described_row describe (in_order (all_columns p)) (in_order (all_columns q)) r
    (ap (option_map describe) (described-in_order (all_columns p) r ∙ sym e ∙ sym (described-in_order (all_columns q) r)))

one_row : (n r : ℕ) → has (n ∷ []) r ≡ false → eqb n r ≡ false
one_row n r e = (or_parts (eqb n r) false e).0

second : (x y : Bool) → (x && y) ≡ false → x ≡ true → y ≡ false
second true y e h = e
second false y e h = absurd (false≢true h)

and_true : (b : Bool) → (b && true) ≡ false → b ≡ false
and_true true e = e
and_true false e = refl

module _ (s : Document) (whole : IsWhole s) (c : List ℕ) (r : ℕ) where
  abbrev p : List Table
  p = plain_tables s

  abbrev good : IsGood (resources s) (rules s) p
  good = good_from s whole

  abbrev Left : Document → Type 0
  Left t = Both (AreSameTables r) (find_id table_id c s) (find_id table_id c t)

  -- a document with other plain tables
  replaced : (q : List Table) → (bytes_eq tables_id c ≡ true → SameRow column_id r (tables_grid p) (tables_grid q))
      → (bytes_eq columns_id c ≡ true → SameRow column_id r (columns_grid p) (columns_grid q))
      → Both (AreSameTables r) (find_id table_id c p) (find_id table_id c q) → Left (with_schema (resources s) (rules s) q)
  replaced q tables columns plain =
      subst (λ t. Both (AreSameTables r) (find_id table_id c t) (find_id table_id c (with_schema (resources s) (rules s) q))) (sym whole.agrees.schema)
      (parts_left (resources s) (rules s) p q c r tables columns plain)

  -- the parts of what an action does not touch
  module _ (a : DocAction) (away : is_row_touched s a c r ≡ false) where
    abbrev two : (((names_table a c && is_about a r) || (bytes_eq tables_id c && has (tables_touched s a) r)) ≡ false) × ((bytes_eq columns_id c && has (columns_touched s a) r) ≡ false)
    two = or_parts ((names_table a c && is_about a r) || (bytes_eq tables_id c && has (tables_touched s a) r)) (bytes_eq columns_id c && has (columns_touched s a) r) away

    free_named : (names_table a c && is_about a r) ≡ false
    free_named = (or_parts (names_table a c && is_about a r) (bytes_eq tables_id c && has (tables_touched s a) r) two.0).0

    free_tables : bytes_eq tables_id c ≡ true → has (tables_touched s a) r ≡ false
    free_tables = second (bytes_eq tables_id c) (has (tables_touched s a) r) (or_parts (names_table a c && is_about a r) (bytes_eq tables_id c && has (tables_touched s a) r) two.0).1

    free_columns : bytes_eq columns_id c ≡ true → has (columns_touched s a) r ≡ false
    free_columns = second (bytes_eq columns_id c) (has (columns_touched s a) r) two.1

  -- ---- a new table

  add_table_left : (table : List ℕ) (row : ℕ) (columns : List ColDef) → valid s (AddTable table row columns) ≡ true → is_row_touched s (AddTable table row columns) c r ≡ false → Left (effect s (AddTable table row columns))
  add_table_left table row columns v away =
      let t : Table = new_table table row columns in
      replaced (put_by_row table_row t p)
      (λ is. tables_left p (put_by_row table_row t p) r (first-put_by_row table_row t p r (one_row row r (free_tables (AddTable table row columns) away is))))
      (λ is. columns_left p (put_by_row table_row t p) r (described-put_table t p r (first-none column_row t.grid.columns r (has-by_row column_row columns r ∙ free_columns (AddTable table row columns) away is))))
      (rows_itself r (find_id table_id c p) (find_id table_id c (put_by_row table_row t p)) (find-put_by_row table_row table_id t p c absent
      ∙ cond_false (bytes_eq table c) (Some t) (find_id table_id c p) (and_true (bytes_eq table c) (free_named (AddTable table row columns) away))))
    where
      new : is_new_table s table ≡ true
      new = (parts_6 (is_new_table s table) (are_free s tables_id (row ∷ [])) (are_distinct column_id columns) (list_all (λ (d : ColDef). is_name d.id) columns)
          (are_free s columns_id (map column_row columns)) (list_all (λ (d : ColDef). is_sound_info d.info) columns) v).0

      absent : has_id table_id p table ≡ false
      absent = (absent_parts (resources s) (rules s) p table (ap (λ t. has_id table_id t table) (sym whole.agrees.schema) ∙ not_true (has_id table_id s table) (and_parts (not (has_id table_id s table)) (is_name table) new).0)).1

  -- ---- actions on a plain table that is there

  module _ (table : List ℕ) (test : Table → Bool) (there : passes (schema_table s table) test ≡ true) where
    -- the document finds it where the plain tables do
    found_plain : find_id table_id table s ≡ find_id table_id table p
    found_plain =
        let t = passes_parts (schema_table s table) test there in
        let plain = schema_table_parts (resources s) (rules s) p table t.0 (ap (λ d. schema_table d table) (sym whole.agrees.schema) ∙ t.1.0) in
        ap (find_id table_id table) whole.agrees.schema ∙ find_plain (resources s) (rules s) p table plain.0

    -- what describes it is elsewhere
    table_elsewhere : has (table_described s table) r ≡ false → AllByRecursion (λ x. bytes_eq (table_id x) table ≡ true → eqb (table_row x) r ≡ false) p
    table_elsewhere none = each_of_id table_id (λ x. eqb (table_row x) r ≡ false) table p good.distinct (λ x found.
        one_row x.row r (subst (λ o. has (elim o as (λ (o : Option Table). List ℕ) [ None ↦ [] | Some t ↦ t.row ∷ [] ]) r ≡ false) (found_plain ∙ found) none))

    -- what describes its columns is elsewhere
    columns_elsewhere : has (columns_described s table) r ≡ false → AllByRecursion (λ x. bytes_eq (table_id x) table ≡ true → first_at column_row r x.grid.columns ≡ None) p
    columns_elsewhere none = each_of_id table_id (λ x. first_at column_row r x.grid.columns ≡ None) table p good.distinct (λ x found.
        first-none column_row x.grid.columns r (subst (λ o. has (elim o as (λ (o : Option Table). List ℕ) [ None ↦ [] | Some t ↦ map column_row t.grid.columns ]) r ≡ false) (found_plain ∙ found) none))

    -- what describes one of its columns is elsewhere
    column_elsewhere : (column : List ℕ) → has (column_described s table column) r ≡ false → (x : Table) → find_id table_id table p ≡ Some x
        → AllByRecursion (λ d. bytes_eq (column_id d) column ≡ true → eqb (column_row d) r ≡ false) x.grid.columns
    column_elsewhere column none x found = each_of_id column_id (λ d. eqb (column_row d) r ≡ false) column x.grid.columns
        (found_all table_id (λ t. IsSoundGrid t.grid) table p x good.grids found).is_grid.distinct (λ d found_column.
        one_row d.row r (subst (λ o. has (elim o as (λ (o : Option ColDef). List ℕ) [ None ↦ [] | Some d ↦ d.row ∷ [] ]) r ≡ false) found_column
        (subst (λ o. has (elim o as (λ (o : Option Table). List ℕ) [ None ↦ [] | Some t ↦ elim (find_id column_id column t.grid.columns) as (λ (o : Option ColDef). List ℕ) [ None ↦ [] | Some d ↦ d.row ∷ [] ] ]) r ≡ false) (found_plain ∙ found) none)))

    -- one of its columns changed, added or removed
    grid_left : (f : Grid ColDef → Grid ColDef) → (bytes_eq table c && true) ≡ false
        → (bytes_eq columns_id c ≡ true → (x : Table) → find_id table_id table p ≡ Some x → first_at column_row r (f x.grid).columns ≡ first_at column_row r x.grid.columns)
        → Left (with_schema (resources s) (rules s) (with_table table (on_grid f) p))
    grid_left f apart columns = replaced (with_table table (on_grid f) p)
        (λ _. tables_same p (with_table table (on_grid f) p) r (tables_grid_same table (on_grid f) p (λ t. refl) (λ t. refl)))
        (λ is. columns_left p (with_table table (on_grid f) p) r (described-with_table table r (on_grid f) p
        (each_of_id table_id (λ x. described_at r (described_in (on_grid f x)) ≡ described_at r (described_in x)) table p good.distinct (λ x found. same_described x (on_grid f x) r refl (columns is x found)))))
        (rows_itself r (find_id table_id c p) (find_id table_id c (with_table table (on_grid f) p)) (find-with_id table_id table (on_grid f) (λ t. refl) p c
        ∙ cond_false (bytes_eq table c) (option_map (on_grid f) (find_id table_id c p)) (find_id table_id c p) (and_true (bytes_eq table c) apart)))

  remove_table_left : (table : List ℕ) → valid s (RemoveTable table) ≡ true → is_row_touched s (RemoveTable table) c r ≡ false → Left (effect s (RemoveTable table))
  remove_table_left table v away = replaced (without_id table_id table p)
      (λ is. tables_left p (without_id table_id table p) r (first-without_id table_row table_id table r p (table_elsewhere table (λ _. true) v (free_tables (RemoveTable table) away is))))
      (λ is. columns_left p (without_id table_id table p) r (described-without_table table r p (columns_elsewhere table (λ _. true) v (free_columns (RemoveTable table) away is))))
      (rows_itself r (find_id table_id c p) (find_id table_id c (without_id table_id table p)) (find-without_id table_id table p c
      ∙ cond_false (bytes_eq table c) None (find_id table_id c p) (and_true (bytes_eq table c) (free_named (RemoveTable table) away))))

  rename_table_left : (table new : List ℕ) → valid s (RenameTable table new) ≡ true → is_row_touched s (RenameTable table new) c r ≡ false → Left (effect s (RenameTable table new))
  rename_table_left table new v away =
      let apart = or_parts (bytes_eq table c) (bytes_eq new c) (and_true (bytes_eq table c || bytes_eq new c) (free_named (RenameTable table new) away)) in
      replaced (with_table table (renamed new) p)
      (λ is. tables_left p (with_table table (renamed new) p) r (first-with_id table_row table_id table r (renamed new) (λ t. refl) p (table_elsewhere table (λ _. is_new_table s new) v (free_tables (RenameTable table new) away is))))
      (λ _. columns_left p (with_table table (renamed new) p) r (described-with_table table r (renamed new) p
      (each_of_id table_id (λ x. described_at r (described_in (renamed new x)) ≡ described_at r (described_in x)) table p good.distinct (λ x found. refl))))
      (rows_itself r (find_id table_id c p) (find_id table_id c (with_table table (renamed new) p)) (find_other table_id table c (renamed new) p apart.0 (λ t is. apart.1)))

  effect_left : (a : DocAction) → valid s a ≡ true → is_row_touched s a c r ≡ false → Left (effect s a)
  effect_left (BulkAdd table rows ks) v away = records_left s table c rows (add_rows column_id start_of rows ks) (rows_added rows ks) r (free_named (BulkAdd table rows ks) away)
  effect_left (BulkUpdate table rows ks) v away = records_left s table c rows (update_rows column_id rows ks) (rows_updated rows ks) r (free_named (BulkUpdate table rows ks) away)
  effect_left (BulkRemove table rows) v away = records_left s table c rows (remove_rows column_id rows) (rows_removed rows) r (free_named (BulkRemove table rows) away)
  effect_left (AddTable table row columns) v away = add_table_left table row columns v away
  effect_left (RemoveTable table) v away = remove_table_left table v away
  effect_left (RenameTable table new) v away = rename_table_left table new v away
  effect_left (AddColumn table d) v away =
      grid_left table (λ t. is_new_column t.grid d.id && are_free s columns_id (d.row ∷ []) && is_sound_info d.info) v (add_column d) (free_named (AddColumn table d) away)
      (λ is x found. first-put_by_row column_row d x.grid.columns r (one_row d.row r (free_columns (AddColumn table d) away is)))
  effect_left (RemoveColumn table column) v away =
      let test : Table → Bool = λ t. has_id column_id t.grid.columns column in
      grid_left table test v (remove_column column) (free_named (RemoveColumn table column) away)
      (λ is x found. first-without_id column_row column_id column r x.grid.columns (column_elsewhere table test v column (free_columns (RemoveColumn table column) away is) x found))
  effect_left (RenameColumn table column new) v away =
      let test : Table → Bool = λ t. has_id column_id t.grid.columns column && is_new_column t.grid new in
      grid_left table test v (with_column column (with_name new)) (free_named (RenameColumn table column new) away)
      (λ is x found. first-with_id column_row column_id column r (with_name new) (λ d. refl) x.grid.columns (column_elsewhere table test v column (free_columns (RenameColumn table column new) away is) x found))
  effect_left (ModifyColumn table column info) v away =
      let test : Table → Bool = λ t. has_id column_id t.grid.columns column && is_sound_info info && (not info.is_formula || all_null t.grid column) in
      grid_left table test v (with_column column (with_info info)) (free_named (ModifyColumn table column info) away)
      (λ is x found. first-with_id column_row column_id column r (with_info info) (λ d. refl) x.grid.columns (column_elsewhere table test v column (free_columns (ModifyColumn table column info) away is) x found))

pub untouched : UntouchedLaw
untouched s a whole v c r away = subst (λ t. Both (AreSameTables r) (find_id table_id c s) (find_id table_id c t)) (sym (applied s a v)) (effect_left s whole c r a v away)
