-- What an action on no records leaves of formulas and rows.
use Rattle.std.proofs.Common.{ℕ, Bool, true, false, cond, not, ◌&&◌, ◌||◌, List, [], ◌∷◌, map, ◌≡◌, ◌⊎◌, inl, inr, refl, sym, ap, ◌∙◌, subst, Option, Some, None, option_map}
use Rattle.std.proofs.lemmas.Bool.{and_parts, false≢true, or_right, true≢false}
use Rattle.std.proofs.lemmas.Slice.Eq.{bytes_eq-Decides}
use Rattle.std.specs.List.{AllByRecursion, list_all}
use Rattle.std.specs.Option.{is_some}
use Rattle.std.specs.Str.{bytes_eq}
use Rattle.cell_types.specs.NameRule.{is_name}
use Rattle.cell_types.specs.declared.cell.CellId.{CellId}
use Rattle.doc_model.specs.declared.action.DocAction.{DocAction}
use Rattle.doc_model.specs.declared.action.DocAction.TheVariants.{BulkAdd, BulkUpdate, BulkRemove, AddTable, RemoveTable, RenameTable, AddColumn, RemoveColumn, RenameColumn, ModifyColumn}
use Rattle.doc_model.specs.declared.column.ColDef.{ColDef}
use Rattle.doc_model.specs.declared.column.ColInfo.{ColInfo}
use Rattle.doc_model.specs.Apply.{add_column, effect, new_table, remove_column, with_column, with_info, with_name}
use Rattle.doc_model.specs.ByIds.{are_distinct, find_id, has_id, with_id, without_id}
use Rattle.doc_model.specs.Column.{column_id, column_row, is_sound_info}
use Rattle.doc_model.specs.Document.{Table, Document, on_grid, put_by_row, renamed, table_id, table_row, with_table}
use Rattle.doc_model.specs.Grid.{Grid}
use Rattle.doc_model.specs.MetadataIds.{columns_id, tables_id}
use Rattle.doc_model.specs.Rows.{has}
use Rattle.doc_model.specs.Schema.{columns_grid, metadata_table, no_grid, plain_tables, resources, rules, tables_grid, with_schema}
use Rattle.doc_model.specs.Valid.{all_null, are_free, is_new_column, is_new_table, schema_table, valid}
use Rattle.doc_model.proofs.ByIdsLaws.{bytes_apart, bytes_itself, find-without_id, find_absent, found_all, has_found}
use Rattle.doc_model.proofs.ByRowLaws.{apart_ids, find-put_by_row, find-with_id, has-old_id}
use Rattle.doc_model.proofs.Choices.{cond_false, cond_true, not_true, parts_3, parts_6}
use Rattle.doc_model.proofs.DocumentParts.{absent_parts, applied, find_plain, passes_parts, schema_table_parts}
use Rattle.doc_model.proofs.WholeLaws.{IsPlain}
use Rattle.doc_readers.specs.Parts.{grid_at}
use Rattle.recalc.specs.Evaluated.{formula_at, formula_in}
use Rattle.recalc.specs.MayLose.{is_record}
use Rattle.affected_cells.specs.Affected.{is_fresh_cell, is_modified}
use Rattle.affected_cells.proofs.Alike.{form_of, in_plain, in_schema}
use Rattle.affected_cells.proofs.Renamed.{found_kept}
use Rattle.affected_cells.proofs.Tests.{flipped, found_once, or_false}
use Rattle.affected_values.specs.Altered.{AlteredLaw, IsAlteredFrom, IsAlteredRight, is_altered}

abbrev rows_found : Option Table → List ℕ
rows_found o = (elim o as (λ _. Grid ColDef) [ None ↦ no_grid | Some u ↦ u.grid ]).rows

-- the formula of the cell is the same, and if there is one the rows of its table are
pub record IsStill (c : CellId) (o p : Option Table) : Type 0 where
  pub formula : form_of p c ≡ form_of o c
  pub rows : is_some (form_of p c) ≡ true → rows_found p ≡ rows_found o

still_itself : (c : CellId) (o : Option Table) → IsStill c o o
still_itself c o = record { formula = refl; rows = λ _. refl }

still_none : (c : CellId) (o p : Option Table) → form_of o c ≡ None → form_of p c ≡ None → IsStill c o p
still_none c o p e f = record { formula = f ∙ sym e; rows = λ there. absurd (false≢true (ap is_some (sym f) ∙ there)) }

-- in a table without formula columns no cell has a formula
no_formula : (c : CellId) (t : Table) → AllByRecursion (λ (d : ColDef). d.info.is_formula ≡ false) t.grid.columns → form_of (Some t) c ≡ None
no_formula c t plain = by (find_id column_id c.column t.grid.columns) refl
  where
    by : (o : Option ColDef) → find_id column_id c.column t.grid.columns ≡ o → elim o as (λ _. Option (List ℕ)) [ None ↦ None | Some d ↦ formula_in t.grid c.row d ] ≡ None
    by None e = refl
    by (Some d) e = ap (λ b. cond (b && has t.grid.rows c.row) (Some d.info.formula) None) (found_all column_id (λ (d : ColDef). d.info.is_formula ≡ false) c.column t.grid.columns d plain e)

-- of a document whose schema tables describe other plain tables
still_all : (c : CellId) (r u : Grid ColDef) (p q : List Table) → IsStill c (find_id table_id c.table p) (find_id table_id c.table q) → IsStill c (find_id table_id c.table (with_schema r u p)) (find_id table_id c.table (with_schema r u q))
still_all c r u p q = in_schema (IsStill c) (still_itself c) r u p q c.table
    (λ _. still_none c (Some (metadata_table tables_id (tables_grid p))) (Some (metadata_table tables_id (tables_grid q))) (no_formula c (metadata_table tables_id (tables_grid p)) (refl, tt)) (no_formula c (metadata_table tables_id (tables_grid q)) (refl, tt)))
    (λ _. still_none c (Some (metadata_table columns_id (columns_grid p))) (Some (metadata_table columns_id (columns_grid q)))
    (no_formula c (metadata_table columns_id (columns_grid p)) (refl, (refl, (refl, (refl, (refl, tt)))))) (no_formula c (metadata_table columns_id (columns_grid q)) (refl, (refl, (refl, (refl, (refl, tt)))))))

-- the plain tables before and after: a cell that is not altered is as it was; one that is altered is modified, or it has no formula before or after
pub record AreAltered (a : DocAction) (p q : List Table) : Type 0 where
  pub stays : (c : CellId) → is_altered a c ≡ false → IsStill c (find_id table_id c.table p) (find_id table_id c.table q)
  pub fresh : (c : CellId) → is_altered a c ≡ true
      → (is_modified a c ≡ true) ⊎ (IsPlain c.table × ((form_of (find_id table_id c.table p) c ≡ None) ⊎ (form_of (find_id table_id c.table q) c ≡ None)))

-- ---- tables

same_table : (c : CellId) (p q : List Table) → find_id table_id c.table q ≡ find_id table_id c.table p → IsStill c (find_id table_id c.table p) (find_id table_id c.table q)
same_table c p q e = subst (IsStill c (find_id table_id c.table p)) (sym e) (still_itself c (find_id table_id c.table p))

no_table : (c : CellId) (p : List Table) (n : List ℕ) → c.table ≡ n → find_id table_id n p ≡ None → form_of (find_id table_id c.table p) c ≡ None
no_table c p n name e = ap (λ m. form_of (find_id table_id m p) c) name ∙ ap (λ o. form_of o c) e

module _ (r u : Grid ColDef) (p : List Table) where
  abbrev w : Document
  w = with_schema r u p

  not_there : (a b : Bool) → (not a && b) ≡ true → a ≡ false
  not_there a b h = not_true a (and_parts (not a) b h).0

  table_added : (table : List ℕ) (row : ℕ) (ds : List ColDef) → valid w (AddTable table row ds) ≡ true → AreAltered (AddTable table row ds) p (put_by_row table_row (new_table table row ds) p)
  table_added table row ds v =
      let is_new = (parts_6 (is_new_table w table) (are_free w tables_id (row ∷ [])) (are_distinct column_id ds) (list_all (λ (d : ColDef). is_name d.id) ds) (are_free w columns_id (map column_row ds)) (list_all (λ (d : ColDef). is_sound_info d.info) ds) v).0 in
      let parts = absent_parts r u p table (not_there (has_id table_id w table) (is_name table) is_new) in
      let q : List Table = put_by_row table_row (new_table table row ds) p in
      record {
        stays = λ c free. same_table c p q (find-put_by_row table_row table_id (new_table table row ds) p c.table parts.1 ∙ cond_false (bytes_eq table c.table) (Some (new_table table row ds)) (find_id table_id c.table p) (bytes_apart c.table table free));
        fresh = λ c is. let name : c.table ≡ table = (bytes_eq-Decides c.table table).0 is in inr (subst IsPlain (sym name) parts.0, inl (no_table c p table name (find_absent table_id table p parts.1)));
      }

  table_removed : (table : List ℕ) → valid w (RemoveTable table) ≡ true → AreAltered (RemoveTable table) p (without_id table_id table p)
  table_removed table v =
      let found : (t : Table) × ((schema_table w table ≡ Some t) × (true ≡ true)) = passes_parts (schema_table w table) (λ _. true) v in
      let q : List Table = without_id table_id table p in
      record {
        stays = λ c free. same_table c p q (find-without_id table_id table p c.table ∙ cond_false (bytes_eq table c.table) None (find_id table_id c.table p) (bytes_apart c.table table free));
        fresh = λ c is.
            let name : c.table ≡ table = (bytes_eq-Decides c.table table).0 is in
            inr (subst IsPlain (sym name) (schema_table_parts r u p table found.0 found.1.0).0, inr (no_table c q table name (find-without_id table_id table p table ∙ cond_true (bytes_eq table table) None (find_id table_id table p) (bytes_itself table))));
      }

  table_renamed : (table new : List ℕ) → valid w (RenameTable table new) ≡ true → AreAltered (RenameTable table new) p (with_table table (renamed new) p)
  table_renamed table new v =
      let found : (t : Table) × ((schema_table w table ≡ Some t) × (is_new_table w new ≡ true)) = passes_parts (schema_table w table) (λ _. is_new_table w new) v in
      let at = schema_table_parts r u p table found.0 found.1.0 in
      let parts = absent_parts r u p new (not_there (has_id table_id w new) (is_name new) found.1.1) in
      let q : List Table = with_table table (renamed new) p in
      record {
        stays = λ c free. let e = or_false (bytes_eq c.table table) (bytes_eq c.table new) free in same_table c p q (found_kept table_id table new c.table (renamed new) (λ _. refl) e.0 e.1 p);
        fresh = λ c is. by c (bytes_eq c.table table) refl is at.0 parts.0
            (find_absent table_id table q (has-old_id table_id table new (renamed new) p (λ _. refl) (apart_ids table_id table new p (has_found table_id table p found.0 at.1) parts.1)))
            (find_absent table_id new p parts.1);
      }
    where
      by : (c : CellId) (b : Bool) → bytes_eq c.table table ≡ b → (b || bytes_eq c.table new) ≡ true → IsPlain table → IsPlain new → find_id table_id table (with_table table (renamed new) p) ≡ None → find_id table_id new p ≡ None
          → (false ≡ true) ⊎ (IsPlain c.table × ((form_of (find_id table_id c.table p) c ≡ None) ⊎ (form_of (find_id table_id c.table (with_table table (renamed new) p)) c ≡ None)))
      by c true old h one two gone absent = let name : c.table ≡ table = (bytes_eq-Decides c.table table).0 old in inr (subst IsPlain (sym name) one, inr (no_table c (with_table table (renamed new) p) table name gone))
      by c false old h one two gone absent = let name : c.table ≡ new = (bytes_eq-Decides c.table new).0 h in inr (subst IsPlain (sym name) two, inl (no_table c p new name absent))

-- ---- columns of a table

-- the columns of a table before and after
pub record AreColumnsAltered (altered : List ℕ → Bool) (modified : Bool) (old new : List ColDef) : Type 0 where
  pub stays : (k : List ℕ) → altered k ≡ false → find_id column_id k new ≡ find_id column_id k old
  pub fresh : (k : List ℕ) → altered k ≡ true → (modified ≡ true) ⊎ ((find_id column_id k old ≡ None) ⊎ (find_id column_id k new ≡ None))

module _ (p : List Table) (table : List ℕ) (f : Grid ColDef → Grid ColDef) (rows : (g : Grid ColDef) → (f g).rows ≡ g.rows) (t : Table) (plain : IsPlain table) (at : find_id table_id table p ≡ Some t) where
  abbrev after : List Table
  after = with_table table (on_grid f) p

  abbrev forms_by : CellId → Option ColDef → List ℕ → Option (List ℕ)
  forms_by c o rs = elim o as (λ _. Option (List ℕ)) [ None ↦ None | Some d ↦ cond (d.info.is_formula && has rs c.row) (Some d.info.formula) None ]

  column_still : (c : CellId) → (c.table ≡ table → find_id column_id c.column (f t.grid).columns ≡ find_id column_id c.column t.grid.columns) → IsStill c (find_id table_id c.table p) (find_id table_id c.table after)
  column_still c same = in_plain (IsStill c) (still_itself c) table f p c.table (λ x found is.
      let own : t ≡ x = found_once t x (sym at ∙ ap (λ n. find_id table_id n p) (sym is) ∙ found) in
      subst (λ (y : Table). IsStill c (Some y) (Some (on_grid f y))) own (record {
        formula = ap (forms_by c (find_id column_id c.column (f t.grid).columns)) (rows t.grid) ∙ ap (λ o. forms_by c o t.grid.rows) (same is);
        rows = λ _. rows t.grid;
      }))

  table_after : find_id table_id table after ≡ Some (on_grid f t)
  table_after = find-with_id table_id table (on_grid f) (λ _. refl) p table ∙ cond_true (bytes_eq table table) (option_map (on_grid f) (find_id table_id table p)) (find_id table_id table p) (bytes_itself table) ∙ ap (option_map (on_grid f)) at

  no_column : (c : CellId) (s : List Table) (x : Table) → c.table ≡ table → find_id table_id table s ≡ Some x → find_id column_id c.column x.grid.columns ≡ None → form_of (find_id table_id c.table s) c ≡ None
  no_column c s x name there e =
      ap (λ m. form_of (find_id table_id m s) c) name ∙ ap (λ o. form_of o c) there
      ∙ ap (λ (o : Option ColDef). elim o as (λ _. Option (List ℕ)) [ None ↦ None | Some d ↦ formula_in x.grid c.row d ]) e

  module _ (a : DocAction) (altered : List ℕ → Bool) (modified : Bool) (its : (c : CellId) → is_altered a c ≡ (bytes_eq c.table table && altered c.column))
      (too : modified ≡ true → (c : CellId) → is_altered a c ≡ true → is_modified a c ≡ true) (columns : AreColumnsAltered altered modified t.grid.columns (f t.grid).columns) where
    second : (x b : Bool) → (x && b) ≡ false → x ≡ true → b ≡ false
    second true b h e = h
    second false b h e = absurd (false≢true e)

    columns_fresh : (c : CellId) → is_altered a c ≡ true → c.table ≡ table → (modified ≡ true) ⊎ ((find_id column_id c.column t.grid.columns ≡ None) ⊎ (find_id column_id c.column (f t.grid).columns ≡ None))
        → (is_modified a c ≡ true) ⊎ (IsPlain c.table × ((form_of (find_id table_id c.table p) c ≡ None) ⊎ (form_of (find_id table_id c.table after) c ≡ None)))
    columns_fresh c is name (inl m) = inl (too m c is)
    columns_fresh c is name (inr (inl e)) = inr (subst IsPlain (sym name) plain, inl (no_column c p t name at e))
    columns_fresh c is name (inr (inr e)) = inr (subst IsPlain (sym name) plain, inr (no_column c after (on_grid f t) name table_after e))

    columns_altered : AreAltered a p after
    columns_altered = record {
      stays = λ c free. column_still c (λ is. columns.stays c.column (second (bytes_eq c.table table) (altered c.column) (sym (its c) ∙ free) ((bytes_eq-Decides c.table table).1 is)));
      fresh = λ c is. let e = and_parts (bytes_eq c.table table) (altered c.column) (sym (its c) ∙ is) in columns_fresh c is ((bytes_eq-Decides c.table table).0 e.0) (columns.fresh c.column e.1);
    }

module _ (r u : Grid ColDef) (p : List Table) where
  abbrev x : Document
  x = with_schema r u p

  column_added : (table : List ℕ) (d : ColDef) → valid x (AddColumn table d) ≡ true → AreAltered (AddColumn table d) p (with_table table (on_grid (add_column d)) p)
  column_added table d v =
      let found : (t : Table) × ((schema_table x table ≡ Some t) × (((is_new_column t.grid d.id && are_free x columns_id (d.row ∷ [])) && is_sound_info d.info) ≡ true))
      = passes_parts (schema_table x table) (λ t. is_new_column t.grid d.id && are_free x columns_id (d.row ∷ []) && is_sound_info d.info) v in
      let at = schema_table_parts r u p table found.0 found.1.0 in
      let cs : List ColDef = found.0.grid.columns in
      let absent : has_id column_id cs d.id ≡ false = not_there r u p (has_id column_id cs d.id) (is_name d.id) (parts_3 (is_new_column found.0.grid d.id) (are_free x columns_id (d.row ∷ [])) (is_sound_info d.info) found.1.1).0 in
      columns_altered p table (add_column d) (λ _. refl) found.0 at.0 at.1 (AddColumn table d) (λ k. bytes_eq k d.id) false (λ _. refl) (λ e. absurd (false≢true e)) (record {
        stays = λ k free. find-put_by_row column_row column_id d cs k absent ∙ cond_false (bytes_eq d.id k) (Some d) (find_id column_id k cs) (bytes_apart k d.id free);
        fresh = λ k is. inr (inl (ap (λ n. find_id column_id n cs) ((bytes_eq-Decides k d.id).0 is) ∙ find_absent column_id d.id cs absent));
      })

  column_removed : (table c : List ℕ) → valid x (RemoveColumn table c) ≡ true → AreAltered (RemoveColumn table c) p (with_table table (on_grid (remove_column c)) p)
  column_removed table c v =
      let found : (t : Table) × ((schema_table x table ≡ Some t) × (has_id column_id t.grid.columns c ≡ true)) = passes_parts (schema_table x table) (λ t. has_id column_id t.grid.columns c) v in
      let at = schema_table_parts r u p table found.0 found.1.0 in
      let cs : List ColDef = found.0.grid.columns in
      columns_altered p table (remove_column c) (λ _. refl) found.0 at.0 at.1 (RemoveColumn table c) (λ k. bytes_eq k c) false (λ _. refl) (λ e. absurd (false≢true e)) (record {
        stays = λ k free. find-without_id column_id c cs k ∙ cond_false (bytes_eq c k) None (find_id column_id k cs) (bytes_apart k c free);
        fresh = λ k is. inr (inr (find-without_id column_id c cs k ∙ cond_true (bytes_eq c k) None (find_id column_id k cs) (sym (flipped k c) ∙ is)));
      })

  column_renamed : (table c new : List ℕ) → valid x (RenameColumn table c new) ≡ true → AreAltered (RenameColumn table c new) p (with_table table (on_grid (with_column c (with_name new))) p)
  column_renamed table c new v =
      let found : (t : Table) × ((schema_table x table ≡ Some t) × ((has_id column_id t.grid.columns c && is_new_column t.grid new) ≡ true))
      = passes_parts (schema_table x table) (λ t. has_id column_id t.grid.columns c && is_new_column t.grid new) v in
      let at = schema_table_parts r u p table found.0 found.1.0 in
      let cs : List ColDef = found.0.grid.columns in
      let tests = and_parts (has_id column_id cs c) (is_new_column found.0.grid new) found.1.1 in
      let absent : has_id column_id cs new ≡ false = not_there r u p (has_id column_id cs new) (is_name new) tests.1 in
      let gone : find_id column_id c (with_id column_id c (with_name new) cs) ≡ None = find_absent column_id c (with_id column_id c (with_name new) cs) (has-old_id column_id c new (with_name new) cs (λ _. refl) (apart_ids column_id c new cs tests.0 absent)) in
      columns_altered p table (with_column c (with_name new)) (λ _. refl) found.0 at.0 at.1 (RenameColumn table c new) (λ k. bytes_eq k c || bytes_eq k new) false (λ _. refl) (λ e. absurd (false≢true e)) (record {
        stays = λ k free. let e = or_false (bytes_eq k c) (bytes_eq k new) free in found_kept column_id c new k (with_name new) (λ _. refl) e.0 e.1 cs;
        fresh = λ k is. by cs k (bytes_eq k c) refl is gone (find_absent column_id new cs absent);
      })
    where
      by : (cs : List ColDef) (k : List ℕ) (b : Bool) → bytes_eq k c ≡ b → (b || bytes_eq k new) ≡ true → find_id column_id c (with_id column_id c (with_name new) cs) ≡ None → find_id column_id new cs ≡ None
          → (false ≡ true) ⊎ ((find_id column_id k cs ≡ None) ⊎ (find_id column_id k (with_id column_id c (with_name new) cs) ≡ None))
      by cs k true old h gone absent = inr (inr (ap (λ n. find_id column_id n (with_id column_id c (with_name new) cs)) ((bytes_eq-Decides k c).0 old) ∙ gone))
      by cs k false old h gone absent = inr (inl (ap (λ n. find_id column_id n cs) ((bytes_eq-Decides k new).0 h) ∙ absent))

  column_modified : (table c : List ℕ) (info : ColInfo) → valid x (ModifyColumn table c info) ≡ true → AreAltered (ModifyColumn table c info) p (with_table table (on_grid (with_column c (with_info info))) p)
  column_modified table c info v =
      let found : (t : Table) × ((schema_table x table ≡ Some t) × (((has_id column_id t.grid.columns c && is_sound_info info) && (not info.is_formula || all_null t.grid c)) ≡ true))
      = passes_parts (schema_table x table) (λ t. has_id column_id t.grid.columns c && is_sound_info info && (not info.is_formula || all_null t.grid c)) v in
      let at = schema_table_parts r u p table found.0 found.1.0 in
      let cs : List ColDef = found.0.grid.columns in
      columns_altered p table (with_column c (with_info info)) (λ _. refl) found.0 at.0 at.1 (ModifyColumn table c info) (λ k. bytes_eq k c) true (λ _. refl) (λ _ c is. is) (record {
        stays = λ k free. find-with_id column_id c (with_info info) (λ _. refl) cs k ∙ cond_false (bytes_eq c k) (option_map (with_info info) (find_id column_id k cs)) (find_id column_id k cs) (bytes_apart k c free);
        fresh = λ k is. inl refl;
      })

-- ---- the document

-- the plain tables after the action
record Altered (r u : Grid ColDef) (p : List Table) (a : DocAction) : Type 0 where
  plain : List Table
  becomes : effect (with_schema r u p) a ≡ with_schema r u plain
  altered : AreAltered a p plain

outcome : (r u : Grid ColDef) (p : List Table) (a : DocAction) → is_record a ≡ false → valid (with_schema r u p) a ≡ true → Altered r u p a
outcome r u p (BulkAdd table rows ks) h v = absurd (true≢false h)
outcome r u p (BulkUpdate table rows ks) h v = absurd (true≢false h)
outcome r u p (BulkRemove table rows) h v = absurd (true≢false h)
outcome r u p (AddTable table row ds) h v = record { plain = put_by_row table_row (new_table table row ds) p; becomes = refl; altered = table_added r u p table row ds v }
outcome r u p (RemoveTable table) h v = record { plain = without_id table_id table p; becomes = refl; altered = table_removed r u p table v }
outcome r u p (RenameTable table new) h v = record { plain = with_table table (renamed new) p; becomes = refl; altered = table_renamed r u p table new v }
outcome r u p (AddColumn table d) h v = record { plain = with_table table (on_grid (add_column d)) p; becomes = refl; altered = column_added r u p table d v }
outcome r u p (RemoveColumn table c) h v = record { plain = with_table table (on_grid (remove_column c)) p; becomes = refl; altered = column_removed r u p table c v }
outcome r u p (RenameColumn table c new) h v = record { plain = with_table table (on_grid (with_column c (with_name new))) p; becomes = refl; altered = column_renamed r u p table c new v }
outcome r u p (ModifyColumn table c info) h v = record { plain = with_table table (on_grid (with_column c (with_info info))) p; becomes = refl; altered = column_modified r u p table c info v }

module _ (s now : Document) (a : DocAction) (from : IsAlteredFrom s now a) where
  abbrev p : List Table
  p = plain_tables s

  same : s ≡ with_schema (resources s) (rules s) p
  same = from.whole.agrees.schema

  after_it : Altered (resources s) (rules s) p a
  after_it = outcome (resources s) (rules s) p a from.schema (subst (λ d. valid d a ≡ true) same from.ok)

  becomes : now ≡ with_schema (resources s) (rules s) after_it.plain
  becomes = from.done ∙ applied s a from.ok ∙ ap (λ d. effect d a) same ∙ after_it.becomes

  pub still : (c : CellId) → is_altered a c ≡ false → IsStill c (find_id table_id c.table s) (find_id table_id c.table now)
  still c free =
      subst (λ d. IsStill c (find_id table_id c.table d) (find_id table_id c.table now)) (sym same)
      (subst (λ d. IsStill c (find_id table_id c.table (with_schema (resources s) (rules s) p)) (find_id table_id c.table d)) (sym becomes)
      (still_all c (resources s) (rules s) p after_it.plain (after_it.altered.stays c free)))

  fresh_by : (c : CellId) → is_some (formula_at now c) ≡ true
      → (is_modified a c ≡ true) ⊎ (IsPlain c.table × ((form_of (find_id table_id c.table p) c ≡ None) ⊎ (form_of (find_id table_id c.table after_it.plain) c ≡ None))) → is_fresh_cell s a c ≡ true
  fresh_by c there (inl m) = ap (λ b. not (is_some (formula_at s c)) || b) m ∙ or_right (not (is_some (formula_at s c))) true refl
  fresh_by c there (inr (plain, inl e)) =
      ap (λ o. not (is_some o) || is_modified a c) (ap (λ d. formula_at d c) same ∙ ap (λ o. form_of o c) (find_plain (resources s) (rules s) p c.table plain) ∙ e)
  fresh_by c there (inr (plain, inr e)) =
      absurd (false≢true (ap is_some (sym (ap (λ d. formula_at d c) becomes ∙ ap (λ o. form_of o c) (find_plain (resources s) (rules s) after_it.plain c.table plain) ∙ e)) ∙ there))

  right : IsAlteredRight s now a
  right = record {
    stays = λ c free. (still c free).formula;
    fresh = λ c is there. fresh_by c there (after_it.altered.fresh c is);
  }

  pub rows_still : (c : CellId) → is_altered a c ≡ false → is_some (formula_at now c) ≡ true → (grid_at now c.table).rows ≡ (grid_at s c.table).rows
  rows_still c free there = (still c free).rows there

pub altered_right : AlteredLaw
altered_right s now a from = right s now a from
