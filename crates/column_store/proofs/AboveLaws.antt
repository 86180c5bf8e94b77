-- A schema action leaves the metadata tables where they are, above the plain tables.
use Rattle.std.proofs.Common.{ℕ, true, false, cond, ◌&&◌, ◌||◌, not, Bool, List, [], ◌∷◌, drop, ◌≡◌, refl, sym, ap, subst, ◌∙◌, ltb, arith}
use Rattle.std.proofs.lemmas.Bool.{true≢false, le-ltb}
use Rattle.std.specs.Str.{bytes_eq}
use Rattle.doc_model.specs.declared.action.DocAction.{DocAction}
use Rattle.doc_model.specs.declared.action.DocAction.TheVariants.{BulkAdd, BulkUpdate, BulkRemove, AddTable, RemoveTable, RenameTable, AddColumn, RemoveColumn, RenameColumn, ModifyColumn}
use Rattle.doc_model.specs.declared.column.ColDef.{ColDef}
use Rattle.doc_model.specs.ByIds.{has_id, without_id}
use Rattle.doc_model.specs.Column.{column_id, is_sound_info}
use Rattle.doc_model.specs.Document.{Table, Document, table_id, table_row, with_table, put_by_row}
use Rattle.doc_model.specs.DocumentLaws.{IsWhole}
use Rattle.doc_model.specs.Grid.{Grid}
use Rattle.doc_model.specs.MetadataIds.{tables_id, columns_id, resources_id, rules_id}
use Rattle.doc_model.specs.Schema.{metadata_table, tables_grid, columns_grid, with_schema, resources, rules, plain_tables}
use Rattle.doc_model.specs.Valid.{passes, schema_table, is_new_table, is_new_column, are_free, all_null, valid}
use Rattle.doc_model.specs.Apply.{apply, new_table}
use Rattle.doc_model.proofs.Choices.{cond_true, cond_false}
use Rattle.doc_model.proofs.DocumentParts.{applied, passes_parts, schema_table_parts}
use Rattle.doc_model.proofs.InverseLaws.{IsWhole-apply}
use Rattle.doc_model.proofs.WholeLaws.{IsPlain, column_rows, described_rows, good_from}
use Rattle.row_tables.specs.Steps.{is_record, plain_after, table_change, table_named}
use Rattle.row_tables.proofs.SchemaLaws.{above}
use Rattle.row_tables.proofs.StepLaws.{schema_effect}
use Rattle.column_store.specs.Back.{with_tables}
use Rattle.column_store.specs.Schema.{IsDescribable, described_columns, described_tables}
use Rattle.column_store.specs.declared.schema.SchemaTables.{SchemaTables}

module _ (r u : Grid ColDef) (p : List Table) where
  plain_of_test : (id : List ℕ) (test : Table → Bool) → passes (schema_table (with_schema r u p) id) test ≡ true → IsPlain id
  plain_of_test id test v =
      let parts = passes_parts (schema_table (with_schema r u p) id) test v in
      (schema_table_parts r u p id parts.0 parts.1.0).0

  -- what passes four tables over
  at_plain : (f : List Table → List Table) (id : List ℕ) → IsPlain id → ((t : Table) (s : List Table) → bytes_eq t.id id ≡ false → f (t ∷ s) ≡ t ∷ f s) → f (with_schema r u p) ≡ above r u p (f p)
  at_plain f id h step =
      let a : Table = metadata_table tables_id (tables_grid p) in
      let b : Table = metadata_table columns_id (columns_grid p) in
      let c : Table = metadata_table resources_id r in
      let d : Table = metadata_table rules_id u in
      step a (b ∷ c ∷ d ∷ p) h.tables ∙ ap (λ s. a ∷ s) (step b (c ∷ d ∷ p) h.columns ∙ ap (λ s. b ∷ s) (step c (d ∷ p) h.resources ∙ ap (λ s. c ∷ s) (step d p h.rules)))

  changed_above : (id : List ℕ) (f : Table → Table) → IsPlain id → with_table id f (with_schema r u p) ≡ above r u p (with_table id f p)
  changed_above id f h = at_plain (with_table id f) id h (λ t s apart. ap (λ x. x ∷ with_table id f s) (cond_false (bytes_eq t.id id) (f t) t apart))

  gone_above : (id : List ℕ) → IsPlain id → without_id table_id id (with_schema r u p) ≡ above r u p (without_id table_id id p)
  gone_above id h = at_plain (without_id table_id id) id h (λ t s apart. cond_true (not (bytes_eq t.id id)) (t ∷ without_id table_id id s) (without_id table_id id s) (ap not apart))

  come_above : (new : Table) → put_by_row table_row new (with_schema r u p) ≡ above r u p (put_by_row table_row new p)
  come_above new =
      let a : Table = metadata_table tables_id (tables_grid p) in
      let b : Table = metadata_table columns_id (columns_grid p) in
      let c : Table = metadata_table resources_id r in
      let d : Table = metadata_table rules_id u in
      past a refl (b ∷ c ∷ d ∷ p) ∙ ap (λ s. a ∷ s) (past b refl (c ∷ d ∷ p) ∙ ap (λ s. b ∷ s) (past c refl (d ∷ p) ∙ ap (λ s. c ∷ s) (past d refl p)))
    where
      past : (t : Table) → t.row ≡ 0 → (s : List Table) → put_by_row table_row new (t ∷ s) ≡ t ∷ put_by_row table_row new s
      past t none s = cond_false (ltb new.row t.row) (new ∷ t ∷ s) (t ∷ put_by_row table_row new s) (le-ltb new.row t.row (omega (arith, none)))

  moved_schema : (a : DocAction) → is_record a ≡ false → valid (with_schema r u p) a ≡ true → plain_after a (with_schema r u p) ≡ above r u p (plain_after a p)
  moved_schema (BulkAdd table rows ks) e v = absurd (true≢false e)
  moved_schema (BulkUpdate table rows ks) e v = absurd (true≢false e)
  moved_schema (BulkRemove table rows) e v = absurd (true≢false e)
  moved_schema (AddTable table row columns) e v = come_above (new_table table row columns)
  moved_schema (RemoveTable table) e v = gone_above table (plain_of_test table (λ _. true) v)
  moved_schema (RenameTable table new) e v = changed_above table (table_change (RenameTable table new)) (plain_of_test table (λ _. is_new_table (with_schema r u p) new) v)
  moved_schema (AddColumn table d) e v = changed_above table (table_change (AddColumn table d)) (plain_of_test table (λ t. is_new_column t.grid d.id && are_free (with_schema r u p) columns_id (d.row ∷ []) && is_sound_info d.info) v)
  moved_schema (RemoveColumn table column) e v = changed_above table (table_change (RemoveColumn table column)) (plain_of_test table (λ t. has_id column_id t.grid.columns column) v)
  moved_schema (RenameColumn table column new) e v = changed_above table (table_change (RenameColumn table column new)) (plain_of_test table (λ t. has_id column_id t.grid.columns column && is_new_column t.grid new) v)
  moved_schema (ModifyColumn table column info) e v =
      changed_above table (table_change (ModifyColumn table column info)) (plain_of_test table (λ t. has_id column_id t.grid.columns column && is_sound_info info && (not info.is_formula || all_null t.grid column)) v)

module _ (s : Document) (a : DocAction) (whole : IsWhole s) (e : is_record a ≡ false) (v : valid s a ≡ true) where
  pub moved : plain_after a s ≡ above (resources s) (rules s) (plain_tables s) (plain_after a (plain_tables s))
  moved =
      ap (plain_after a) whole.agrees.schema
      ∙ moved_schema (resources s) (rules s) (plain_tables s) a e (subst (λ d. valid d a ≡ true) whole.agrees.schema v)

  -- the document after the action
  pub schema_after : apply s a ≡ with_schema (resources s) (rules s) (plain_after a (plain_tables s))
  schema_after = applied s a v ∙ schema_effect s a e

  pub after_whole : IsWhole (with_schema (resources s) (rules s) (plain_after a (plain_tables s)))
  after_whole = subst IsWhole schema_after (IsWhole-apply s a whole v)

  pub describable : IsDescribable (plain_after a s)
  describable =
      subst IsDescribable (sym moved)
      (refl, refl, refl, refl, refl, refl, after_whole.agrees.tables_ascend, after_whole.agrees.once)

  -- with the schema tables that describe them the tables are those after the action
  pub schema_done : (schema : SchemaTables) (read : Document) → read ≡ plain_after a s → schema.tables ≡ described_tables read → schema.columns ≡ described_columns read → with_tables schema (plain_after a s) ≡ apply s a
  schema_done schema read same et ec =
      let q : List Table = plain_after a (plain_tables s) in
      let rest : List Table = metadata_table resources_id (resources s) ∷ metadata_table rules_id (rules s) ∷ q in
      ap (with_tables schema) moved
      ∙ ap (λ t. t ∷ schema.columns ∷ rest) (et ∙ ap described_tables (same ∙ moved))
      ∙ ap (λ t. metadata_table tables_id (tables_grid q) ∷ t ∷ rest) (ec ∙ ap described_columns (same ∙ moved))
      ∙ sym schema_after
