-- The tables outside the metadata after a rename, and after actions that give columns other formulas.
use Rattle.std.proofs.Common.{ℕ, Bool, true, false, cond, ◌&&◌, List, [], ◌∷◌, map, ◌≡◌, refl, subst, sym, ap, ◌∙◌, Option, Some, None}
use Rattle.std.specs.List.{AllByRecursion}
use Rattle.std.specs.Str.{bytes_eq}
use Rattle.std.proofs.lemmas.Bool.{and_parts, false≢true, or_right}
use Rattle.std.proofs.lemmas.Slice.Eq.{bytes_eq-Decides}
use Rattle.doc_model.specs.declared.action.DocAction.{DocAction}
use Rattle.doc_model.specs.declared.action.DocAction.TheVariants as action
use Rattle.doc_model.specs.declared.column.ColDef.{ColDef}
use Rattle.doc_model.specs.declared.column.ColInfo.{ColInfo}
use Rattle.doc_model.specs.Apply.{all_valid, apply, apply_all, effect, with_column, with_info, with_name}
use Rattle.doc_model.specs.ByIds.{find_id, with_id}
use Rattle.doc_model.specs.Column.{column_id}
use Rattle.doc_model.specs.Document.{Document, Table, on_grid, table_id, with_table}
use Rattle.doc_model.specs.DocumentLaws.{IsWhole}
use Rattle.doc_model.specs.Grid.{Grid}
use Rattle.doc_model.specs.MetadataIds.{is_acl_id, is_metadata_id, is_schema_id}
use Rattle.doc_model.specs.Schema.{plain_tables}
use Rattle.doc_model.specs.Sound.{IsSoundGrid}
use Rattle.doc_model.specs.Valid.{valid}
use Rattle.doc_model.proofs.ByIdsLaws.{each_found}
use Rattle.doc_model.proofs.Choices.{cond_true, each_unmapped, each_weaker, map_each}
use Rattle.doc_model.proofs.InverseLaws.{IsWhole-apply}
use Rattle.doc_model.proofs.WholeLaws.{good_from}
use Rattle.recalc.specs.Evaluated.{column_in}
use Rattle.rename_marks.specs.declared.column_rename.ColumnRename.{ColumnRename}
use Rattle.renamed_values.specs.HeldRecords.{IsPlain}
use Rattle.renamed_values.specs.SameEv.{moved}
use Rattle.renamed_documents.specs.RenamedTables.{IsRenamed, Rewriting, column_after, table_after}
use Rattle.renamed_documents.specs.RenamingSteps.{GiveTexts, GivesText, IsText, RenamingStepsLaw, naming, text_after, text_given}
use Rattle.renamed_documents.proofs.SeenTables.{plain_found}

-- tables with these columns
abbrev with_columns : List ColDef → Table → Table
with_columns ds t = on_grid (λ (g : Grid ColDef). record { columns = ds; rows = g.rows; cells = g.cells }) t

map_same : {X : Type 0} (f : X → X) (xs : List X) → ((x : X) → f x ≡ x) → map f xs ≡ xs
map_same f [] h = refl
map_same f (x ∷ xs) h = ap (λ y. y ∷ map f xs) (h x) ∙ ap (λ ys. x ∷ ys) (map_same f xs h)

-- ---- the rename

module _ (m : ColumnRename) where
  abbrev as_before : Rewriting
  as_before t c f = f

  named_column : (d : ColDef) (b : Bool) → cond b (with_name m.new d) d ≡ let e : ColDef = record { id = cond b m.new d.id; info = d.info; row = d.row } in e
  named_column d true = refl
  named_column d false = refl

  named_table : (t : Table) (b : Bool) → cond b (on_grid (with_column m.old (with_name m.new)) t) t
      ≡ with_columns (map (λ (d : ColDef). let e : ColDef = record { id = cond (b && bytes_eq d.id m.old) m.new d.id; info = d.info; row = d.row } in e) t.grid.columns) t
  named_table t true = ap (λ ds. with_columns ds t) (map_each _ _ t.grid.columns (each t.grid.columns))
    where
      each : (ds : List ColDef) → AllByRecursion (λ (d : ColDef). cond (bytes_eq d.id m.old) (with_name m.new d) d ≡ let e : ColDef = record { id = cond (bytes_eq d.id m.old) m.new d.id; info = d.info; row = d.row } in e) ds
      each [] = tt
      each (d ∷ ds) = (named_column d (bytes_eq d.id m.old), each ds)
  named_table t false = ap (λ ds. with_columns ds t) (sym (map_same _ t.grid.columns (λ d. refl)))

  named_tables : (ts : List Table) → with_id table_id m.table (on_grid (with_column m.old (with_name m.new))) ts ≡ map (table_after m as_before) ts
  named_tables [] = refl
  named_tables (t ∷ ts) = ap (λ u. u ∷ with_id table_id m.table (on_grid (with_column m.old (with_name m.new))) ts) (named_table t (bytes_eq t.id m.table)) ∙ ap (λ us. table_after m as_before t ∷ us) (named_tables ts)

  pub named_renamed : (s : Document) → valid s (naming m) ≡ true → IsRenamed m as_before s (apply s (naming m))
  named_renamed s v = ap plain_tables (cond_true (valid s (naming m)) (effect s (naming m)) s v) ∙ named_tables (plain_tables s)

-- ---- updates of the tables of access rules

unchanged : (id : List ℕ) (f : Table → Table) (ts : List Table) → AllByRecursion (λ (t : Table). bytes_eq t.id id ≡ false) ts → with_id table_id id f ts ≡ ts
unchanged id f [] h = refl
unchanged id f (t ∷ ts) h = ap (λ b. cond b (f t) t ∷ with_id table_id id f ts) h.0 ∙ ap (λ us. t ∷ us) (unchanged id f ts h.1)

apart_from : (id i : List ℕ) → is_acl_id id ≡ true → IsPlain i → bytes_eq i id ≡ false
apart_from id i h p = by (bytes_eq i id) refl
  where
    by : (b : Bool) → bytes_eq i id ≡ b → bytes_eq i id ≡ false
    by true e =
        let meta : is_metadata_id i ≡ true = ap is_metadata_id ((bytes_eq-Decides i id).0 e) ∙ or_right (is_schema_id id) (is_acl_id id) h in
        absurd (false≢true (sym p ∙ meta))
    by false e = e

acl_updated : (id : List ℕ) (f : Table → Table) (s : Document) → IsWhole s → is_acl_id id ≡ true → plain_tables (with_table id f s) ≡ plain_tables s
acl_updated id f s whole h =
    ap (λ d. plain_tables (with_table id f d)) whole.agrees.schema
    ∙ unchanged id f (plain_tables s) (each_weaker (λ (t : Table). IsPlain t.id) (λ (t : Table). bytes_eq t.id id ≡ false) (λ t p. apart_from id t.id h p) (plain_tables s) (good_from s whole).plain)

-- ---- other formulas

-- what a column of a document is, told from its table and its id
module _ (s : Document) (whole : IsWhole s) (table column : List ℕ) (was : ColDef) (found : column_in s table column ≡ Some was) where
  abbrev pub IsThat : Table → ColDef → Type 0
  IsThat t d = bytes_eq t.id table ≡ true → bytes_eq d.id column ≡ true → was ≡ d

  the_column : (t : Table) (d : ColDef) → IsPlain t.id → find_id table_id t.id (plain_tables s) ≡ Some t → find_id column_id d.id t.grid.columns ≡ Some d → IsThat t d
  the_column t d p e f i j =
      let there : column_in s table column ≡ Some d = ap (λ n. column_in s n column) (sym ((bytes_eq-Decides t.id table).0 i)) ∙ in_table (find_id table_id t.id s) (plain_found s t.id whole.agrees p ∙ e) ∙ ap (λ n. find_id column_id n t.grid.columns) (sym ((bytes_eq-Decides d.id column).0 j)) ∙ f in
      same_column was d (sym found ∙ there)
    where
      same_column : (a b : ColDef) → Some a ≡ Some b → a ≡ b
      same_column a b e = cc

      in_table : (o : Option Table) → o ≡ Some t → elim o [ None ↦ None | Some t ↦ find_id column_id column t.grid.columns ] ≡ find_id column_id column t.grid.columns
      in_table o e = ap (λ (o : Option Table). elim o [ None ↦ None | Some t ↦ find_id column_id column t.grid.columns ]) e

  pub all_that : AllByRecursion (λ (t : Table). AllByRecursion (IsThat t) t.grid.columns) (plain_tables s)
  all_that =
      let good = good_from s whole in
      each_with (plain_tables s) good.plain good.grids (each_found table_id (λ t. find_id table_id t.id (plain_tables s) ≡ Some t) (plain_tables s) good.distinct (λ t e. e))
    where
      each_with : (ts : List Table) → AllByRecursion (λ (t : Table). IsPlain t.id) ts → AllByRecursion (λ (t : Table). IsSoundGrid t.grid) ts → AllByRecursion (λ (t : Table). find_id table_id t.id (plain_tables s) ≡ Some t) ts
          → AllByRecursion (λ (t : Table). AllByRecursion (IsThat t) t.grid.columns) ts
      each_with [] p g f = tt
      each_with (t ∷ ts) p g f = (each_found column_id (IsThat t) t.grid.columns g.0.is_grid.distinct (λ d e. the_column t d p.0 f.0 e), each_with ts p.1 g.1 f.1)

module _ (m : ColumnRename) (w : Rewriting) (table column : List ℕ) (info : ColInfo) where
  abbrev pub given : Rewriting
  given t c f = text_given (action.ModifyColumn table column info) t (moved m t c) (w t c f)

  abbrev Fits : List ℕ → ColDef → Type 0
  Fits t d = bytes_eq t table ≡ true → bytes_eq (moved m t d.id) column ≡ true → (info.ty ≡ d.info.ty) × (info.is_formula ≡ d.info.is_formula)

  column_given : (t : List ℕ) (d : ColDef) → bytes_eq t table ≡ true → Fits t d → cond (bytes_eq (moved m t d.id) column) (with_info info (column_after m w t d)) (column_after m w t d) ≡ column_after m given t d
  column_given t d i f = by (bytes_eq t table) (bytes_eq (moved m t d.id) column) i refl
    where
      by : (a b : Bool) → a ≡ true → bytes_eq (moved m t d.id) column ≡ b
          → cond b (with_info info (column_after m w t d)) (column_after m w t d)
          ≡ let e : ColDef = record { id = moved m t d.id; info = record { ty = d.info.ty; is_formula = d.info.is_formula; formula = cond (a && b) info.formula (w t d.id d.info.formula) }; row = d.row } in e
      by true true e j =
          let same = f i j in
          ap (λ u. let e : ColDef = record { id = moved m t d.id; info = record { ty = u; is_formula = info.is_formula; formula = info.formula }; row = d.row } in e) same.0
          ∙ ap (λ u. let e : ColDef = record { id = moved m t d.id; info = record { ty = d.info.ty; is_formula = u; formula = info.formula }; row = d.row } in e) same.1
      by true false e j = refl
      by false b e j = absurd (false≢true e)

  columns_given : (t : List ℕ) (ds : List ColDef) → bytes_eq t table ≡ true → AllByRecursion (Fits t) ds → with_id column_id column (with_info info) (map (column_after m w t) ds) ≡ map (column_after m given t) ds
  columns_given t [] i f = refl
  columns_given t (d ∷ ds) i f =
      ap (λ e. e ∷ with_id column_id column (with_info info) (map (column_after m w t) ds)) (column_given t d i f.0)
      ∙ ap (λ es. column_after m given t d ∷ es) (columns_given t ds i f.1)

  columns_left : (t : List ℕ) (ds : List ColDef) → bytes_eq t table ≡ false → map (column_after m w t) ds ≡ map (column_after m given t) ds
  columns_left t [] i = refl
  columns_left t (d ∷ ds) i =
      ap (λ b. let e : ColDef = record { id = moved m t d.id; info = record { ty = d.info.ty; is_formula = d.info.is_formula; formula = cond (b && bytes_eq (moved m t d.id) column) info.formula (w t d.id d.info.formula) }; row = d.row } in e ∷ map (column_after m w t) ds) (sym i)
      ∙ ap (λ es. column_after m given t d ∷ es) (columns_left t ds i)

  tables_given : (ts : List Table) → AllByRecursion (λ (t : Table). AllByRecursion (Fits t.id) t.grid.columns) ts
      → with_id table_id table (on_grid (with_column column (with_info info))) (map (table_after m w) ts) ≡ map (table_after m given) ts
  tables_given [] h = refl
  tables_given (t ∷ ts) h =
      ap (λ u. u ∷ with_id table_id table (on_grid (with_column column (with_info info))) (map (table_after m w) ts)) (by (bytes_eq t.id table) refl)
      ∙ ap (λ us. table_after m given t ∷ us) (tables_given ts h.1)
    where
      by : (b : Bool) → bytes_eq t.id table ≡ b → cond b (on_grid (with_column column (with_info info)) (table_after m w t)) (table_after m w t) ≡ table_after m given t
      by true e = ap (λ ds. with_columns ds t) (columns_given t.id t.grid.columns e h.0)
      by false e = ap (λ ds. with_columns ds t) (columns_left t.id t.grid.columns e)

-- ---- actions in order

module _ (m : ColumnRename) (s : Document) where
  -- what a column that is found is of the tables before
  pub that_before : (w : Rewriting) (d : Document) → IsWhole d → IsRenamed m w s d → (table column : List ℕ) (was : ColDef) → column_in d table column ≡ Some was
      → AllByRecursion (λ (t : Table). AllByRecursion (λ (e : ColDef). bytes_eq t.id table ≡ true → bytes_eq (moved m t.id e.id) column ≡ true → was ≡ column_after m w t.id e) t.grid.columns) (plain_tables s)
  that_before w d whole is table column was found =
      told (plain_tables s)
      (each_unmapped (λ (t : Table). AllByRecursion (IsThat d whole table column was found t) t.grid.columns) (table_after m w) (plain_tables s)
      (subst (λ (ts : List Table). AllByRecursion (λ (t : Table). AllByRecursion (IsThat d whole table column was found t) t.grid.columns) ts) is (all_that d whole table column was found)))
    where
      told : (ts : List Table) → AllByRecursion (λ (t : Table). AllByRecursion (IsThat d whole table column was found (table_after m w t)) (map (column_after m w t.id) t.grid.columns)) ts
          → AllByRecursion (λ (t : Table). AllByRecursion (λ (e : ColDef). bytes_eq t.id table ≡ true → bytes_eq (moved m t.id e.id) column ≡ true → was ≡ column_after m w t.id e) t.grid.columns) ts
      told [] f = tt
      told (t ∷ ts) f = (each_unmapped (IsThat d whole table column was found (table_after m w t)) (column_after m w t.id) t.grid.columns f.0, told ts f.1)

  modified_step : (w : Rewriting) (d : Document) → IsWhole d → IsRenamed m w s d → (table column : List ℕ) (info : ColInfo)
      → valid d (action.ModifyColumn table column info) ≡ true → IsText d table column info
      → IsRenamed m (given m w table column info) s (apply d (action.ModifyColumn table column info))
  modified_step w d whole is table column info v h =
      ap plain_tables (cond_true (valid d (action.ModifyColumn table column info)) (effect d (action.ModifyColumn table column info)) d v)
      ∙ ap (with_id table_id table (on_grid (with_column column (with_info info)))) is
      ∙ tables_given m w table column info (plain_tables s) (each_weaker _ (λ (t : Table). AllByRecursion (Fits m w table column info t.id) t.grid.columns)
      (λ (t : Table) f. each_weaker _ (Fits m w table column info t.id) (λ e g i j. (h.ty ∙ ap (λ (e : ColDef). e.info.ty) (g i j), h.kind ∙ ap (λ (e : ColDef). e.info.is_formula) (g i j))) t.grid.columns f)
      (plain_tables s) (that_before w d whole is table column h.was h.found))

  -- a formula that a column has already changes nothing
  pub texts_as_given : (w : Rewriting) (d : Document) → IsWhole d → IsRenamed m w s d → (table column : List ℕ) (info : ColInfo) (was : ColDef) → column_in d table column ≡ Some was → was.info.formula ≡ info.formula
      → map (table_after m w) (plain_tables s) ≡ map (table_after m (given m w table column info)) (plain_tables s)
  texts_as_given w d whole is table column info was found same =
      tables_same (plain_tables s) (that_before w d whole is table column was found)
    where
      text_same : (t : List ℕ) (e : ColDef) → (bytes_eq t table ≡ true → bytes_eq (moved m t e.id) column ≡ true → was ≡ column_after m w t e) → w t e.id e.info.formula ≡ given m w table column info t e.id e.info.formula
      text_same t e f = by (bytes_eq t table) (bytes_eq (moved m t e.id) column) refl refl
        where
          by : (a b : Bool) → bytes_eq t table ≡ a → bytes_eq (moved m t e.id) column ≡ b → w t e.id e.info.formula ≡ cond (a && b) info.formula (w t e.id e.info.formula)
          by true true i j = sym (ap (λ (e : ColDef). e.info.formula) (f i j)) ∙ same
          by true false i j = refl
          by false b i j = refl

      columns_same : (t : List ℕ) (es : List ColDef) → AllByRecursion (λ (e : ColDef). bytes_eq t table ≡ true → bytes_eq (moved m t e.id) column ≡ true → was ≡ column_after m w t e) es → map (column_after m w t) es ≡ map (column_after m (given m w table column info) t) es
      columns_same t es f =
          map_each _ _ es (each_weaker _ (λ (e : ColDef). column_after m w t e ≡ column_after m (given m w table column info) t e)
          (λ (e : ColDef) g. ap (λ u. let x : ColDef = record { id = moved m t e.id; info = record { ty = e.info.ty; is_formula = e.info.is_formula; formula = u }; row = e.row } in x) (text_same t e g)) es f)

      tables_same : (ts : List Table) → AllByRecursion (λ (t : Table). AllByRecursion (λ (e : ColDef). bytes_eq t.id table ≡ true → bytes_eq (moved m t.id e.id) column ≡ true → was ≡ column_after m w t.id e) t.grid.columns) ts
          → map (table_after m w) ts ≡ map (table_after m (given m w table column info)) ts
      tables_same ts f =
          map_each _ _ ts (each_weaker _ (λ (t : Table). table_after m w t ≡ table_after m (given m w table column info) t) (λ (t : Table) g. ap (λ es. with_columns es t) (columns_same t.id t.grid.columns g)) ts f)

  updated_step : (w : Rewriting) (d : Document) → IsWhole d → IsRenamed m w s d → (table : List ℕ) (rows : List ℕ) (ks : _) → valid d (action.BulkUpdate table rows ks) ≡ true → is_acl_id table ≡ true
      → IsRenamed m w s (apply d (action.BulkUpdate table rows ks))
  updated_step w d whole is table rows ks v h =
      ap plain_tables (cond_true (valid d (action.BulkUpdate table rows ks)) (effect d (action.BulkUpdate table rows ks)) d v) ∙ acl_updated table _ d whole h ∙ is

  one_step : (w : Rewriting) (d : Document) → IsWhole d → IsRenamed m w s d → (a : DocAction) → valid d a ≡ true → GivesText d a
      → IsRenamed m (λ t c f. text_given a t (moved m t c) (w t c f)) s (apply d a)
  one_step w d whole is (action.BulkUpdate table rows ks) v h = updated_step w d whole is table rows ks v h
  one_step w d whole is (action.ModifyColumn table column info) v h = modified_step w d whole is table column info v h
  one_step w d whole is (action.BulkAdd table rows ks) v h = absurd h
  one_step w d whole is (action.BulkRemove table rows) v h = absurd h
  one_step w d whole is (action.AddTable table row columns) v h = absurd h
  one_step w d whole is (action.RemoveTable table) v h = absurd h
  one_step w d whole is (action.RenameTable table new) v h = absurd h
  one_step w d whole is (action.AddColumn table e) v h = absurd h
  one_step w d whole is (action.RemoveColumn table column) v h = absurd h
  one_step w d whole is (action.RenameColumn table column new) v h = absurd h

  pub all_steps : (w : Rewriting) (d : Document) → IsWhole d → IsRenamed m w s d → (as' : List DocAction) → all_valid d as' ≡ true → GiveTexts d as'
      → IsRenamed m (λ t c f. text_after as' t (moved m t c) (w t c f)) s (apply_all d as')
  all_steps w d whole is [] v h = is
  all_steps w d whole is (a ∷ as') v h =
      let p = and_parts (valid d a) (all_valid (apply d a) as') v in
      all_steps (λ t c f. text_given a t (moved m t c) (w t c f)) (apply d a) (IsWhole-apply d a whole p.0) (one_step w d whole is a p.0 h.0) as' p.1 h.1

pub renaming_steps : RenamingStepsLaw
renaming_steps m s as' whole v h =
    let p = and_parts (valid s (naming m)) (all_valid (apply s (naming m)) as') v in
    all_steps m s (as_before m) (apply s (naming m)) (IsWhole-apply s (naming m) whole p.0) (named_renamed m s p.0) as' p.1 h
