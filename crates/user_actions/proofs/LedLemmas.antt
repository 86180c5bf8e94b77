-- The steps by which columns refer to a table under its new id are valid at their places.
use Rattle.std.proofs.Common.{ℕ, Bool, true, false, cond, not, ◌&&◌, ◌||◌, List, [], ◌∷◌, map, ◌≡◌, refl, sym, ap, subst, ◌∙◌, Some, None, option_map}
use Rattle.std.proofs.lemmas.Slice.Eq.{bytes_eq-Decides}
use Rattle.std.specs.List.{list_all, AllByRecursion}
use Rattle.std.specs.Str.{bytes_eq}
use Rattle.cell_types.specs.ColumnRange.{is_null}
use Rattle.cell_types.specs.NameRule.{is_name}
use Rattle.cell_types.specs.declared.column_type.ColType.{ColType}
use Rattle.cell_types.specs.declared.column_type.ColType.TheVariants as type
use Rattle.doc_model.specs.declared.action.DocAction.TheVariants.{ModifyColumn, RenameTable}
use Rattle.doc_model.specs.declared.action.Step.{Step}
use Rattle.doc_model.specs.declared.column.ColDef.{ColDef}
use Rattle.doc_model.specs.declared.column.ColInfo.{ColInfo}
use Rattle.doc_model.specs.Apply.{apply, all_valid, with_column, with_info}
use Rattle.doc_model.specs.ByIds.{find_id, has_id, with_id}
use Rattle.doc_model.specs.Column.{column_id, is_empty, is_short, is_sound_info, is_sound_type}
use Rattle.doc_model.specs.Document.{Document, Table, on_grid, renamed, table_id, with_table}
use Rattle.doc_model.specs.DocumentLaws.{IsWhole}
use Rattle.doc_model.specs.Grid.{Grid, cell}
use Rattle.doc_model.specs.MetadataIds.{is_metadata_id}
use Rattle.doc_model.specs.Schema.{with_schema, plain_tables, resources, rules}
use Rattle.doc_model.specs.Sound.{IsSoundGrid}
use Rattle.doc_model.specs.Valid.{all_null, is_new_table, passes, schema_table, valid}
use Rattle.doc_model.proofs.ByIdsLaws.{bytes_apart, found_all, has_found}
use Rattle.doc_model.proofs.ByRowLaws.{apart_ids, find-new_id, find-with_id, has_id-with_id}
use Rattle.doc_model.proofs.Choices.{both_true, cond_false, each_weaker, parts_3, true_each}
use Rattle.doc_model.proofs.ColumnsKept.{cell-with_info}
use Rattle.doc_model.proofs.DocumentParts.{absent_parts, applied, passes_parts, schema_table_parts, schema_table_plain}
use Rattle.doc_model.proofs.RowsLaws.{each_has}
use Rattle.doc_model.proofs.SoundLaws.{null_held}
use Rattle.doc_model.proofs.WholeLaws.{IsGood, IsPlain, good_from}
use Rattle.doc_readers.specs.Parts.{grid_at}
use Rattle.user_actions.specs.declared.referrers.Referrer.{Referrer}
use Rattle.user_actions.specs.References.{info_to, led_to, referrers, renamed_id, type_to}
use Rattle.user_actions.specs.StepLaws.{action_of}
use Rattle.user_actions.proofs.SchemaStepLemmas.{plain_grid}
use Rattle.user_actions.proofs.ReferrerLemmas.{IsReferrer, each_referrer}

-- ---- columns of other infos, one after another

abbrev modify_test : List ℕ → ColInfo → Table → Bool
modify_test c info t = has_id column_id t.grid.columns c && is_sound_info info && (not info.is_formula || all_null t.grid c)

nulls_kept : (c n : List ℕ) (info : ColInfo) (g : Grid ColDef) (rows : List ℕ) → list_all (λ r. is_null (cell column_id (with_column c (with_info info) g) n r)) rows ≡ list_all (λ r. is_null (cell column_id g n r)) rows
nulls_kept c n info g [] = refl
nulls_kept c n info g (r ∷ rows) =
    ap (λ v. is_null v && list_all (λ r. is_null (cell column_id (with_column c (with_info info) g) n r)) rows) (cell-with_info c info g n r)
    ∙ ap (λ b. is_null (cell column_id g n r) && b) (nulls_kept c n info g rows)

test_kept : (c n : List ℕ) (info other : ColInfo) (t : Table) → modify_test n other t ≡ true → modify_test n other (on_grid (with_column c (with_info info)) t) ≡ true
test_kept c n info other t h =
    ap (λ b. b && is_sound_info other && (not other.is_formula || all_null (with_column c (with_info info) t.grid) n)) (has_id-with_id column_id c (with_info info) (λ x. refl) t.grid.columns n)
    ∙ ap (λ b. has_id column_id t.grid.columns n && is_sound_info other && (not other.is_formula || b)) (nulls_kept c n info t.grid t.grid.rows)
    ∙ h

module _ (r u : Grid ColDef) where
  pub record IsModify (p : List Table) (x : Step) : Type 0 where
    pub table : List ℕ
    pub column : List ℕ
    pub info : ColInfo
    pub is : x.action ≡ ModifyColumn table column info
    pub valid : valid (with_schema r u p) x.action ≡ true

  abbrev then_plain : List ℕ → List ℕ → ColInfo → List Table → List Table
  then_plain table c info p = with_table table (on_grid (with_column c (with_info info))) p

  keep_valid : (p : List Table) (table c : List ℕ) (info : ColInfo) (table' c' : List ℕ) (info' : ColInfo) → valid (with_schema r u p) (ModifyColumn table' c' info') ≡ true → valid (with_schema r u (then_plain table c info p)) (ModifyColumn table' c' info') ≡ true
  keep_valid p table c info table' c' info' w =
      let parts : (t : Table) × ((schema_table (with_schema r u p) table' ≡ Some t) × (modify_test c' info' t ≡ true)) = passes_parts (schema_table (with_schema r u p) table') (modify_test c' info') w in
      let t : Table = parts.0 in
      let at : IsPlain table' × (find_id table_id table' p ≡ Some t) = schema_table_parts r u p table' t parts.1.0 in
      let f : Table → Table = on_grid (with_column c (with_info info)) in
      ap (λ o. passes o (modify_test c' info'))
      (schema_table_plain r u (then_plain table c info p) table' at.0 ∙ find-with_id table_id table f (λ x. refl) p table'
      ∙ ap (λ o. cond (bytes_eq table table') (option_map f o) o) at.1)
      ∙ elim (bytes_eq table table') as (λ b. passes (cond b (Some (f t)) (Some t)) (modify_test c' info') ≡ true) [ true ↦ test_kept c c' info info' t parts.1.1 | false ↦ parts.1.1 ]

  keep_modify : (p : List Table) (x y : Step) (a : IsModify p x) → IsModify p y → IsModify (then_plain a.table a.column a.info p) y
  keep_modify p x y a b = record {
    table = b.table;
    column = b.column;
    info = b.info;
    is = b.is;
    valid = ap (valid (with_schema r u (then_plain a.table a.column a.info p))) b.is
        ∙ keep_valid p a.table a.column a.info b.table b.column b.info (sym (ap (valid (with_schema r u p)) b.is) ∙ b.valid);
  }

  pub all_modifies : (p : List Table) (xs : List Step) → AllByRecursion (IsModify p) xs → all_valid (with_schema r u p) (map action_of xs) ≡ true
  all_modifies p [] h = refl
  all_modifies p (x ∷ xs) h =
      let s : Document = with_schema r u p in
      let a : IsModify p x = h.0 in
      let q : List Table = then_plain a.table a.column a.info p in
      let becomes : apply s x.action ≡ with_schema r u q = ap (apply s) a.is ∙ applied s (ModifyColumn a.table a.column a.info) (sym (ap (valid s) a.is) ∙ a.valid) in
      both_true (valid s x.action) (all_valid (apply s x.action) (map action_of xs)) a.valid
      (ap (λ d. all_valid d (map action_of xs)) becomes
      ∙ all_modifies q xs (each_weaker (IsModify p) (IsModify q) (λ y. keep_modify p x y a) xs h.1))

-- ---- what a column becomes is sound

type_sound : (new : List ℕ) → is_name new ≡ true → (ty : ColType) → is_sound_type ty ≡ true → is_sound_type (type_to new ty) ≡ true
type_sound new named type.Any h = h
type_sound new named type.Text h = h
type_sound new named type.Int h = h
type_sound new named type.Bool h = h
type_sound new named type.Date h = h
type_sound new named (type.Ref t) h = ap (λ b. b || is_metadata_id new) named
type_sound new named (type.RefList t) h = ap (λ b. b || is_metadata_id new) named

info_sound : (new : List ℕ) → is_name new ≡ true → (info : ColInfo) → is_sound_info info ≡ true → is_sound_info (info_to new info) ≡ true
info_sound new named info h =
    let parts : (is_sound_type info.ty ≡ true) × (is_short info.formula ≡ true) × ((info.is_formula || is_empty info.formula) ≡ true) = parts_3 (is_sound_type info.ty) (is_short info.formula) (info.is_formula || is_empty info.formula) h in
    both_true (is_sound_type (type_to new info.ty) && is_short info.formula) (info.is_formula || is_empty info.formula)
    (both_true (is_sound_type (type_to new info.ty)) (is_short info.formula) (type_sound new named info.ty parts.0) parts.1) parts.2

-- the column stands in its table
pub record IsLed (d : Document) (k : Referrer) : Type 0 where
  pub plain : IsPlain k.table
  pub found : find_id column_id k.column.id (grid_at d k.table).columns ≡ Some k.column

-- ---- the columns of a renamed table

module _ (r u : Grid ColDef) (p : List Table) (good : IsGood r u p) (table : List ℕ) (t : Table) (at : IsPlain table × (find_id table_id table p ≡ Some t)) (new : List ℕ) (named : is_name new ≡ true)
    (fresh : has_id table_id (with_schema r u p) new ≡ false) where
  abbrev after : List Table
  after = with_table table (renamed new) p

  plain_new : IsPlain new × (has_id table_id p new ≡ false)
  plain_new = absent_parts r u p new fresh

  find_other : (id : List ℕ) → bytes_eq table id ≡ false → bytes_eq new id ≡ false → (xs : List Table) → find_id table_id id (with_id table_id table (renamed new) xs) ≡ find_id table_id id xs
  find_other id a b [] = refl
  find_other id a b (x ∷ xs) =
      elim (bytes_eq x.id table) as (λ c. bytes_eq x.id table ≡ c → cond (bytes_eq (cond c (renamed new x) x).id id) (Some (cond c (renamed new x) x)) (find_id table_id id (with_id table_id table (renamed new) xs)) ≡ cond (bytes_eq x.id id) (Some x) (find_id table_id id xs)) [
        | true ↦ λ is.
            cond_false (bytes_eq new id) (Some (renamed new x)) (find_id table_id id (with_id table_id table (renamed new) xs)) b ∙ find_other id a b xs
            ∙ sym (cond_false (bytes_eq x.id id) (Some x) (find_id table_id id xs) (ap (λ n. bytes_eq n id) ((bytes_eq-Decides x.id table).0 is) ∙ a))
        | false ↦ λ _. ap (λ o. cond (bytes_eq x.id id) (Some x) o) (find_other id a b xs)
      ] refl

  -- under its id then a table has its columns, rows and cells
  pub found_after : (id : List ℕ) (v : Table) → is_metadata_id id ≡ false → find_id table_id id (with_schema r u p) ≡ Some v
      → (w : Table) × (schema_table (with_schema r u after) (renamed_id table new id) ≡ Some w) × (w.grid ≡ v.grid)
  found_after id v inside there =
      let plain : IsPlain id × (find_id table_id id p ≡ Some v) = schema_table_parts r u p id v (cond_false (is_metadata_id id) None (find_id table_id id (with_schema r u p)) inside ∙ there) in
      elim (bytes_eq id table) as (λ b. bytes_eq id table ≡ b → (w : Table) × (schema_table (with_schema r u after) (cond b new id) ≡ Some w) × (w.grid ≡ v.grid)) [
        | true ↦ λ is.
            let same : id ≡ table = (bytes_eq-Decides id table).0 is in
            (renamed new v, schema_table_plain r u after new plain_new.0 ∙ find-new_id table_id table new (renamed new) p v (λ x. refl) (ap (λ n. find_id table_id n p) (sym same) ∙ plain.1) plain_new.1, refl)
        | false ↦ λ isnt.
            (v, schema_table_plain r u after id plain.0 ∙ find_other id (bytes_apart id table isnt) (apart_ids table_id id new p (has_found table_id id p v plain.1) plain_new.1) p ∙ plain.1, refl)
      ] refl

  one_led : (k : Referrer) → IsReferrer (with_schema r u p) table new true k → IsModify r u after (led_to new k)
  one_led k is =
      let s : Document = with_schema r u p in
      let e : ColDef = k.column in
      let info : ColInfo = info_to new e.info in
      let v : Table = is.table in
      let plain : IsPlain is.id × (find_id table_id is.id p ≡ Some v) = schema_table_parts r u p is.id v (cond_false (is_metadata_id is.id) None (find_id table_id is.id s) is.inside ∙ is.there) in
      let sound : IsSoundGrid v.grid = found_all table_id (λ t. IsSoundGrid t.grid) is.id p v good.grids plain.1 in
      let to = found_after is.id v is.inside is.there in
      let sound_info : is_sound_info e.info ≡ true = found_all column_id (λ d. is_sound_info d.info ≡ true) e.id v.grid.columns e sound.infos is.found in
      let null : (not e.info.is_formula || all_null v.grid e.id) ≡ true
      = elim e.info.is_formula as (λ b. e.info.is_formula ≡ b → (not b || all_null v.grid e.id) ≡ true) [
        | true ↦ λ formula. true_each (λ q. is_null (cell column_id v.grid e.id q)) v.grid.rows (each_has (λ q. is_null (cell column_id v.grid e.id q) ≡ true) v.grid.rows (λ q here.
            ap is_null (null_held e (cell column_id v.grid e.id q) formula (sound.holds e q is.found here))))
        | false ↦ λ _. refl
      ] refl in
      let test : (g : Grid ColDef) → g ≡ v.grid → (has_id column_id g.columns e.id && is_sound_info info && (not info.is_formula || all_null g e.id)) ≡ true
      = λ g same. ap (λ g. has_id column_id g.columns e.id && is_sound_info info && (not info.is_formula || all_null g e.id)) same
      ∙ both_true (has_id column_id v.grid.columns e.id && is_sound_info info) (not info.is_formula || all_null v.grid e.id)
      (both_true (has_id column_id v.grid.columns e.id) (is_sound_info info) (has_found column_id e.id v.grid.columns e is.found) (info_sound new named e.info sound_info)) null in
      record {
        table = k.table;
        column = e.id;
        info = info;
        is = refl;
        valid = ap (λ n. valid (with_schema r u after) (ModifyColumn n e.id info)) is.named ∙ ap (λ o. passes o (modify_test e.id info)) to.1 ∙ test to.0.grid to.2;
      }

  each_led : (ks : List Referrer) → AllByRecursion (IsReferrer (with_schema r u p) table new true) ks → AllByRecursion (IsModify r u after) (map (led_to new) ks)
  each_led [] h = tt
  each_led (k ∷ ks) h = (one_led k h.0, each_led ks h.1)

  valid_led : IsWhole (with_schema r u p) → all_valid (with_schema r u after) (map action_of (map (led_to new) (referrers (with_schema r u p) table new true))) ≡ true
  valid_led whole = all_modifies r u after (map (led_to new) (referrers (with_schema r u p) table new true)) (each_led (referrers (with_schema r u p) table new true) (each_referrer (with_schema r u p) whole table new true))

  one_there : (k : Referrer) → IsReferrer (with_schema r u p) table new true k → IsLed (with_schema r u after) k
  one_there k is =
      let to = found_after is.id is.table is.inside is.there in
      record {
        plain = subst IsPlain (sym is.named) (schema_table_parts r u after (renamed_id table new is.id) to.0 to.1).0;
        found = ap (λ n. find_id column_id k.column.id (grid_at (with_schema r u after) n).columns) is.named
            ∙ ap (λ (g : Grid ColDef). find_id column_id k.column.id g.columns) (plain_grid (with_schema r u after) (renamed_id table new is.id) to.0 to.1 ∙ to.2) ∙ is.found;
      }

  each_there : IsWhole (with_schema r u p) → AllByRecursion (IsLed (with_schema r u after)) (referrers (with_schema r u p) table new true)
  each_there whole = each_weaker (IsReferrer (with_schema r u p) table new true) (IsLed (with_schema r u after)) one_there (referrers (with_schema r u p) table new true) (each_referrer (with_schema r u p) whole table new true)

-- the columns that refer to a table stand behind its renaming
pub there-renaming : (s : Document) → IsWhole s → (table new : List ℕ) → is_name new ≡ true → has_id table_id s new ≡ false
    → valid s (RenameTable table new) ≡ true → AllByRecursion (IsLed (apply s (RenameTable table new))) (referrers s table new true)
there-renaming s whole table new named fresh v =
    subst (λ d. IsWhole d → has_id table_id d new ≡ false → valid d (RenameTable table new) ≡ true → AllByRecursion (IsLed (apply d (RenameTable table new))) (referrers d table new true))
    (sym whole.agrees.schema)
    (λ w fresh v.
    let r : Grid ColDef = resources s in
    let u : Grid ColDef = rules s in
    let p : List Table = plain_tables s in
    let d : Document = with_schema r u p in
    let parts = passes_parts (schema_table d table) (λ _. is_new_table d new) v in
    subst (λ x. AllByRecursion (IsLed x) (referrers d table new true)) (sym (applied d (RenameTable table new) v))
    (each_there r u p (good_from s whole) table parts.0 (schema_table_parts r u p table parts.0 parts.1.0) new named fresh w))
    whole fresh v

-- the columns that refer to a table change behind its renaming
pub valid-renaming : (s : Document) → IsWhole s → (table new : List ℕ) (test : Table → Bool) → passes (schema_table s table) test ≡ true → is_name new ≡ true → has_id table_id s new ≡ false
    → valid s (RenameTable table new) ≡ true → all_valid (apply s (RenameTable table new)) (map action_of (map (led_to new) (referrers s table new true))) ≡ true
valid-renaming s whole table new test h named fresh v =
    subst (λ d. IsWhole d → passes (schema_table d table) test ≡ true → has_id table_id d new ≡ false → valid d (RenameTable table new) ≡ true → all_valid (apply d (RenameTable table new)) (map action_of (map (led_to new) (referrers d table new true))) ≡ true)
    (sym whole.agrees.schema)
    (λ w h fresh v.
    let r : Grid ColDef = resources s in
    let u : Grid ColDef = rules s in
    let p : List Table = plain_tables s in
    let d : Document = with_schema r u p in
    let parts = passes_parts (schema_table d table) test h in
    ap (λ x. all_valid x (map action_of (map (led_to new) (referrers d table new true)))) (applied d (RenameTable table new) v)
    ∙ valid_led r u p (good_from s whole) table parts.0 (schema_table_parts r u p table parts.0 parts.1.0) new named fresh w)
    whole h fresh v
