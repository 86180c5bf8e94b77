-- A sound document that agrees with its schema, told by its parts.
use Rattle.std.proofs.Common.{ℕ, Bool, true, false, ◌||◌, ◌&&◌, ◌+◌, List, [], ◌∷◌, ◌++◌, map, ◌≡◌, ◌<◌, ◌≤◌, length, refl, sym, ap, subst, ◌∙◌, arith}
use Rattle.std.proofs.lemmas.Bool.{true≢false, and_parts, or_right}
use Rattle.std.proofs.lemmas.Slice.Eq.{bytes_eq-Decides}
use Rattle.std.specs.Prelude.{codes}
use Rattle.std.specs.List.{list_all, AllByRecursion}
use Rattle.std.specs.Str.{bytes_eq}
use Rattle.cell_types.specs.NameRule.{is_name}
use Rattle.cell_types.specs.declared.column_type.ColType.{ColType}
use Rattle.cell_types.specs.declared.column_type.ColType.TheVariants as type
use Rattle.cell_types.specs.declared.value.CellValue.TheVariants as value
use Rattle.doc_model.specs.declared.column.ColDef.{ColDef}
use Rattle.doc_model.specs.declared.column.ColInfo.{ColInfo}
use Rattle.doc_model.specs.MetadataIds.{tables_id, columns_id, resources_id, rules_id, is_metadata_id}
use Rattle.doc_model.specs.ByIds.{AreDistinct}
use Rattle.doc_model.specs.Rows.{has, has_no_duplicates, IsAscending}
use Rattle.doc_model.specs.Grid.{Grid, cell}
use Rattle.doc_model.specs.Column.{column_id, column_row, is_short, is_base, is_sound_info, is_sound_type, may_hold}
use Rattle.doc_model.specs.Document.{Table, Document, table_id, table_row}
use Rattle.doc_model.specs.Schema.{tables_columns, columns_columns, resources_columns, rules_columns, type_text, Described, described_row, describe, all_columns, in_order, tables_grid, columns_grid, with_schema, resources, rules, plain_tables}
use Rattle.doc_model.specs.Sound.{IsSoundGrid, has_names, IsSound}
use Rattle.doc_model.specs.DocumentLaws.{IsWhole}
use Rattle.doc_model.proofs.Choices.{each_weaker, each_map, each_mapped, each_true, length_map, map-map}
use Rattle.doc_model.proofs.ByIdsLaws.{found_all}
use Rattle.doc_model.proofs.RowsLaws.{each_has, each_at}
use Rattle.doc_model.proofs.SoundLaws.{held_base}
use Rattle.doc_model.proofs.SchemaLaws.{short_from, short_name, name_bytes, has-in_order, IsAscending-in_order, each_in_order, base_cell}

-- the rows of the columns of all tables, table by table
abbrev pub column_rows : List Table → List ℕ
column_rows [] = []
column_rows (t ∷ p) = map column_row t.grid.columns ++ column_rows p

map-append : {X Y : Type 0} (f : X → Y) (xs ys : List X) → map f (xs ++ ys) ≡ map f xs ++ map f ys
map-append f [] ys = refl
map-append f (x ∷ xs) ys = ap (λ zs. f x ∷ zs) (map-append f xs ys)

pub described_rows : (p : List Table) → map described_row (all_columns p) ≡ column_rows p
described_rows [] = refl
described_rows (t ∷ p) =
    map-append described_row (map (λ (d : ColDef). let e : Described = record { parent = t.row; column = d } in e) t.grid.columns) (all_columns p)
    ∙ ap (λ rows. rows ++ map described_row (all_columns p)) (sym (map-map described_row (λ (d : ColDef). let e : Described = record { parent = t.row; column = d } in e) t.grid.columns))
    ∙ ap (λ rows. map column_row t.grid.columns ++ rows) (described_rows p)

pub each_append : {X : Type 0} (P : X → Type 0) (xs ys : List X) → AllByRecursion P xs → AllByRecursion P ys → AllByRecursion P (xs ++ ys)
each_append P [] ys h k = k
each_append P (x ∷ xs) ys h k = (h.0, each_append P xs ys h.1 k)

each_parts : {X : Type 0} (P : X → Type 0) (xs ys : List X) → AllByRecursion P (xs ++ ys) → AllByRecursion P xs × AllByRecursion P ys
each_parts P [] ys h = (tt, h)
each_parts P (x ∷ xs) ys h = let rest : AllByRecursion P xs × AllByRecursion P ys = each_parts P xs ys h.1 in ((h.0, rest.0), rest.1)

-- what holds of each row holds of each table's
each_table_rows : (P : ℕ → Type 0) (p : List Table) → AllByRecursion P (column_rows p) → AllByRecursion (λ t. AllByRecursion P (map column_row t.grid.columns)) p
each_table_rows P [] h = tt
each_table_rows P (t ∷ p) h = let two : AllByRecursion P (map column_row t.grid.columns) × AllByRecursion P (column_rows p) = each_parts P (map column_row t.grid.columns) (column_rows p) h in (two.0, each_table_rows P p two.1)

each_column_row : (P : ℕ → Type 0) (p : List Table) → AllByRecursion (λ t. AllByRecursion P (map column_row t.grid.columns)) p → AllByRecursion P (column_rows p)
each_column_row P [] h = tt
each_column_row P (t ∷ p) h = each_append P (map column_row t.grid.columns) (column_rows p) h.0 (each_column_row P p h.1)

-- the parts of such a document: what it holds of access tables, and its other tables
pub record IsGood (r u : Grid ColDef) (p : List Table) : Type 0 where
  pub resources_sound : IsSoundGrid r
  pub rules_sound : IsSoundGrid u
  pub resources_have : r.columns ≡ resources_columns
  pub rules_have : u.columns ≡ rules_columns
  pub distinct : AreDistinct table_id p
  pub plain : AllByRecursion (λ t. is_metadata_id t.id ≡ false) p
  pub grids : AllByRecursion (λ t. IsSoundGrid t.grid) p
  pub names : AllByRecursion (λ t. has_names t ≡ true) p
  pub once : has_no_duplicates (column_rows p) ≡ true
  pub tables_ascend : IsAscending (map table_row p)
  pub columns_ascend : AllByRecursion (λ t. IsAscending (map column_row t.grid.columns)) p
  pub table_rows : AllByRecursion (λ q. 0 < q) (map table_row p)
  pub columns_from_one : AllByRecursion (λ t. AllByRecursion (λ q. 0 < q) (map column_row t.grid.columns)) p

-- ---- the ids of the metadata tables

pub tables_columns_apart : bytes_eq tables_id columns_id ≡ false
unfolding tables_id columns_id
tables_columns_apart = refl

pub tables_resources_apart : bytes_eq tables_id resources_id ≡ false
unfolding tables_id resources_id
tables_resources_apart = refl

pub tables_rules_apart : bytes_eq tables_id rules_id ≡ false
unfolding tables_id rules_id
tables_rules_apart = refl

pub columns_resources_apart : bytes_eq columns_id resources_id ≡ false
unfolding columns_id resources_id
columns_resources_apart = refl

pub columns_rules_apart : bytes_eq columns_id rules_id ≡ false
unfolding columns_id rules_id
columns_rules_apart = refl

pub resources_rules_apart : bytes_eq resources_id rules_id ≡ false
unfolding resources_id rules_id
resources_rules_apart = refl

tables_metadata : is_metadata_id tables_id ≡ true
unfolding tables_id columns_id
tables_metadata = refl

columns_metadata : is_metadata_id columns_id ≡ true
unfolding tables_id columns_id
columns_metadata = refl

pub resources_metadata : is_metadata_id resources_id ≡ true
unfolding tables_id columns_id resources_id rules_id
resources_metadata = refl

rules_metadata : is_metadata_id rules_id ≡ true
unfolding tables_id columns_id resources_id rules_id
rules_metadata = refl

-- an id that is no metadata table's is apart from each of the four
pub record IsPlain (id : List ℕ) : Type 0 where
  pub tables : bytes_eq tables_id id ≡ false
  pub columns : bytes_eq columns_id id ≡ false
  pub resources : bytes_eq resources_id id ≡ false
  pub rules : bytes_eq rules_id id ≡ false

none_of : (a b c d : Bool) → ((a || b) || (c || d)) ≡ false → (a ≡ false) × (b ≡ false) × (c ≡ false) × (d ≡ false)
none_of true b c d e = absurd (true≢false e)
none_of false true c d e = absurd (true≢false e)
none_of false false true d e = absurd (true≢false e)
none_of false false false true e = absurd (true≢false e)
none_of false false false false e = (refl, refl, refl, refl)

pub plain_from : (id : List ℕ) → is_metadata_id id ≡ false → IsPlain id
plain_from id e =
    let four : (bytes_eq tables_id id ≡ false) × (bytes_eq columns_id id ≡ false) × (bytes_eq resources_id id ≡ false) × (bytes_eq rules_id id ≡ false)
    = none_of (bytes_eq tables_id id) (bytes_eq columns_id id) (bytes_eq resources_id id) (bytes_eq rules_id id) e in
    record { tables = four.0; columns = four.1; resources = four.2; rules = four.3 }

pub metadata_from : (id : List ℕ) → IsPlain id → is_metadata_id id ≡ false
metadata_from id h =
    ap (λ b. (b || bytes_eq columns_id id) || (bytes_eq resources_id id || bytes_eq rules_id id)) h.tables
    ∙ ap (λ b. b || (bytes_eq resources_id id || bytes_eq rules_id id)) h.columns
    ∙ ap (λ b. b || bytes_eq rules_id id) h.resources
    ∙ h.rules

-- ---- texts that describe

short_metadata : (id : List ℕ) → is_metadata_id id ≡ true → length id ≤ 260
unfolding tables_id columns_id resources_id rules_id
short_metadata id e =
    elim (bytes_eq tables_id id) as (λ b. bytes_eq tables_id id ≡ b → ((b || bytes_eq columns_id id) || (bytes_eq resources_id id || bytes_eq rules_id id)) ≡ true → length id ≤ 260) [
      | true ↦ λ is _. bound tables_id is (omega arith)
      | false ↦ λ _. elim (bytes_eq columns_id id) as (λ b. bytes_eq columns_id id ≡ b → (b || (bytes_eq resources_id id || bytes_eq rules_id id)) ≡ true → length id ≤ 260) [
        | true ↦ λ is _. bound columns_id is (omega arith)
        | false ↦ λ _. elim (bytes_eq resources_id id) as (λ b. bytes_eq resources_id id ≡ b → (b || bytes_eq rules_id id) ≡ true → length id ≤ 260) [
          | true ↦ λ is _. bound resources_id is (omega arith)
          | false ↦ λ _ is. bound rules_id is (omega arith)
        ] refl
      ] refl
    ] refl e
  where
    bound : (m : List ℕ) → bytes_eq m id ≡ true → length m ≤ 260 → length id ≤ 260
    bound m is few = subst (λ c. length c ≤ 260) ((bytes_eq-Decides m id).0 is) few

short_target : (t : List ℕ) → (is_name t || is_metadata_id t) ≡ true → length t ≤ 260
short_target t e =
    elim (is_name t) as (λ b. is_name t ≡ b → (b || is_metadata_id t) ≡ true → length t ≤ 260) [
      | true ↦ λ is _. name_bytes t is
      | false ↦ λ _ e. short_metadata t e
    ] refl e

length_append : (xs ys : List ℕ) → length (xs ++ ys) ≡ length xs + length ys
length_append [] ys = omega arith
length_append (x ∷ xs) ys = let later : length (xs ++ ys) ≡ length xs + length ys = length_append xs ys in omega arith

short_type : (t : ColType) → is_sound_type t ≡ true → is_short (type_text t) ≡ true
short_type type.Any e = refl
short_type type.Text e = refl
short_type type.Int e = refl
short_type type.Bool e = refl
short_type type.Date e = refl
short_type (type.Ref t) e =
    let few : length t ≤ 260 = short_target t e in
    let all : length (codes "Ref:" ++ t) ≡ length (codes "Ref:") + length t = length_append (codes "Ref:") t in
    let head : length (codes "Ref:") ≡ 4 = refl in
    short_from (codes "Ref:" ++ t) (omega arith)
short_type (type.RefList t) e =
    let few : length t ≤ 260 = short_target t e in
    let all : length (codes "RefList:" ++ t) ≡ length (codes "RefList:") + length t = length_append (codes "RefList:") t in
    let head : length (codes "RefList:") ≡ 8 = refl in
    short_from (codes "RefList:" ++ t) (omega arith)

-- ---- the schema tables are sound

pub names_parts : (t : Table) → has_names t ≡ true → (is_name t.id ≡ true) × AllByRecursion (λ d. is_name d.id ≡ true) t.grid.columns
names_parts t e =
    let both : (is_name t.id ≡ true) × (list_all (λ (d : ColDef). is_name d.id) t.grid.columns ≡ true) = and_parts (is_name t.id) (list_all (λ (d : ColDef). is_name d.id) t.grid.columns) e in
    (both.0, each_true (λ (d : ColDef). is_name d.id) t.grid.columns both.1)

tables_sound : (r u : Grid ColDef) (p : List Table) → IsGood r u p → IsSoundGrid (tables_grid p)
tables_sound r u p good = record {
  is_grid = record {
    distinct = (tt, tt);
    ascending = good.tables_ascend;
    height = length_map (λ (t : Table). value.Text t.id ∷ []) p ∙ sym (length_map table_row p);
    width = each_map (λ row. length row ≡ length tables_columns) (λ (t : Table). value.Text t.id ∷ []) p (λ t. refl);
  };
  from_one = good.table_rows;
  infos = (refl, tt);
  holds = λ d r found here. held_base d (cell column_id (tables_grid p) d.id r)
      (found_all column_id (λ d. d.info.is_formula ≡ false) d.id tables_columns d (refl, tt) found)
      (base_cell (tables_grid p) d.id r (each_mapped (AllByRecursion (λ v. is_base v ≡ true)) (λ (t : Table). value.Text t.id ∷ []) p
      (each_weaker (λ t. has_names t ≡ true) (λ (t : Table). AllByRecursion (λ v. is_base v ≡ true) (value.Text t.id ∷ [])) (λ t e. (short_name t.id (names_parts t e).0, tt)) p good.names)));
}

-- a described column whose texts are short
abbrev IsShortly : Described → Type 0
IsShortly e = (is_short e.column.id ≡ true) × (is_short (type_text e.column.info.ty) ≡ true) × (is_short e.column.info.formula ≡ true)

info_parts : (info : ColInfo) → is_sound_info info ≡ true → (is_sound_type info.ty ≡ true) × (is_short info.formula ≡ true)
info_parts info e = let one : ((is_sound_type info.ty && is_short info.formula) ≡ true) × _ = and_parts (is_sound_type info.ty && is_short info.formula) (info.is_formula || Rattle.doc_model.specs.Column.is_empty info.formula) e in and_parts (is_sound_type info.ty) (is_short info.formula) one.0

shortly_described : (row : ℕ) (ds : List ColDef) → AllByRecursion (λ d. is_name d.id ≡ true) ds → AllByRecursion (λ d. is_sound_info d.info ≡ true) ds
    → AllByRecursion IsShortly (map (λ (d : ColDef). let e : Described = record { parent = row; column = d } in e) ds)
shortly_described row [] n s = tt
shortly_described row (d ∷ ds) n s =
    let parts : (is_sound_type d.info.ty ≡ true) × (is_short d.info.formula ≡ true) = info_parts d.info s.0 in
    ((short_name d.id n.0, short_type d.info.ty parts.0, parts.1), shortly_described row ds n.1 s.1)

all_shortly : (p : List Table) → AllByRecursion (λ t. IsSoundGrid t.grid) p → AllByRecursion (λ t. has_names t ≡ true) p → AllByRecursion IsShortly (all_columns p)
all_shortly [] g n = tt
all_shortly (t ∷ p) g n =
    each_append IsShortly (map (λ (d : ColDef). let e : Described = record { parent = t.row; column = d } in e) t.grid.columns) (all_columns p)
    (shortly_described t.row t.grid.columns (names_parts t n.0).1 g.0.infos) (all_shortly p g.1 n.1)

columns_distinct : AreDistinct column_id columns_columns
columns_distinct = ((refl, (refl, (refl, (refl, tt)))), ((refl, (refl, (refl, tt))), ((refl, (refl, tt)), ((refl, tt), (tt, tt)))))

columns_sound : (r u : Grid ColDef) (p : List Table) → IsGood r u p → IsSoundGrid (columns_grid p)
columns_sound r u p good =
    let es : List Described = in_order (all_columns p) in
    record {
      is_grid = record {
        distinct = columns_distinct;
        ascending = IsAscending-in_order (all_columns p);
        height = length_map describe es ∙ sym (length_map described_row es);
        width = each_map (λ row. length row ≡ length columns_columns) describe es (λ e. refl);
      };
      from_one = each_has (λ q. 0 < q) (map described_row es) (λ q here. each_at (λ q. 0 < q) (column_rows p) q (each_column_row (λ q. 0 < q) p good.columns_from_one) (ap (λ rows. has rows q) (sym (described_rows p)) ∙ sym (has-in_order (all_columns p) q) ∙ here));
      infos = (ap (λ b. (b && is_short []) && true) (or_right (is_name tables_id) (is_metadata_id tables_id) tables_metadata), (refl, (refl, (refl, (refl, tt)))));
      holds = λ d r found here. held_base d (cell column_id (columns_grid p) d.id r)
          (found_all column_id (λ d. d.info.is_formula ≡ false) d.id columns_columns d (refl, (refl, (refl, (refl, (refl, tt))))) found)
          (base_cell (columns_grid p) d.id r (each_mapped (AllByRecursion (λ v. is_base v ≡ true)) describe es
          (each_weaker IsShortly (λ e. AllByRecursion (λ v. is_base v ≡ true) (describe e)) (λ e h. (refl, (h.0, (h.1, (refl, (h.2, tt)))))) es (each_in_order IsShortly (all_columns p) (all_shortly p good.grids good.names)))));
    }

-- ---- whole documents and their parts

pub whole_from : (r u : Grid ColDef) (p : List Table) → IsGood r u p → IsWhole (with_schema r u p)
whole_from r u p good = record {
  agrees = record {
    schema = refl;
    once = ap has_no_duplicates (described_rows p) ∙ good.once;
    tables_ascend = good.tables_ascend;
    columns_ascend = good.columns_ascend;
    resources_have = good.resources_have;
    rules_have = good.rules_have;
  };
  sound = record {
    distinct = (
      (tables_columns_apart, (tables_resources_apart, (tables_rules_apart, each_weaker (λ t. IsPlain t.id) (λ t. bytes_eq tables_id t.id ≡ false) (λ t h. h.tables) p plains))),
      (
        (columns_resources_apart, (columns_rules_apart, each_weaker (λ t. IsPlain t.id) (λ t. bytes_eq columns_id t.id ≡ false) (λ t h. h.columns) p plains)),
        (
          (resources_rules_apart, each_weaker (λ t. IsPlain t.id) (λ t. bytes_eq resources_id t.id ≡ false) (λ t h. h.resources) p plains),
          (
            each_weaker (λ t. IsPlain t.id) (λ t. bytes_eq rules_id t.id ≡ false) (λ t h. h.rules) p plains,
            good.distinct,
          ),
        ),
      ),
    );
    grids = (tables_sound r u p good, (columns_sound r u p good, (good.resources_sound, (good.rules_sound, good.grids))));
    names = (
      named _ tables_id tables_metadata,
      (
        named _ columns_id columns_metadata,
        (
          named _ resources_id resources_metadata,
          (
            named _ rules_id rules_metadata,
            each_weaker (λ t. has_names t ≡ true) (λ t. (is_metadata_id t.id || has_names t) ≡ true) (λ t e. or_right (is_metadata_id t.id) (has_names t) e) p good.names,
          ),
        ),
      ),
    );
  };
}
  where
    plains : AllByRecursion (λ t. IsPlain t.id) p
    plains = each_weaker (λ t. is_metadata_id t.id ≡ false) (λ t. IsPlain t.id) (λ t e. plain_from t.id e) p good.plain

    named : (b : Bool) (id : List ℕ) → is_metadata_id id ≡ true → (is_metadata_id id || b) ≡ true
    named b id e = ap (λ c. c || b) e

pub good_from : (s : Document) → IsWhole s → IsGood (resources s) (rules s) (plain_tables s)
good_from s whole =
    let p : List Table = plain_tables s in
    let whole' : IsSound (with_schema (resources s) (rules s) p) = subst IsSound whole.agrees.schema whole.sound in
    let d : AreDistinct table_id (with_schema (resources s) (rules s) p) = whole'.distinct in
    let plains : AllByRecursion (λ t. is_metadata_id t.id ≡ false) p
    = plain_each p d.0.1.1.1 d.1.0.1.1 d.1.1.0.1 d.1.1.1.0 in
    record {
      resources_sound = whole'.grids.1.1.0;
      rules_sound = whole'.grids.1.1.1.0;
      resources_have = whole.agrees.resources_have;
      rules_have = whole.agrees.rules_have;
      distinct = d.1.1.1.1;
      plain = plains;
      grids = whole'.grids.1.1.1.1;
      names = name_each p plains whole'.names.1.1.1.1;
      once = ap has_no_duplicates (sym (described_rows p)) ∙ whole.agrees.once;
      tables_ascend = whole.agrees.tables_ascend;
      columns_ascend = whole.agrees.columns_ascend;
      table_rows = whole'.grids.0.from_one;
      columns_from_one = each_table_rows (λ q. 0 < q) p (each_has (λ q. 0 < q) (column_rows p) (λ q here.
          each_at (λ q. 0 < q) (map described_row (in_order (all_columns p))) q whole'.grids.1.0.from_one (has-in_order (all_columns p) q ∙ ap (λ rows. has rows q) (described_rows p) ∙ here)));
    }
  where
    plain_each : (p : List Table) → AllByRecursion (λ t. bytes_eq tables_id (table_id t) ≡ false) p → AllByRecursion (λ t. bytes_eq columns_id (table_id t) ≡ false) p
        → AllByRecursion (λ t. bytes_eq resources_id (table_id t) ≡ false) p → AllByRecursion (λ t. bytes_eq rules_id (table_id t) ≡ false) p → AllByRecursion (λ t. is_metadata_id t.id ≡ false) p
    plain_each [] a b c d = tt
    plain_each (t ∷ p) a b c d = (metadata_from t.id (record { tables = a.0; columns = b.0; resources = c.0; rules = d.0 }), plain_each p a.1 b.1 c.1 d.1)

    name_each : (p : List Table) → AllByRecursion (λ t. is_metadata_id t.id ≡ false) p → AllByRecursion (λ t. (is_metadata_id t.id || has_names t) ≡ true) p → AllByRecursion (λ t. has_names t ≡ true) p
    name_each [] a h = tt
    name_each (t ∷ p) a h = (ap (λ b. b || has_names t) (sym a.0) ∙ h.0, name_each p a.1 h.1)
