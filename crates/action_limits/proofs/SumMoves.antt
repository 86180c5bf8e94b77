-- What an action takes was there, and so the sums after it are told in 64 bits.
use Rattle.std.proofs.Common.{ℕ, Bool, true, false, not, ◌&&◌, ◌||◌, ◌+◌, ◌-◌, ◌^◌, ◌<◌, ◌≤◌, List, [], ◌∷◌, map, length, ◌≡◌, refl, sym, ap, ◌∙◌, Option, Some, None, arith}
use Rattle.std.proofs.lemmas.Bool.{and_parts, false≢true}
use Rattle.std.specs.List.{list_all}
use Rattle.std.specs.Prelude.{nat_eq}
use Rattle.cell_types.specs.declared.value.CellValue.{CellValue}
use Rattle.cell_types.specs.declared.value.CellValue.TheVariants.{Null}
use Rattle.doc_model.specs.declared.action.DocAction.{DocAction}
use Rattle.doc_model.specs.declared.action.DocAction.TheVariants.{BulkAdd, BulkUpdate, BulkRemove, AddTable, RemoveTable, RenameTable, AddColumn, RemoveColumn, RenameColumn, ModifyColumn}
use Rattle.doc_model.specs.declared.column.CellColumn.{CellColumn}
use Rattle.doc_model.specs.declared.column.ColDef.{ColDef}
use Rattle.doc_model.specs.declared.column.ColInfo.{ColInfo}
use Rattle.doc_model.specs.Apply.{apply}
use Rattle.doc_model.specs.ByIds.{are_distinct, find_id, has_id}
use Rattle.doc_model.specs.Column.{column_id, is_base, is_empty, is_short, is_sound_info, is_sound_type}
use Rattle.doc_model.specs.CountLaws.{Sums, SumsMove, bytes_of_formula, sums_added, column_weight, given_weight, sums_removed, nothing, sums_of}
use Rattle.doc_model.specs.Counts.{counts, row_weight, total}
use Rattle.doc_model.specs.Document.{Document, Table, table_id}
use Rattle.doc_model.specs.DocumentLaws.{IsWhole}
use Rattle.doc_model.specs.Grid.{Grid}
use Rattle.doc_model.specs.Records.{given_id}
use Rattle.doc_model.specs.Rows.{all_in, has_no_duplicates}
use Rattle.doc_model.specs.Valid.{all_null, from_one, gives_column, gives_data, is_data, passes, record_table, schema_table, valid}
use Rattle.doc_model.proofs.Choices.{both_true, length_map, map-map, parts_3}
use Rattle.doc_model.proofs.ByIdsLaws.{has_id-map}
use Rattle.doc_model.proofs.SchemaCounts.{counts-apply}
use Rattle.action_limits.specs.Capped.{capped}

-- ---- updates with nulls take the same, and bring nothing

abbrev nulled : CellColumn → CellColumn
nulled k = record { id = k.id; values = map (λ _. Null) k.values }

no_weight : (vs : List CellValue) → row_weight (map (λ _. Null) vs) ≡ 0
no_weight [] = refl
no_weight (v ∷ vs) = let later : row_weight (map (λ _. Null) vs) ≡ 0 = no_weight vs in omega arith

given_weight-nulled : (ks : List CellColumn) → given_weight (map nulled ks) ≡ 0
given_weight-nulled [] = refl
given_weight-nulled (k ∷ ks) =
    let here : row_weight (map (λ _. Null) k.values) ≡ 0 = no_weight k.values in
    let later : given_weight (map nulled ks) ≡ 0 = given_weight-nulled ks in
    omega arith

all_base-nulled : (vs : List CellValue) → list_all is_base (map (λ _. Null) vs) ≡ true
all_base-nulled [] = refl
all_base-nulled (v ∷ vs) = all_base-nulled vs

distinct-nulled : (ks : List CellColumn) → are_distinct given_id (map nulled ks) ≡ are_distinct given_id ks
distinct-nulled [] = refl
distinct-nulled (k ∷ ks) =
    ap (λ b. not b && are_distinct given_id (map nulled ks)) (has_id-map given_id nulled ks k.id)
    ∙ ap (λ b. not (has_id given_id ks k.id) && b) (distinct-nulled ks)

gives-nulled : (g : Grid ColDef) (rows : List ℕ) (k : CellColumn) → gives_column g rows k ≡ true → gives_column g rows (nulled k) ≡ true
gives-nulled g rows k h =
    let parts : (is_data g k.id ≡ true) × (nat_eq (length k.values) (length rows) ≡ true) × (list_all is_base k.values ≡ true)
    = parts_3 (is_data g k.id) (nat_eq (length k.values) (length rows)) (list_all is_base k.values) h in
    both_true (is_data g k.id && nat_eq (length (map (λ _. Null) k.values)) (length rows)) (list_all is_base (map (λ _. Null) k.values))
    (both_true (is_data g k.id) (nat_eq (length (map (λ _. Null) k.values)) (length rows)) parts.0 (ap (λ n. nat_eq n (length rows)) (length_map (λ _. Null) k.values) ∙ parts.1))
    (all_base-nulled k.values)

all_give-nulled : (g : Grid ColDef) (rows : List ℕ) (ks : List CellColumn) → list_all (gives_column g rows) ks ≡ true → list_all (gives_column g rows) (map nulled ks) ≡ true
all_give-nulled g rows [] h = refl
all_give-nulled g rows (k ∷ ks) h =
    let parts : (gives_column g rows k ≡ true) × (list_all (gives_column g rows) ks ≡ true) = and_parts (gives_column g rows k) (list_all (gives_column g rows) ks) h in
    both_true (gives_column g rows (nulled k)) (list_all (gives_column g rows) (map nulled ks)) (gives-nulled g rows k parts.0) (all_give-nulled g rows ks parts.1)

data-nulled : (g : Grid ColDef) (rows : List ℕ) (ks : List CellColumn) → gives_data g rows ks ≡ true → gives_data g rows (map nulled ks) ≡ true
data-nulled g rows ks h =
    let parts : (are_distinct given_id ks ≡ true) × (list_all (gives_column g rows) ks ≡ true) = and_parts (are_distinct given_id ks) (list_all (gives_column g rows) ks) h in
    both_true (are_distinct given_id (map nulled ks)) (list_all (gives_column g rows) (map nulled ks)) (distinct-nulled ks ∙ parts.0) (all_give-nulled g rows ks parts.1)

passes_weaker : (o : Option Table) (p q : Table → Bool) → ((t : Table) → p t ≡ true → q t ≡ true) → passes o p ≡ true → passes o q ≡ true
passes_weaker None p q f h = absurd (false≢true h)
passes_weaker (Some t) p q f h = f t h

valid-nulled : (s : Document) (table rows : List ℕ) (ks : List CellColumn) → valid s (BulkUpdate table rows ks) ≡ true → valid s (BulkUpdate table rows (map nulled ks)) ≡ true
valid-nulled s table rows ks h =
    passes_weaker (record_table s table)
    (λ t. has_no_duplicates rows && from_one rows && all_in rows t.grid.rows && gives_data t.grid rows ks)
    (λ t. has_no_duplicates rows && from_one rows && all_in rows t.grid.rows && gives_data t.grid rows (map nulled ks))
    (λ t e.
    let parts : ((has_no_duplicates rows && from_one rows && all_in rows t.grid.rows) ≡ true) × (gives_data t.grid rows ks ≡ true) = and_parts (has_no_duplicates rows && from_one rows && all_in rows t.grid.rows) (gives_data t.grid rows ks) e in
    both_true (has_no_duplicates rows && from_one rows && all_in rows t.grid.rows) (gives_data t.grid rows (map nulled ks)) parts.0 (data-nulled t.grid rows ks parts.1)) h

sums_removed-nulled : (s : Document) (table rows : List ℕ) (ks : List CellColumn) → (sums_removed s (BulkUpdate table rows (map nulled ks))).weight ≡ (sums_removed s (BulkUpdate table rows ks)).weight
sums_removed-nulled s table rows ks = elim (find_id table_id table s) as (λ (o : Option Table).
    (elim o as (λ _. Sums) [ None ↦ nothing | Some t ↦ record { tables = 0; cells = 0; weight = total (map (λ (k : CellColumn). column_weight t.grid rows k.id) (map nulled ks)) } ]).weight
    ≡ (elim o as (λ _. Sums) [ None ↦ nothing | Some t ↦ record { tables = 0; cells = 0; weight = total (map (λ (k : CellColumn). column_weight t.grid rows k.id) ks) } ]).weight) [
      | None ↦ refl
      | Some t ↦ ap total (sym (map-map (λ (k : CellColumn). column_weight t.grid rows k.id) nulled ks))
    ]

-- ---- what is taken was there

pub record WasThere (s : Document) (a : DocAction) : Type 0 where
  pub tables : (sums_removed s a).tables ≤ (counts s).tables
  pub cells : (sums_removed s a).cells ≤ (counts s).cells
  pub weight : (sums_removed s a).weight ≤ (counts s).weight

only_taken : (after before g c : ℕ) → after + g ≡ before + c → c ≡ 0 → g ≤ before
only_taken after before g c e z = omega arith

no_tables : (s : Document) (table : List ℕ) (f : Grid ColDef → ℕ) → (sums_of s table (λ g. record { tables = 0; cells = 0; weight = f g })).tables ≡ 0
no_tables s table f = elim (find_id table_id table s) as (λ (o : Option Table). (elim o as (λ _. Sums) [ None ↦ nothing | Some t ↦ record { tables = 0; cells = 0; weight = f t.grid } ]).tables ≡ 0) [ None ↦ refl | Some t ↦ refl ]

no_cells : (s : Document) (table : List ℕ) (f : Grid ColDef → ℕ) → (sums_of s table (λ g. record { tables = 0; cells = 0; weight = f g })).cells ≡ 0
no_cells s table f = elim (find_id table_id table s) as (λ (o : Option Table). (elim o as (λ _. Sums) [ None ↦ nothing | Some t ↦ record { tables = 0; cells = 0; weight = f t.grid } ]).cells ≡ 0) [ None ↦ refl | Some t ↦ refl ]

-- an action that brings nothing takes what was there
taken_there : (s : Document) (a : DocAction) → IsWhole s → valid s a ≡ true → sums_added s a ≡ nothing → WasThere s a
taken_there s a whole v none =
    let moved : SumsMove s (apply s a) a = counts-apply s a whole v in
    record {
      tables = only_taken (counts (apply s a)).tables (counts s).tables (sums_removed s a).tables (sums_added s a).tables moved.tables (ap (λ (n : Sums). n.tables) none);
      cells = only_taken (counts (apply s a)).cells (counts s).cells (sums_removed s a).cells (sums_added s a).cells moved.cells (ap (λ (n : Sums). n.cells) none);
      weight = only_taken (counts (apply s a)).weight (counts s).weight (sums_removed s a).weight (sums_added s a).weight moved.weight (ap (λ (n : Sums). n.weight) none);
    }

-- one that takes nothing
untaken : (s : Document) (a : DocAction) → sums_removed s a ≡ nothing → WasThere s a
untaken s a none =
    let t : (sums_removed s a).tables ≡ 0 = ap (λ (n : Sums). n.tables) none in
    let c : (sums_removed s a).cells ≡ 0 = ap (λ (n : Sums). n.cells) none in
    let w : (sums_removed s a).weight ≡ 0 = ap (λ (n : Sums). n.weight) none in
    record { tables = omega (arith, t); cells = omega (arith, c); weight = omega (arith, w) }

-- one that changes weight alone, by another one that takes as much and brings none
weight_there : (s : Document) (a b : DocAction) → IsWhole s → (sums_removed s a).tables ≡ 0 → (sums_removed s a).cells ≡ 0 → valid s b ≡ true → (sums_removed s b).weight ≡ (sums_removed s a).weight → (sums_added s b).weight ≡ 0 → WasThere s a
weight_there s a b whole t c v same none =
    let w : (sums_removed s b).weight ≤ (counts s).weight = only_taken (counts (apply s b)).weight (counts s).weight (sums_removed s b).weight (sums_added s b).weight (counts-apply s b whole v).weight none in
    record { tables = omega (arith, t); cells = omega (arith, c); weight = omega (arith, w, same) }

abbrev plain_info : ColInfo → ColInfo
plain_info info = record { ty = info.ty; is_formula = false; formula = [] }

plain_sound : (info : ColInfo) → is_sound_info info ≡ true → is_sound_info (plain_info info) ≡ true
plain_sound info h =
    let parts : (is_sound_type info.ty ≡ true) × (is_short info.formula ≡ true) × ((info.is_formula || is_empty info.formula) ≡ true)
    = parts_3 (is_sound_type info.ty) (is_short info.formula) (info.is_formula || is_empty info.formula) h in
    both_true (is_sound_type info.ty && is_short []) (false || is_empty []) (both_true (is_sound_type info.ty) (is_short []) parts.0 refl) refl

valid-plain_info : (s : Document) (table column : List ℕ) (info : ColInfo) → valid s (ModifyColumn table column info) ≡ true → valid s (ModifyColumn table column (plain_info info)) ≡ true
valid-plain_info s table column info h =
    passes_weaker (schema_table s table)
    (λ t. has_id column_id t.grid.columns column && is_sound_info info && (not info.is_formula || all_null t.grid column))
    (λ t. has_id column_id t.grid.columns column && is_sound_info (plain_info info) && (not false || all_null t.grid column))
    (λ t e.
    let parts : (has_id column_id t.grid.columns column ≡ true) × (is_sound_info info ≡ true) × ((not info.is_formula || all_null t.grid column) ≡ true)
    = parts_3 (has_id column_id t.grid.columns column) (is_sound_info info) (not info.is_formula || all_null t.grid column) e in
    both_true (has_id column_id t.grid.columns column && is_sound_info (plain_info info)) (not false || all_null t.grid column)
    (both_true (has_id column_id t.grid.columns column) (is_sound_info (plain_info info)) parts.0 (plain_sound info parts.1)) refl) h

pub was_there : (s : Document) (a : DocAction) → IsWhole s → valid s a ≡ true → WasThere s a
was_there s (BulkAdd table rows ks) whole v = untaken s (BulkAdd table rows ks) refl
was_there s (BulkUpdate table rows ks) whole v =
    weight_there s (BulkUpdate table rows ks) (BulkUpdate table rows (map nulled ks)) whole
    (no_tables s table (λ g. total (map (λ (k : CellColumn). column_weight g rows k.id) ks))) (no_cells s table (λ g. total (map (λ (k : CellColumn). column_weight g rows k.id) ks)))
    (valid-nulled s table rows ks v) (sums_removed-nulled s table rows ks) (given_weight-nulled ks)
was_there s (BulkRemove table rows) whole v = taken_there s (BulkRemove table rows) whole v refl
was_there s (AddTable table row columns) whole v = untaken s (AddTable table row columns) refl
was_there s (RemoveTable table) whole v = taken_there s (RemoveTable table) whole v refl
was_there s (RenameTable table new) whole v = untaken s (RenameTable table new) refl
was_there s (AddColumn table d) whole v = untaken s (AddColumn table d) refl
was_there s (RemoveColumn table column) whole v = taken_there s (RemoveColumn table column) whole v refl
was_there s (RenameColumn table column new) whole v = untaken s (RenameColumn table column new) refl
was_there s (ModifyColumn table column info) whole v =
    weight_there s (ModifyColumn table column info) (ModifyColumn table column (plain_info info)) whole
    (no_tables s table (λ g. bytes_of_formula g column)) (no_cells s table (λ g. bytes_of_formula g column))
    (valid-plain_info s table column info v) refl refl

-- ---- a sum after an action, in 64 bits

pub sum_moved : (before after g c m n r : ℕ) → before < 2 ^ 64 → g ≤ before → after + g ≡ before + c → m ≡ capped g → n ≡ capped c → r ≡ capped (before - m + n) → r ≡ capped after
sum_moved before after g c m n r small there moved is_gone is_come made = grind arith
