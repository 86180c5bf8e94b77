-- What a walk over tables and columns counts.
use Rattle.std.proofs.Common.{ℕ, zero, suc, true, false, cond, not, ◌+◌, ◌-◌, ◌^◌, ◌<◌, ◌≤◌, List, [], ◌∷◌, map, filter, length, take, slice_get, ◌≡◌, refl, sym, ap, subst, ◌∙◌, Option, Some, None, arith, ltb}
use Rattle.std.proofs.lemmas.Bool.{ltb-true, ltb-false, lt-ltb, le-ltb}
use Rattle.std.proofs.lemmas.Option.{get_or_from_slice_get}
use Rattle.std.specs.List.{AllByRecursion}
use Rattle.doc_model.specs.declared.column.ColDef.{ColDef}
use Rattle.doc_model.specs.declared.limit.LimitKind.{LimitKind}
use Rattle.doc_model.specs.ByIds.{find_id}
use Rattle.doc_model.specs.Column.{column_id}
use Rattle.doc_model.specs.CountLaws.{column_weight, rows_weight}
use Rattle.doc_model.specs.Counts.{bound_of, counts, formula_bytes, grid_weight, passed, value_weight}
use Rattle.doc_model.specs.Document.{Table, Document, table_id, table_row}
use Rattle.doc_model.specs.DocumentLaws.{IsWhole}
use Rattle.doc_model.specs.Grid.{Grid, cell}
use Rattle.doc_model.specs.MetadataIds.{tables_id, columns_id, resources_id, rules_id, is_metadata_id}
use Rattle.doc_model.specs.Readers.{table_at}
use Rattle.doc_model.specs.Schema.{no_grid, with_schema, resources, rules, plain_tables}
use Rattle.doc_model.specs.Sound.{IsSoundGrid}
use Rattle.doc_model.proofs.ByIdsLaws.{each_found, found_all}
use Rattle.doc_model.proofs.Choices.{each_weaker, filter_all, length_map}
use Rattle.doc_model.proofs.TotalsLaws.{sum_of, total-swap}
use Rattle.doc_model.proofs.WeightLaws.{grid_weight-own}
use Rattle.doc_model.proofs.WholeLaws.{good_from}
use Rattle.doc_readers.specs.Parts.{grid_at}
use Rattle.action_limits.specs.Capped.{capped, no_table, table_in}
use Rattle.user_actions.proofs.WalkLemmas.{table_read}

-- where nothing stands, the list is no longer
pub nothing_there : {X : Type 0} (xs : List X) (i : ℕ) → slice_get xs i ≡ None → length xs ≤ i
nothing_there [] i h = omega arith
nothing_there (x ∷ xs) zero h = absurd (cc)
nothing_there (x ∷ xs) (suc i) h = let later : length xs ≤ i = nothing_there xs i h in omega arith

each_there : {X : Type 0} (P : X → Type 0) (xs : List X) (i : ℕ) (x : X) → AllByRecursion P xs → slice_get xs i ≡ Some x → P x
each_there P [] i x h e = absurd (cc)
each_there P (y ∷ xs) zero x h e = let same : y ≡ x = cc in subst P same h.0
each_there P (y ∷ xs) (suc i) x h e = each_there P xs i x h.1 e

pub taken_all : {X : Type 0} (xs : List X) (i : ℕ) → length xs ≤ i → take i xs ≡ xs
taken_all [] zero h = refl
taken_all [] (suc i) h = refl
taken_all (x ∷ xs) zero h = absurd (omega arith)
taken_all (x ∷ xs) (suc i) h = ap (λ l. x ∷ l) (taken_all xs i (omega (arith, h)))

-- ---- a table at an index

pub table_named : (s : Document) (i : ℕ) (id : List ℕ) → table_at s i ≡ Some id → id ≡ (table_in s i).id
table_named s i id h = let t = table_read s i id h in t.2 ∙ ap table_id (sym (get_or_from_slice_get s i t.0 no_table t.1))

pub grid_found : (s : Document) (id : List ℕ) (t : Table) → find_id table_id id s ≡ Some t → grid_at s id ≡ t.grid
grid_found s id t e = ap (λ (o : Option Table). elim o as (λ _. Grid ColDef) [ None ↦ no_grid | Some t ↦ t.grid ]) e

pub table_grid : (s : Document) → IsWhole s → (i : ℕ) (id : List ℕ) → table_at s i ≡ Some id → grid_at s id ≡ (table_in s i).grid
table_grid s whole i id h =
    let t = table_read s i id h in
    ap (grid_at s) t.2
    ∙ grid_found s t.0.id t.0 (each_there (λ t. find_id table_id t.id s ≡ Some t) s i t.0 (each_found table_id (λ t. find_id table_id t.id s ≡ Some t) s whole.sound.distinct (λ t found. found)) t.1)
    ∙ ap (λ (t : Table). t.grid) (sym (get_or_from_slice_get s i t.0 no_table t.1))

pub no_table_past : (s : Document) (i : ℕ) → table_at s i ≡ None → length s ≤ i
no_table_past s i h = nothing_there s i (Rattle.user_actions.proofs.WalkLemmas.table_past s i h)

-- ---- how many tables there are

plain_tables-only : (r u : Grid ColDef) (p : List Table) → AllByRecursion (λ t. is_metadata_id t.id ≡ false) p → filter (λ (t : Table). not (is_metadata_id t.id)) (with_schema r u p) ≡ p
unfolding tables_id columns_id resources_id rules_id
plain_tables-only r u p h = filter_all (λ (t : Table). not (is_metadata_id t.id)) p (each_weaker (λ t. is_metadata_id t.id ≡ false) (λ t. not (is_metadata_id t.id) ≡ true) (λ t e. ap not e) p h)

table_rows : (r u : Grid ColDef) (p : List Table) → (grid_at (with_schema r u p) tables_id).rows ≡ map table_row p
unfolding tables_id
table_rows r u p = refl

rows_told : (s : Document) → IsWhole s → length (grid_at s tables_id).rows ≡ length (plain_tables s)
rows_told s whole =
    ap (λ d. length (grid_at d tables_id).rows) whole.agrees.schema
    ∙ ap length (table_rows (resources s) (rules s) (plain_tables s))
    ∙ length_map table_row (plain_tables s)

pub tables_counted : (s : Document) → IsWhole s → length (grid_at s tables_id).rows ≡ (counts s).tables
tables_counted s whole =
    rows_told s whole
    ∙ ap length (sym (plain_tables-only (resources s) (rules s) (plain_tables s) (good_from s whole).plain))
    ∙ ap (λ d. (counts d).tables) (sym whole.agrees.schema)

pub tables_told : (s : Document) → IsWhole s → length s ≡ length (grid_at s tables_id).rows + 4
tables_told s whole =
    let all : length s ≡ length (with_schema (resources s) (rules s) (plain_tables s)) = ap length whole.agrees.schema in
    let told : length (grid_at s tables_id).rows ≡ length (plain_tables s) = rows_told s whole in
    omega (arith, all, told)

-- ---- weights

pub rows_weight-columns : (g : Grid ColDef) (rows : List ℕ) → sum_of (λ (d : ColDef). column_weight g rows d.id) g.columns ≡ rows_weight g rows
rows_weight-columns g rows = total-swap (λ (d : ColDef) r. value_weight (cell column_id g d.id r)) g.columns rows

no_grid_sound : grid_weight no_grid ≡ rows_weight no_grid [] + sum_of formula_bytes []
no_grid_sound = refl

pub grid_weight-parts : (s : Document) → IsWhole s → (id : List ℕ) → grid_weight (grid_at s id) ≡ rows_weight (grid_at s id) (grid_at s id).rows + sum_of formula_bytes (grid_at s id).columns
grid_weight-parts s whole id =
    elim (find_id table_id id s) as (λ (o : Option Table). find_id table_id id s ≡ o → let g : Grid ColDef = elim o as (λ _. Grid ColDef) [ None ↦ no_grid | Some t ↦ t.grid ] in grid_weight g ≡ rows_weight g g.rows + sum_of formula_bytes g.columns) [
      | None ↦ λ _. no_grid_sound
      | Some t ↦ λ e. grid_weight-own t.grid (found_all table_id (λ t. IsSoundGrid t.grid) id s t whole.sound.grids e).is_grid
    ] refl

-- ---- counts past 64 bits

pub capped_above : (b n : ℕ) → b < 2 ^ 64 - 1 → ltb b (capped n) ≡ ltb b n
capped_above b n small = elim (ltb b n) as (λ c. ltb b n ≡ c → ltb b (capped n) ≡ c) [
  | true ↦ λ is. let lt : b < n = ltb-true b n is in lt-ltb b (capped n) (grind arith)
  | false ↦ λ is. let ge : n ≤ b = ltb-false b n is in le-ltb b (capped n) (grind arith)
] refl

pub passed_capped : (kind : LimitKind) (n : ℕ) (next : Option LimitKind) → bound_of kind < 2 ^ 64 - 1 → passed kind (capped n) next ≡ passed kind n next
passed_capped kind n next small = ap (λ b. cond b (Some kind) next) (capped_above (bound_of kind) n small)
