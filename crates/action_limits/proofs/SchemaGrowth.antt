-- Counts after an action that adds a table or a column.
use Rattle.std.proofs.Common.{ℕ, suc, true, false, cond, ◌+◌, ◌<◌, ◌≤◌, max, List, [], ◌∷◌, ◌++◌, map, length, length-append, ◌≡◌, refl, sym, ap, subst, ◌∙◌, Option, Some, None, arith, ltb}
use Rattle.std.proofs.lemmas.Bool.{and_parts, true≢false}
use Rattle.std.proofs.lemmas.Slice.Eq.{bytes_eq-Decides}
use Rattle.std.specs.List.{AllByRecursion}
use Rattle.std.specs.Str.{bytes_eq}
use Rattle.doc_model.specs.declared.action.DocAction.{DocAction}
use Rattle.doc_model.specs.declared.action.DocAction.TheVariants as action
use Rattle.doc_model.specs.declared.column.ColDef.{ColDef}
use Rattle.doc_model.specs.declared.user_action.UserAction.{UserAction}
use Rattle.doc_model.specs.declared.user_action.UserAction.TheVariants.{Add, Update, Remove, AddTable, RemoveTable, RenameTable, AddColumn, RemoveColumn, RenameColumn, ModifyColumn}
use Rattle.doc_model.specs.declared.user_action.UserCol.{UserCol}
use Rattle.doc_model.specs.Apply.{all_valid, apply}
use Rattle.doc_model.specs.ByIds.{find_id}
use Rattle.doc_model.specs.Column.{column_row}
use Rattle.doc_model.specs.CountLaws.{Sums, SumsMove, sums_added, nothing}
use Rattle.doc_model.specs.Counts.{counts, formula_bytes, greatest}
use Rattle.doc_model.specs.Document.{Document, Table, table_id}
use Rattle.doc_model.specs.DocumentLaws.{IsWhole}
use Rattle.doc_model.specs.Grid.{Grid}
use Rattle.doc_model.specs.MetadataIds.{columns_id, tables_id}
use Rattle.doc_model.specs.MaximaLaws.{AreGreatest, Maxima, at_schema, maxima_after, maxima_then}
use Rattle.doc_model.specs.Rows.{without}
use Rattle.doc_model.specs.Schema.{plain_tables, resources, rules, with_schema}
use Rattle.doc_model.specs.Valid.{valid}
use Rattle.doc_model.proofs.ByIdsLaws.{bytes_itself, found_all, found_id}
use Rattle.doc_model.proofs.Choices.{each_both, each_weaker}
use Rattle.doc_model.proofs.MaximaSums.{without-none}
use Rattle.doc_model.proofs.SchemaCounts.{counts-apply}
use Rattle.doc_model.proofs.SchemaMaxima.{maxima-apply}
use Rattle.doc_model.proofs.WholeLaws.{tables_columns_apart}
use Rattle.doc_readers.specs.Parts.{grid_at}
use Rattle.action_limits.specs.declared.limits.Counted.{Counted}
use Rattle.action_limits.specs.Brought.{rows_described}
use Rattle.action_limits.specs.Capped.{capped}
use Rattle.action_limits.specs.Grown.{AreMaximaDescribed, AreMaximaGrown, grows_schema, new_tables}
use Rattle.user_actions.specs.StepLaws.{action_of}
use Rattle.user_actions.specs.Steps.{column_said, last_new_row, last_row, new_columns, steps_of, table_ids, table_said}
use Rattle.action_limits.specs.Tallies.{after}
use Rattle.action_limits.proofs.AddMoves.{found_below, grids_found, known_below, mapped_below, table_there}
use Rattle.action_limits.proofs.CountedLemmas.{capped_above, grid_found}
use Rattle.action_limits.proofs.ExpansionLemmas.{has_named-valid}
use Rattle.action_limits.proofs.MaximaMoves.{never-less}
use Rattle.action_limits.proofs.Rising.{TellsMore, same_side}
use Rattle.action_limits.proofs.SumLemmas.{greatest-append, greatest-cons}

-- ---- the schema tables are there

first_found : (r u : Grid ColDef) (p : List Table) → (t : Table) × (find_id table_id tables_id (with_schema r u p) ≡ Some t)
unfolding tables_id
first_found r u p = (_, refl)

second_found : (r u : Grid ColDef) (p : List Table) → (t : Table) × (find_id table_id columns_id (with_schema r u p) ≡ Some t)
unfolding tables_id columns_id
second_found r u p = (_, refl)

tables_found : (s : Document) → IsWhole s → (t : Table) × (find_id table_id tables_id s ≡ Some t)
tables_found s whole = subst (λ d. (t : Table) × (find_id table_id tables_id d ≡ Some t)) (sym whole.agrees.schema) (first_found (resources s) (rules s) (plain_tables s))

columns_found : (s : Document) → IsWhole s → (t : Table) × (find_id table_id columns_id s ≡ Some t)
columns_found s whole = subst (λ d. (t : Table) × (find_id table_id columns_id d ≡ Some t)) (sym whole.agrees.schema) (second_found (resources s) (rules s) (plain_tables s))

turned : (a b : List ℕ) → bytes_eq a b ≡ true → bytes_eq b a ≡ true
turned a b h = (bytes_eq-Decides b a).1 (sym ((bytes_eq-Decides a b).0 h))

-- ---- rows that come to the schema tables

module _ (s : Document) (whole : IsWhole s) (xs ys : List ℕ) where
  abbrev there : Table → List ℕ
  there t = at_schema t.id xs ys ++ without [] t.grid.rows

  length_there : (t : Table) → length (there t) ≡ length (at_schema t.id xs ys) + length t.grid.rows
  length_there t = length-append (at_schema t.id xs ys) (without [] t.grid.rows) ∙ ap (λ q. length (at_schema t.id xs ys) + length q) (without-none t.grid.rows)

  greatest_there : (t : Table) → greatest (there t) ≡ max (greatest (at_schema t.id xs ys)) (greatest t.grid.rows)
  greatest_there t = greatest-append (at_schema t.id xs ys) (without [] t.grid.rows) ∙ ap (λ q. max (greatest (at_schema t.id xs ys)) (greatest q)) (without-none t.grid.rows)

  rows_one : (b : ℕ) (t : Table) → length t.grid.rows ≤ b → (bytes_eq t.id tables_id ≡ true → grid_at s tables_id ≡ t.grid) → (bytes_eq t.id columns_id ≡ true → grid_at s columns_id ≡ t.grid)
      → length (there t) ≤ max b (max (length (grid_at s tables_id).rows + length xs) (length (grid_at s columns_id).rows + length ys))
  rows_one b t small first second =
      let n : ℕ = max (length (grid_at s tables_id).rows + length xs) (length (grid_at s columns_id).rows + length ys) in
      subst (λ m. m ≤ max b n) (sym (length_there t))
      (elim (bytes_eq tables_id t.id) as (λ c. bytes_eq tables_id t.id ≡ c → length (cond c xs (cond (bytes_eq columns_id t.id) ys [])) + length t.grid.rows ≤ max b n) [
        | true ↦ λ is. let e : length (grid_at s tables_id).rows ≡ length t.grid.rows = ap (λ (g : Grid ColDef). length g.rows) (first (turned tables_id t.id is)) in grind arith
        | false ↦ λ _. elim (bytes_eq columns_id t.id) as (λ c. bytes_eq columns_id t.id ≡ c → length (cond c ys []) + length t.grid.rows ≤ max b n) [
          | true ↦ λ is. let e : length (grid_at s columns_id).rows ≡ length t.grid.rows = ap (λ (g : Grid ColDef). length g.rows) (second (turned columns_id t.id is)) in grind arith
          | false ↦ λ _. grind arith
        ] refl
      ] refl)

  pub rows_each : (b : ℕ) → (counts s).rows ≤ b → AllByRecursion (λ t. length (there t) ≤ max b (max (length (grid_at s tables_id).rows + length xs) (length (grid_at s columns_id).rows + length ys))) s
  rows_each b le =
      each_weaker (λ t. (length t.grid.rows ≤ b) × ((bytes_eq t.id tables_id ≡ true → grid_at s tables_id ≡ t.grid) × (bytes_eq t.id columns_id ≡ true → grid_at s columns_id ≡ t.grid)))
      (λ t. length (there t) ≤ max b (max (length (grid_at s tables_id).rows + length xs) (length (grid_at s columns_id).rows + length ys))) (λ t k. rows_one b t k.0 k.1.0 k.1.1) s
      (each_both (λ t. length t.grid.rows ≤ b) (λ t. (bytes_eq t.id tables_id ≡ true → grid_at s tables_id ≡ t.grid) × (bytes_eq t.id columns_id ≡ true → grid_at s columns_id ≡ t.grid)) s (known_below s (λ (t : Table). length t.grid.rows) b le)
      (each_both (λ t. bytes_eq t.id tables_id ≡ true → grid_at s tables_id ≡ t.grid) (λ t. bytes_eq t.id columns_id ≡ true → grid_at s columns_id ≡ t.grid) s (grids_found s whole tables_id) (grids_found s whole columns_id)))

  -- what stands in the schema tables after it
  first_at : at_schema tables_id xs ys ≡ xs
  first_at = ap (λ c. cond c xs (cond (bytes_eq columns_id tables_id) ys [])) (bytes_itself tables_id)

  second_at : at_schema columns_id xs ys ≡ ys
  second_at = ap (λ c. cond c xs (cond (bytes_eq columns_id columns_id) ys [])) tables_columns_apart ∙ ap (λ c. cond c ys []) (bytes_itself columns_id)

  pub rows_first : (t : Table) → find_id table_id tables_id s ≡ Some t → length (there t) ≡ length (grid_at s tables_id).rows + length xs
  rows_first t found =
      let own : length (grid_at s tables_id).rows ≡ length t.grid.rows = ap (λ (g : Grid ColDef). length g.rows) (grid_found s tables_id t found) in
      let all : length (there t) ≡ length xs + length t.grid.rows = length_there t ∙ ap (λ i. length (at_schema i xs ys) + length t.grid.rows) (found_id table_id tables_id s t found) ∙ ap (λ q. length q + length t.grid.rows) first_at in
      omega (arith, own, all)

  pub rows_second : (t : Table) → find_id table_id columns_id s ≡ Some t → length (there t) ≡ length (grid_at s columns_id).rows + length ys
  rows_second t found =
      let own : length (grid_at s columns_id).rows ≡ length t.grid.rows = ap (λ (g : Grid ColDef). length g.rows) (grid_found s columns_id t found) in
      let all : length (there t) ≡ length ys + length t.grid.rows = length_there t ∙ ap (λ i. length (at_schema i xs ys) + length t.grid.rows) (found_id table_id columns_id s t found) ∙ ap (λ q. length q + length t.grid.rows) second_at in
      omega (arith, own, all)

  pub ids_each : (b n : ℕ) → (counts s).row_id ≤ b → greatest xs ≤ n → greatest ys ≤ n → AllByRecursion (λ t. greatest (there t) ≤ max b n) s
  ids_each b n le one two =
      each_weaker (λ t. greatest t.grid.rows ≤ b) (λ t. greatest (there t) ≤ max b n) (λ t k. ids_one t k) s (known_below s (λ (t : Table). greatest t.grid.rows) b le)
    where
      ids_one : (t : Table) → greatest t.grid.rows ≤ b → greatest (there t) ≤ max b n
      ids_one t small =
          subst (λ m. m ≤ max b n) (sym (greatest_there t))
          (elim (bytes_eq tables_id t.id) as (λ c. max (greatest (cond c xs (cond (bytes_eq columns_id t.id) ys []))) (greatest t.grid.rows) ≤ max b n) [
            | true ↦ grind arith
            | false ↦ elim (bytes_eq columns_id t.id) as (λ c. max (greatest (cond c ys [])) (greatest t.grid.rows) ≤ max b n) [ true ↦ grind arith | false ↦ grind arith ]
          ])

  pub ids_first : (t : Table) → find_id table_id tables_id s ≡ Some t → greatest xs ≤ greatest (there t)
  ids_first t found =
      let all : greatest (there t) ≡ max (greatest xs) (greatest t.grid.rows) = greatest_there t ∙ ap (λ i. max (greatest (at_schema i xs ys)) (greatest t.grid.rows)) (found_id table_id tables_id s t found) ∙ ap (λ q. max (greatest q) (greatest t.grid.rows)) first_at in
      grind arith

  pub ids_second : (t : Table) → find_id table_id columns_id s ≡ Some t → greatest ys ≤ greatest (there t)
  ids_second t found =
      let all : greatest (there t) ≡ max (greatest ys) (greatest t.grid.rows) = greatest_there t ∙ ap (λ i. max (greatest (at_schema i xs ys)) (greatest t.grid.rows)) (found_id table_id columns_id s t found) ∙ ap (λ q. max (greatest q) (greatest t.grid.rows)) second_at in
      grind arith

last_below : (s : Document) → (id : List ℕ) (t : Table) → find_id table_id id s ≡ Some t → (b : ℕ) → (counts s).row_id ≤ b → last_row s id ≤ b
last_below s id t found b le =
    subst (λ (g : Grid ColDef). greatest g.rows ≤ b) (sym (grid_found s id t found))
    (found_all table_id (λ t. greatest t.grid.rows ≤ b) id s t (known_below s (λ (t : Table). greatest t.grid.rows) b le) found)

capped_max : (m n : ℕ) → max (capped m) (capped n) ≡ capped (max m n)
capped_max m n = grind arith

max_zero : (n : ℕ) → max 0 n ≡ n
max_zero n = grind arith

-- the rows and row ids of a document whose maxima are those, one of which may be of no rows
module _ (s : Document) (whole : IsWhole s) (xs ys : List ℕ) (h : Table → Maxima) (rows_are : (t : Table) → (h t).rows ≡ length (there s whole xs ys t)) (ids_are : (t : Table) → (h t).row_id ≡ greatest (there s whole xs ys t)) where
  rows_side : (b n : ℕ) → (counts s).rows ≤ b → n ≡ greatest (map (λ (p : Maxima). p.rows) (map h s)) → ltb b (max (length (grid_at s tables_id).rows + length xs) (length (grid_at s columns_id).rows + length ys)) ≡ ltb b n
  rows_side b n le is =
      let m : ℕ = max (length (grid_at s tables_id).rows + length xs) (length (grid_at s columns_id).rows + length ys) in
      let up : n ≤ max b m = subst (λ k. k ≤ max b m) (sym is) (mapped_below (λ (p : Maxima). p.rows) h (max b m) s
      (each_weaker (λ t. length (there s whole xs ys t) ≤ max b m) (λ t. (h t).rows ≤ max b m) (λ t k. subst (λ q. q ≤ max b m) (sym (rows_are t)) k) s (rows_each s whole xs ys b le))) in
      let one : (t : Table) × (find_id table_id tables_id s ≡ Some t) = tables_found s whole in
      let two : (t : Table) × (find_id table_id columns_id s ≡ Some t) = columns_found s whole in
      let first : (h one.0).rows ≤ n = subst (λ k. (h one.0).rows ≤ k) (sym is) (found_below (λ (p : Maxima). p.rows) h s tables_id one.0 one.1) in
      let second : (h two.0).rows ≤ n = subst (λ k. (h two.0).rows ≤ k) (sym is) (found_below (λ (p : Maxima). p.rows) h s columns_id two.0 two.1) in
      let e : (h one.0).rows ≡ length (grid_at s tables_id).rows + length xs = rows_are one.0 ∙ rows_first s whole xs ys one.0 one.1 in
      let f : (h two.0).rows ≡ length (grid_at s columns_id).rows + length ys = rows_are two.0 ∙ rows_second s whole xs ys two.0 two.1 in
      same_side b m n up (grind arith)

  ids_side : (b m n : ℕ) → (counts s).row_id ≤ b → n ≡ greatest (map (λ (p : Maxima). p.row_id) (map h s)) → greatest xs ≤ m → greatest ys ≤ m → m ≤ max b (max (greatest xs) (greatest ys)) → ltb b m ≡ ltb b n
  ids_side b m n le is small_xs small_ys from =
      let up : n ≤ max b m = subst (λ k. k ≤ max b m) (sym is) (mapped_below (λ (p : Maxima). p.row_id) h (max b m) s
      (each_weaker (λ t. greatest (there s whole xs ys t) ≤ max b m) (λ t. (h t).row_id ≤ max b m) (λ t k. subst (λ q. q ≤ max b m) (sym (ids_are t)) k) s (ids_each s whole xs ys b m le small_xs small_ys))) in
      let one : (t : Table) × (find_id table_id tables_id s ≡ Some t) = tables_found s whole in
      let two : (t : Table) × (find_id table_id columns_id s ≡ Some t) = columns_found s whole in
      let first : (h one.0).row_id ≤ n = subst (λ k. (h one.0).row_id ≤ k) (sym is) (found_below (λ (p : Maxima). p.row_id) h s tables_id one.0 one.1) in
      let second : (h two.0).row_id ≤ n = subst (λ k. (h two.0).row_id ≤ k) (sym is) (found_below (λ (p : Maxima). p.row_id) h s columns_id two.0 two.1) in
      let e : greatest xs ≤ (h one.0).row_id = subst (λ k. greatest xs ≤ k) (sym (ids_are one.0)) (ids_first s whole xs ys one.0 one.1) in
      let f : greatest ys ≤ (h two.0).row_id = subst (λ k. greatest ys ≤ k) (sym (ids_are two.0)) (ids_second s whole xs ys two.0 two.1) in
      same_side b m n up (grind arith)

-- ---- new columns

length-new_columns : (taken : List (List ℕ)) (row : ℕ) (cs : List UserCol) → length (new_columns taken row cs) ≡ length cs
length-new_columns taken row [] = refl
length-new_columns taken row (c ∷ cs) = ap suc (length-new_columns (taken ++ Rattle.name_rules.specs.FreeName.free_name taken c.id ∷ []) (row + 1) cs)

length-rows : (ds : List ColDef) → length (map column_row ds) ≡ length ds
length-rows [] = refl
length-rows (d ∷ ds) = ap suc (length-rows ds)

greatest-new_columns : (b : ℕ) (taken : List (List ℕ)) (row : ℕ) (cs : List UserCol) → (greatest (map column_row (new_columns taken row cs)) ≤ row + length cs) × (row ≤ b → row + length cs ≤ max b (greatest (map column_row (new_columns taken row cs))))
greatest-new_columns b taken row [] = (omega arith, λ h. grind arith)
greatest-new_columns b taken row (c ∷ cs) =
    let rest : List ℕ = map column_row (new_columns (taken ++ Rattle.name_rules.specs.FreeName.free_name taken c.id ∷ []) (row + 1) cs) in
    let e : greatest ((row + 1) ∷ rest) ≡ max (row + 1) (greatest rest) = greatest-cons (row + 1) rest in
    let later : (greatest rest ≤ row + 1 + length cs) × (row + 1 ≤ row + 1 → row + 1 + length cs ≤ max (row + 1) (greatest rest)) = greatest-new_columns (row + 1) (taken ++ Rattle.name_rules.specs.FreeName.free_name taken c.id ∷ []) (row + 1) cs in
    let up : greatest rest ≤ row + 1 + length cs = later.0 in
    let low : row + 1 + length cs ≤ max (row + 1) (greatest rest) = later.1 (omega arith) in
    (grind arith, λ h. grind arith)

-- ---- the two actions

module _ (s : Document) (whole : IsWhole s) (table : List ℕ) (row : ℕ) (ds : List ColDef) (v : valid s (action.AddTable table row ds) ≡ true) where
  abbrev added : DocAction
  added = action.AddTable table row ds

  most : AreGreatest (counts (apply s added)) (maxima_after s added)
  most = maxima-apply s added whole v

  pub table_columns : (counts s).columns ≤ 1024 → ltb 1024 (length ds) ≡ ltb 1024 (counts (apply s added)).columns
  table_columns le =
      let gc : ℕ = greatest (map (λ (p : Maxima). p.columns) (map (maxima_then s added) s)) in
      let told : (counts (apply s added)).columns ≡ max (length ds) gc = most.columns ∙ greatest-cons (length ds) (map (λ (p : Maxima). p.columns) (map (maxima_then s added) s)) in
      let old_wide : gc ≤ 1024 = mapped_below (λ (p : Maxima). p.columns) (maxima_then s added) 1024 s (known_below s (λ (t : Table). length t.grid.columns) 1024 le) in
      same_side 1024 (length ds) (counts (apply s added)).columns (grind arith) (grind arith)

  pub table_rows : (counts s).rows ≤ 1000000 → ltb 1000000 (rows_described s 1 (length ds)) ≡ ltb 1000000 (counts (apply s added)).rows
  table_rows le =
      let gr : ℕ = greatest (map (λ (p : Maxima). p.rows) (map (maxima_then s added) s)) in
      let told : (counts (apply s added)).rows ≡ gr = most.rows ∙ greatest-cons 0 (map (λ (p : Maxima). p.rows) (map (maxima_then s added) s)) ∙ max_zero gr in
      ap (ltb 1000000) (capped_max (length (grid_at s tables_id).rows + 1) (length (grid_at s columns_id).rows + length ds))
      ∙ capped_above 1000000 (max (length (grid_at s tables_id).rows + 1) (length (grid_at s columns_id).rows + length ds)) (omega arith)
      ∙ ap (λ n. ltb 1000000 (max (length (grid_at s tables_id).rows + 1) (length (grid_at s columns_id).rows + n))) (sym (length-rows ds))
      ∙ rows_side s whole (row ∷ []) (map column_row ds) (maxima_then s added) (λ t. refl) (λ t. refl) 1000000 (counts (apply s added)).rows le told

  pub table_row_ids : (n : ℕ) → (counts s).row_id ≤ 4294967295 → row ≤ n → greatest (map column_row ds) ≤ n → n ≤ max 4294967295 (max row (greatest (map column_row ds))) → ltb 4294967295 n ≡ ltb 4294967295 (counts (apply s added)).row_id
  table_row_ids n le first second from =
      let gi : ℕ = greatest (map (λ (p : Maxima). p.row_id) (map (maxima_then s added) s)) in
      let told : (counts (apply s added)).row_id ≡ gi = most.row_id ∙ greatest-cons 0 (map (λ (p : Maxima). p.row_id) (map (maxima_then s added) s)) ∙ max_zero gi in
      let single : greatest (row ∷ []) ≡ max row 0 = greatest-cons row [] in
      ids_side s whole (row ∷ []) (map column_row ds) (maxima_then s added) (λ t. refl) (λ t. refl) 4294967295 n (counts (apply s added)).row_id le told (grind arith) second (grind arith)

module _ (s : Document) (whole : IsWhole s) (table : List ℕ) (d : ColDef) (v : valid s (action.AddColumn table d) ≡ true) where
  abbrev beside : DocAction
  beside = action.AddColumn table d

  most_beside : AreGreatest (counts (apply s beside)) (maxima_after s beside)
  most_beside = maxima-apply s beside whole v

  columns_one : (t : Table) → length t.grid.columns ≤ 1024 → (bytes_eq t.id table ≡ true → grid_at s table ≡ t.grid)
      → length t.grid.columns + cond (bytes_eq t.id table) 1 0 ≤ max 1024 (length (grid_at s table).columns + 1)
  columns_one t small own = elim (bytes_eq t.id table) as (λ c. bytes_eq t.id table ≡ c → length t.grid.columns + cond c 1 0 ≤ max 1024 (length (grid_at s table).columns + 1)) [
    | true ↦ λ is. let e : length (grid_at s table).columns ≡ length t.grid.columns = ap (λ (g : Grid ColDef). length g.columns) (own is) in grind arith
    | false ↦ λ _. grind arith
  ] refl

  pub column_columns : (counts s).columns ≤ 1024 → ltb 1024 (capped (length (grid_at s table).columns + 1)) ≡ ltb 1024 (counts (apply s beside)).columns
  column_columns le =
      let n : ℕ = length (grid_at s table).columns + 1 in
      let mine : (t : Table) × (find_id table_id table s ≡ Some t) = table_there s table (has_named-valid s beside v) in
      let here : length mine.0.grid.columns + cond (bytes_eq mine.0.id table) 1 0 ≤ (counts (apply s beside)).columns
      = subst (λ k. length mine.0.grid.columns + cond (bytes_eq mine.0.id table) 1 0 ≤ k) (sym most_beside.columns) (found_below (λ (p : Maxima). p.columns) (maxima_then s beside) s table mine.0 mine.1) in
      let is : ◌≡◌ {A = ℕ} (cond (bytes_eq mine.0.id table) 1 0) 1 = ap (λ c. let k : ℕ = cond c 1 0 in k) (ap (λ n. bytes_eq n table) (found_id table_id table s mine.0 mine.1) ∙ bytes_itself table) in
      let own : length (grid_at s table).columns ≡ length mine.0.grid.columns = ap (λ (g : Grid ColDef). length g.columns) (grid_found s table mine.0 mine.1) in
      let low : n ≤ (counts (apply s beside)).columns = omega (arith, here, is, own) in
      let up : (counts (apply s beside)).columns ≤ max 1024 n = subst (λ k. k ≤ max 1024 n) (sym most_beside.columns) (mapped_below (λ (p : Maxima). p.columns) (maxima_then s beside) (max 1024 n) s
      (each_weaker (λ t. (length t.grid.columns ≤ 1024) × (bytes_eq t.id table ≡ true → grid_at s table ≡ t.grid)) (λ t. length t.grid.columns + cond (bytes_eq t.id table) 1 0 ≤ max 1024 n) (λ t k. columns_one t k.0 k.1) s
      (each_both (λ t. length t.grid.columns ≤ 1024) (λ t. bytes_eq t.id table ≡ true → grid_at s table ≡ t.grid) s (known_below s (λ (t : Table). length t.grid.columns) 1024 le) (grids_found s whole table)))) in
      capped_above 1024 n (omega arith) ∙ same_side 1024 n (counts (apply s beside)).columns up (grind arith)

  pub column_rows : (counts s).rows ≤ 1000000 → ltb 1000000 (rows_described s 0 1) ≡ ltb 1000000 (counts (apply s beside)).rows
  column_rows le =
      ap (ltb 1000000) (capped_max (length (grid_at s tables_id).rows + 0) (length (grid_at s columns_id).rows + 1))
      ∙ capped_above 1000000 (max (length (grid_at s tables_id).rows + 0) (length (grid_at s columns_id).rows + 1)) (omega arith)
      ∙ rows_side s whole [] (d.row ∷ []) (maxima_then s beside) (λ t. refl) (λ t. refl) 1000000 (counts (apply s beside)).rows le most_beside.rows

  pub column_ids : (counts s).row_id ≤ 4294967295 → ltb 4294967295 d.row ≡ ltb 4294967295 (counts (apply s beside)).row_id
  column_ids le =
      let single : greatest (d.row ∷ []) ≡ max d.row 0 = greatest-cons d.row [] in
      ids_side s whole [] (d.row ∷ []) (maxima_then s beside) (λ t. refl) (λ t. refl) 4294967295 d.row (counts (apply s beside)).row_id le most_beside.row_id (omega arith) (grind arith) (grind arith)

-- ---- user actions

table_maxima : (s : Document) (table : List ℕ) (cs : List UserCol) (e : Counted) → IsWhole s → valid s (table_said s table cs) ≡ true → AreMaximaDescribed s (length cs) 1 (length cs) e → TellsMore e s (apply s (table_said s table cs))
table_maxima s table cs e whole v told =
    let id : List ℕ = Rattle.name_rules.specs.FreeName.free_name (table_ids s) table in
    let row : ℕ = last_row s tables_id + 1 in
    let ds : List ColDef = new_columns [] (last_row s columns_id) cs in
    let wide : length ds ≡ length cs = length-new_columns [] (last_row s columns_id) cs in
    let one : (t : Table) × (find_id table_id columns_id s ≡ Some t) = columns_found s whole in
    let facts : (greatest (map column_row ds) ≤ last_row s columns_id + length cs) × (last_row s columns_id ≤ 4294967295 → last_row s columns_id + length cs ≤ max 4294967295 (greatest (map column_row ds))) = greatest-new_columns 4294967295 [] (last_row s columns_id) cs in
    let up : greatest (map column_row ds) ≤ last_row s columns_id + length cs = facts.0 in
    let last : ℕ = max row (last_row s columns_id + length cs) in
    record {
      columns = λ le. ap (ltb 1024) (told.columns ∙ sym wide) ∙ table_columns s whole id row ds v le;
      rows = λ le. ap (ltb 1000000) (told.rows ∙ ap (rows_described s 1) (sym wide)) ∙ table_rows s whole id row ds v le;
      row_id = λ le.
          let low : last_row s columns_id + length cs ≤ max 4294967295 (greatest (map column_row ds)) = facts.1 (last_below s columns_id one.0 one.1 4294967295 le) in
          ap (ltb 4294967295) (told.row_id ∙ capped_max row (last_row s columns_id + length cs))
          ∙ capped_above 4294967295 last (omega arith)
          ∙ table_row_ids s whole id row ds v last le (grind arith) (grind arith) (grind arith);
      less = never-less s (table_said s table cs) whole v refl;
    }

column_maxima : (s : Document) (table : List ℕ) (d : ColDef) (e : Counted) → IsWhole s → valid s (action.AddColumn table d) ≡ true → d.row ≡ last_row s columns_id + 1
    → AreMaximaDescribed s (capped (length (grid_at s table).columns + 1)) 0 1 e → TellsMore e s (apply s (action.AddColumn table d))
column_maxima s table d e whole v row told =
    let one : (t : Table) × (find_id table_id tables_id s ≡ Some t) = tables_found s whole in
    let last : ℕ = max (last_row s tables_id + 0) (last_row s columns_id + 1) in
    record {
      columns = λ le. ap (ltb 1024) told.columns ∙ column_columns s whole table d v le;
      rows = λ le. ap (ltb 1000000) told.rows ∙ column_rows s whole table d v le;
      row_id = λ le.
          let first : last_row s tables_id ≤ 4294967295 = last_below s tables_id one.0 one.1 4294967295 le in
          ap (ltb 4294967295) (told.row_id ∙ capped_max (last_row s tables_id + 0) (last_row s columns_id + 1))
          ∙ capped_above 4294967295 last (omega arith)
          ∙ same_side 4294967295 last d.row (grind arith) (grind arith)
          ∙ column_ids s whole table d v le;
      less = never-less s (action.AddColumn table d) whole v refl;
    }

pub grown_maxima : (s : Document) (a : UserAction) (e : Counted) → IsWhole s → grows_schema a ≡ true → all_valid s (map action_of (steps_of s a)) ≡ true → AreMaximaGrown s a e → TellsMore e s (after s a)
grown_maxima s (AddTable table cs) e whole grows v told = table_maxima s table cs e whole (and_parts (valid s (table_said s table cs)) true v).0 told
grown_maxima s (AddColumn table c) e whole grows v told = column_maxima s table (column_said s table c) e whole (and_parts (valid s (action.AddColumn table (column_said s table c))) true v).0 refl told
grown_maxima s (Add table single n has_row_ids ks) e whole grows v told = absurd (true≢false (sym grows))
grown_maxima s (Update table single rows ks) e whole grows v told = absurd (true≢false (sym grows))
grown_maxima s (Remove table single rows) e whole grows v told = absurd (true≢false (sym grows))
grown_maxima s (RemoveTable table) e whole grows v told = absurd (true≢false (sym grows))
grown_maxima s (RenameTable table new) e whole grows v told = absurd (true≢false (sym grows))
grown_maxima s (RemoveColumn table column) e whole grows v told = absurd (true≢false (sym grows))
grown_maxima s (RenameColumn table column new) e whole grows v told = absurd (true≢false (sym grows))
grown_maxima s (ModifyColumn table c) e whole grows v told = absurd (true≢false (sym grows))

-- how many tables there are after it
pub grown_tables : (s : Document) (a : UserAction) → IsWhole s → grows_schema a ≡ true → all_valid s (map action_of (steps_of s a)) ≡ true → (counts (after s a)).tables ≡ (counts s).tables + new_tables a
grown_tables s (AddTable table cs) whole grows v =
    let moved : SumsMove s (apply s (table_said s table cs)) (table_said s table cs) = counts-apply s (table_said s table cs) whole (and_parts (valid s (table_said s table cs)) true v).0 in
    let sums : (counts (apply s (table_said s table cs))).tables + 0 ≡ (counts s).tables + 1 = moved.tables in
    omega (arith, sums)
grown_tables s (AddColumn table c) whole grows v =
    let act : DocAction = action.AddColumn table (column_said s table c) in
    let moved : SumsMove s (apply s act) act = counts-apply s act whole (and_parts (valid s act) true v).0 in
    let none : (sums_added s act).tables ≡ 0 = elim (find_id table_id table s) as (λ (o : Option Table). (elim o as (λ _. Sums) [ None ↦ nothing | Some t ↦ record { tables = 0; cells = length t.grid.rows; weight = formula_bytes (column_said s table c) } ]).tables ≡ 0) [ None ↦ refl | Some t ↦ refl ] in
    let sums : (counts (apply s act)).tables + 0 ≡ (counts s).tables + (sums_added s act).tables = moved.tables in
    omega (arith, sums, none)
grown_tables s (Add table single n has_row_ids ks) whole grows v = absurd (true≢false (sym grows))
grown_tables s (Update table single rows ks) whole grows v = absurd (true≢false (sym grows))
grown_tables s (Remove table single rows) whole grows v = absurd (true≢false (sym grows))
grown_tables s (RemoveTable table) whole grows v = absurd (true≢false (sym grows))
grown_tables s (RenameTable table new) whole grows v = absurd (true≢false (sym grows))
grown_tables s (RemoveColumn table column) whole grows v = absurd (true≢false (sym grows))
grown_tables s (RenameColumn table column new) whole grows v = absurd (true≢false (sym grows))
grown_tables s (ModifyColumn table c) whole grows v = absurd (true≢false (sym grows))

last_capped : (m n e : ℕ) → e ≡ max (capped m) (capped n) → 4294967295 < max m n → 4294967295 < e
last_capped m n e is past = grind arith

-- a new row past the last row id is seen by the maxima
pub grown_last : (s : Document) (a : UserAction) (e : Counted) → grows_schema a ≡ true → AreMaximaGrown s a e → 4294967295 < last_new_row s a → 4294967295 < e.row_id
grown_last s (AddTable table cs) e grows told past = last_capped (last_row s tables_id + 1) (last_row s columns_id + length cs) e.row_id told.row_id past
grown_last s (AddColumn table c) e grows told past = last_capped (last_row s tables_id + 0) (last_row s columns_id + 1) e.row_id told.row_id (grind arith)
grown_last s (Add table single n has_row_ids ks) e grows told past = absurd (true≢false (sym grows))
grown_last s (Update table single rows ks) e grows told past = absurd (true≢false (sym grows))
grown_last s (Remove table single rows) e grows told past = absurd (true≢false (sym grows))
grown_last s (RemoveTable table) e grows told past = absurd (true≢false (sym grows))
grown_last s (RenameTable table new) e grows told past = absurd (true≢false (sym grows))
grown_last s (RemoveColumn table column) e grows told past = absurd (true≢false (sym grows))
grown_last s (RenameColumn table column new) e grows told past = absurd (true≢false (sym grows))
grown_last s (ModifyColumn table c) e grows told past = absurd (true≢false (sym grows))

pub grown_few : (s : Document) (a : UserAction) → grows_schema a ≡ true → length (steps_of s a) ≤ 1
grown_few s (AddTable table cs) grows = omega arith
grown_few s (AddColumn table c) grows = omega arith
grown_few s (Add table single n has_row_ids ks) grows = absurd (true≢false (sym grows))
grown_few s (Update table single rows ks) grows = absurd (true≢false (sym grows))
grown_few s (Remove table single rows) grows = absurd (true≢false (sym grows))
grown_few s (RemoveTable table) grows = absurd (true≢false (sym grows))
grown_few s (RenameTable table new) grows = absurd (true≢false (sym grows))
grown_few s (RemoveColumn table column) grows = absurd (true≢false (sym grows))
grown_few s (RenameColumn table column new) grows = absurd (true≢false (sym grows))
grown_few s (ModifyColumn table c) grows = absurd (true≢false (sym grows))
