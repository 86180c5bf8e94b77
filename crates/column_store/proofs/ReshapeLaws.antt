-- Columns of a grid that change, come or go at their places.
use Rattle.std.proofs.Common.{ℕ, zero, suc, Bool, true, false, cond, not, ◌||◌, ◌+◌, List, [], ◌∷◌, map, get_or, set, insert, length, ◌≡◌, ◌<◌, ◌≤◌, refl, sym, ap, subst, ◌∙◌, arith}
use Rattle.std.proofs.lemmas.Bool.{false≢true, true≢false}
use Rattle.std.proofs.lemmas.Slice.Eq.{bytes_eq-Decides}
use Rattle.std.specs.List.{AllByRecursion, remove}
use Rattle.std.specs.Str.{bytes_eq}
use Rattle.cell_types.specs.declared.value.CellValue.{CellValue}
use Rattle.doc_model.specs.declared.column.ColDef.{ColDef}
use Rattle.doc_model.specs.Apply.{add_column, remove_column, with_column}
use Rattle.doc_model.specs.ByIds.{AreDistinct, has_id, with_id, without_id}
use Rattle.doc_model.specs.Column.{column_id, column_row, start_of}
use Rattle.doc_model.specs.Document.{Table, on_grid, put_by_row}
use Rattle.doc_model.specs.Grid.{Grid, IsGrid, cell}
use Rattle.doc_model.specs.Indexes.{column_index}
use Rattle.doc_model.proofs.ByRowLaws.{put_by_row-column_index, with_id_absent}
use Rattle.doc_model.proofs.Choices.{cond_true, cond_false, each_weaker, filter_all, map_each}
use Rattle.doc_model.proofs.GridLaws.{grid_of-cell}
use Rattle.row_tables.specs.InPlace.{id_index}
use Rattle.row_tables.proofs.AddedLaws.{map-insert, map_same, remove-insert}
use Rattle.row_tables.proofs.TakenLaws.{map-remove}
use Rattle.column_store.specs.Crossed.{insert_beside}
use Rattle.column_store.specs.Reshaped.{column_in, column_out, column_put}
use Rattle.column_store.proofs.PlaceLaws.{turned}

map_of : {X Y Z : Type 0} (f : Y → Z) (h : X → Y) (xs : List X) → map f (map h xs) ≡ map (λ x. f (h x)) xs
map_of f h [] = refl
map_of f h (x ∷ xs) = ap (λ zs. f (h x) ∷ zs) (map_of f h xs)

-- ---- the column of an id

pub found_within : (c : List ℕ) (cs : List ColDef) → has_id column_id cs c ≡ true → id_index c cs < length cs
found_within c [] h = absurd (false≢true h)
found_within c (d ∷ cs) h =
    elim (bytes_eq c d.id) as (λ b. bytes_eq c d.id ≡ b → cond b 0 (id_index c cs + 1) < length (d ∷ cs)) [
      | true ↦ λ _. omega arith
      | false ↦ λ apart.
          let later : id_index c cs < length cs = found_within c cs (ap (λ b. b || has_id column_id cs c) (sym (turned d.id c ∙ apart)) ∙ h) in
          omega arith
    ] refl

-- nothing else has the id of the first
apart_from : (c : List ℕ) (d : ColDef) (cs : List ColDef) → c ≡ d.id → AllByRecursion (λ (e : ColDef). bytes_eq d.id e.id ≡ false) cs → AllByRecursion (λ (e : ColDef). bytes_eq e.id c ≡ false) cs
apart_from c d [] same h = tt
apart_from c d (e ∷ cs) same h = (turned e.id c ∙ ap (λ n. bytes_eq n e.id) same ∙ h.0, apart_from c d cs same h.1)

absent : (c : List ℕ) (cs : List ColDef) → AllByRecursion (λ (e : ColDef). bytes_eq e.id c ≡ false) cs → has_id column_id cs c ≡ false
absent c [] h = refl
absent c (e ∷ cs) h = ap (λ b. b || has_id column_id cs c) h.0 ∙ absent c cs h.1

present : (c : List ℕ) (cs : List ColDef) → has_id column_id cs c ≡ false → AllByRecursion (λ (e : ColDef). bytes_eq e.id c ≡ false) cs
present c [] h = tt
present c (e ∷ cs) h =
    elim (bytes_eq e.id c) as (λ b. (b || has_id column_id cs c) ≡ false → (b ≡ false) × AllByRecursion (λ (e : ColDef). bytes_eq e.id c ≡ false) cs) [
      | true ↦ λ wrong. absurd (true≢false wrong)
      | false ↦ λ later. (refl, present c cs later)
    ] h

pub with_found : (c : List ℕ) (f : ColDef → ColDef) (cs : List ColDef) (d : ColDef) → AreDistinct column_id cs → has_id column_id cs c ≡ true → d ≡ get_or cs (id_index c cs) d → set cs (id_index c cs) (f d) ≡ with_id column_id c f cs
with_found c f [] d distinct h e = absurd (false≢true h)
with_found c f (u ∷ cs) d distinct h e =
    let next : id_index c cs + 1 ≡ suc (id_index c cs) = omega arith in
    elim (bytes_eq c u.id) as (λ b. bytes_eq c u.id ≡ b → d ≡ get_or (u ∷ cs) (cond b 0 (id_index c cs + 1)) d → set (u ∷ cs) (cond b 0 (id_index c cs + 1)) (f d) ≡ with_id column_id c f (u ∷ cs)) [
      | true ↦ λ is e.
          let same : c ≡ u.id = (bytes_eq-Decides c u.id).0 is in
          ap (λ x. f x ∷ cs) e
          ∙ ap (λ xs. f u ∷ xs) (sym (with_id_absent column_id c f cs (absent c cs (apart_from c u cs same distinct.0))))
          ∙ ap (λ x. x ∷ with_id column_id c f cs) (sym (cond_true (bytes_eq u.id c) (f u) u (turned u.id c ∙ is)))
      | false ↦ λ apart e.
          let later : has_id column_id cs c ≡ true = ap (λ b. b || has_id column_id cs c) (sym (turned u.id c ∙ apart)) ∙ h in
          ap (λ i. set (u ∷ cs) i (f d)) next
          ∙ ap (λ xs. u ∷ xs) (with_found c f cs d distinct.1 later (e ∙ ap (λ i. get_or (u ∷ cs) i d) next))
          ∙ ap (λ x. x ∷ with_id column_id c f cs) (sym (cond_false (bytes_eq u.id c) (f u) u (turned u.id c ∙ apart)))
    ] refl e

pub out_found : (c : List ℕ) (cs : List ColDef) → AreDistinct column_id cs → has_id column_id cs c ≡ true → remove cs (id_index c cs) ≡ without_id column_id c cs
out_found c [] distinct h = absurd (false≢true h)
out_found c (u ∷ cs) distinct h =
    let next : id_index c cs + 1 ≡ suc (id_index c cs) = omega arith in
    elim (bytes_eq c u.id) as (λ b. bytes_eq c u.id ≡ b → remove (u ∷ cs) (cond b 0 (id_index c cs + 1)) ≡ without_id column_id c (u ∷ cs)) [
      | true ↦ λ is.
          let same : c ≡ u.id = (bytes_eq-Decides c u.id).0 is in
          let others : AllByRecursion (λ (e : ColDef). bytes_eq e.id c ≡ false) cs = apart_from c u cs same distinct.0 in
          sym (cond_false (not (bytes_eq u.id c)) (u ∷ without_id column_id c cs) (without_id column_id c cs) (ap not (turned u.id c ∙ is))
          ∙ filter_all (λ (e : ColDef). not (bytes_eq e.id c)) cs (each_weaker (λ (e : ColDef). bytes_eq e.id c ≡ false) (λ (e : ColDef). not (bytes_eq e.id c) ≡ true) (λ e apart. ap not apart) cs others))
      | false ↦ λ apart.
          let later : has_id column_id cs c ≡ true = ap (λ b. b || has_id column_id cs c) (sym (turned u.id c ∙ apart)) ∙ h in
          ap (remove (u ∷ cs)) next
          ∙ ap (λ xs. u ∷ xs) (out_found c cs distinct.1 later)
          ∙ sym (cond_true (not (bytes_eq u.id c)) (u ∷ without_id column_id c cs) (without_id column_id c cs) (ap not (turned u.id c ∙ apart)))
    ] refl

-- ---- a column that comes

module _ (g : Grid ColDef) (d : ColDef) (grid : IsGrid column_id g) (new : has_id column_id g.columns d.id ≡ false) where
  beside_same : (j : ℕ) (v : CellValue) (f : ℕ → List CellValue) (rows : List ℕ) → insert_beside j (map (λ _. v) rows) (map f rows) ≡ map (λ r. insert (f r) j v) rows
  beside_same j v f [] = refl
  beside_same j v f (r ∷ rows) = ap (λ xs. insert (f r) j v ∷ xs) (beside_same j v f rows)

  one_row : (j r : ℕ) → insert (map (λ (e : ColDef). cell column_id g e.id r) g.columns) j (start_of d) ≡ map (λ (e : ColDef). cond (bytes_eq e.id d.id) (start_of d) (cell column_id g e.id r)) (insert g.columns j d)
  one_row j r =
      let f : ColDef → CellValue = λ (e : ColDef). cond (bytes_eq e.id d.id) (start_of d) (cell column_id g e.id r) in
      sym (map-insert f g.columns j d
      ∙ ap (insert (map f g.columns) j) (cond_true (bytes_eq d.id d.id) (start_of d) (cell column_id g d.id r) ((bytes_eq-Decides d.id d.id).1 refl))
      ∙ ap (λ xs. insert xs j (start_of d)) (map_each f (λ (e : ColDef). cell column_id g e.id r) g.columns
      (each_weaker (λ (e : ColDef). bytes_eq e.id d.id ≡ false) (λ (e : ColDef). f e ≡ cell column_id g e.id r) (λ e apart. cond_false (bytes_eq e.id d.id) (start_of d) (cell column_id g e.id r) apart) g.columns (present d.id g.columns new))))

  pub column_added : column_in (column_index d.row g.columns) d (map (λ _. start_of d) g.rows) g ≡ add_column d g
  column_added =
      let j : ℕ = column_index d.row g.columns in
      let row : ℕ → List CellValue = λ r. map (λ (e : ColDef). cell column_id g e.id r) g.columns in
      let made : List ColDef → Grid ColDef = λ cs. record { columns = cs; rows = g.rows; cells = map (λ r. map (λ (e : ColDef). cond (bytes_eq e.id d.id) (start_of d) (cell column_id g e.id r)) cs) g.rows } in
      ap (λ cells. let x : Grid ColDef = record { columns = insert g.columns j d; rows = g.rows; cells = cells } in x)
      (ap (insert_beside j (map (λ _. start_of d) g.rows)) (ap (λ (x : Grid ColDef). x.cells) (sym (grid_of-cell column_id g grid)))
      ∙ beside_same j (start_of d) row g.rows
      ∙ map_same (λ r. insert (row r) j (start_of d)) (λ r. map (λ (e : ColDef). cond (bytes_eq e.id d.id) (start_of d) (cell column_id g e.id r)) (insert g.columns j d)) g.rows (one_row j))
      ∙ ap made (sym (put_by_row-column_index d g.columns))

-- and goes again
beside_out : (j : ℕ) (c : List CellValue) (rows : List (List CellValue)) → length c ≡ length rows → AllByRecursion (λ row. j ≤ length row) rows → map (λ row. remove row j) (insert_beside j c rows) ≡ rows
beside_out j [] [] e h = refl
beside_out j [] (row ∷ rows) e h = absurd (omega arith)
beside_out j (v ∷ c) [] e h = absurd (omega arith)
beside_out j (v ∷ c) (row ∷ rows) e h =
    ap (λ x. x ∷ map (λ row. remove row j) (insert_beside j c rows)) (remove-insert row j v h.0)
    ∙ ap (λ xs. row ∷ xs) (beside_out j c rows (omega arith) h.1)

pub came_back : (g : Grid ColDef) (j : ℕ) (d : ColDef) (c : List CellValue) → IsGrid column_id g → j ≤ length g.columns → length c ≡ length g.cells → column_out j (column_in j d c g) ≡ g
came_back g j d c grid le e =
    ap (λ cs. let x : Grid ColDef = record { columns = cs; rows = g.rows; cells = map (λ row. remove row j) (insert_beside j c g.cells) } in x) (remove-insert g.columns j d le)
    ∙ ap (λ cells. let x : Grid ColDef = record { columns = g.columns; rows = g.rows; cells = cells } in x)
    (beside_out j c g.cells e (each_weaker (λ row. length row ≡ length g.columns) (λ row. j ≤ length row) (λ row same. let n : length row ≡ length g.columns = same in omega arith) g.cells grid.width))

-- ---- a column that goes

pub column_gone : (g : Grid ColDef) (c : List ℕ) → IsGrid column_id g → has_id column_id g.columns c ≡ true → column_out (id_index c g.columns) g ≡ remove_column c g
column_gone g c grid here =
    let j : ℕ = id_index c g.columns in
    let row : List ColDef → ℕ → List CellValue = λ cs r. map (λ (e : ColDef). cell column_id g e.id r) cs in
    let made : List ColDef → Grid ColDef = λ cs. record { columns = cs; rows = g.rows; cells = map (row cs) g.rows } in
    ap (λ cells. let x : Grid ColDef = record { columns = remove g.columns j; rows = g.rows; cells = cells } in x)
    (ap (map (λ row. remove row j)) (ap (λ (x : Grid ColDef). x.cells) (sym (grid_of-cell column_id g grid)))
    ∙ map_of (λ row. remove row j) (row g.columns) g.rows
    ∙ map_same (λ r. remove (row g.columns r) j) (row (remove g.columns j)) g.rows (λ r. sym (map-remove (λ (e : ColDef). cell column_id g e.id r) g.columns j)))
    ∙ ap made (out_found c g.columns grid.distinct here)

-- ---- a column that changes

abbrev with_columns : Table → List ColDef → Table
with_columns t cs = record { id = t.id; row = t.row; grid = record { columns = cs; rows = t.grid.rows; cells = t.grid.cells } }

pub put_found : (t : Table) (c : List ℕ) (f : ColDef → ColDef) (i : ℕ) (d new : ColDef) (cols : List ColDef) → IsGrid column_id t.grid → has_id column_id t.grid.columns c ≡ true
    → i ≡ id_index c t.grid.columns → cols ≡ t.grid.columns → d ≡ get_or cols i d → new ≡ f d → on_grid (column_put i new) t ≡ on_grid (with_column c f) t
put_found t c f i d new cols grid here at same is made =
    let read : d ≡ get_or t.grid.columns (id_index c t.grid.columns) d = is ∙ ap (λ cs. get_or cs i d) same ∙ ap (λ k. get_or t.grid.columns k d) at in
    ap (with_columns t) (ap (set t.grid.columns i) made ∙ ap (λ k. set t.grid.columns k (f d)) at ∙ with_found c f t.grid.columns d grid.distinct here read)

-- the place of such a column is within
pub place_within : (t : Table) (c : List ℕ) (i n : ℕ) (cols : List ColDef) → has_id column_id t.grid.columns c ≡ true → i ≡ id_index c t.grid.columns → cols ≡ t.grid.columns → n ≡ length cols → i < n
place_within t c i n cols here at same e =
    let within : id_index c t.grid.columns < length t.grid.columns = found_within c t.grid.columns here in
    let all = ap length same in
    omega arith

pub length_all : {X Y : Type 0} (y : Y) (xs : List X) → length (map (λ _. y) xs) ≡ length xs
length_all y [] = refl
length_all y (x ∷ xs) = ap suc (length_all y xs)
