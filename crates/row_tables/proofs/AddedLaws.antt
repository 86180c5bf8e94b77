-- New rows and their cells put in at their places, and taken out again.
use Rattle.std.proofs.Common.{ℕ, zero, suc, Bool, true, false, cond, not, ◌||◌, ◌&&◌, List, [], ◌∷◌, ◌+◌, ◌++◌, map, take, drop, get_or, length, ◌≡◌, ◌<◌, ◌≤◌, refl, sym, ap, subst, ◌∙◌, eqb, arith, insert, unwrap_or, append_assoc}
use Rattle.std.proofs.lemmas.Bool.{false≢true, eqb-true}
use Rattle.std.proofs.lemmas.List.{map-append, take-map, drop-map}
use Rattle.std.proofs.lemmas.List.Edits.{length-insert}
use Rattle.std.specs.List.{remove}
use Rattle.cell_types.specs.declared.value.CellValue.{CellValue}
use Rattle.doc_model.specs.declared.column.CellColumn.{CellColumn}
use Rattle.doc_model.specs.declared.column.ColDef.{ColDef}
use Rattle.doc_model.specs.Rows.{has, IsAscending, insert_row, insert_rows, has_no_duplicates, none_in}
use Rattle.doc_model.specs.Column.{column_id, start_of}
use Rattle.doc_model.specs.Document.{Table, on_grid}
use Rattle.doc_model.specs.Grid.{Grid, IsGrid, cell}
use Rattle.doc_model.specs.Records.{given, add_rows}
use Rattle.doc_model.proofs.Choices.{cond_true, cond_false, false_from, not_true, each_true, true_each, map_each, or_swap, length_map}
use Rattle.doc_model.proofs.GridLaws.{grid_of-cell}
use Rattle.doc_model.proofs.RowsLaws.{number_itself, each_has, has-insert_row, has-insert_rows, IsAscending-insert_row, IsAscending-insert_rows, same_ascending, none_in_at}
use Rattle.row_tables.specs.InPlace.{on_rows}
use Rattle.row_tables.proofs.Walks.{drop_read}
use Rattle.doc_model.specs.Indexes.{row_index}
use Rattle.doc_model.proofs.RowIndexLaws.{index_within, insert_index}
use Rattle.row_tables.specs.RowIndexes.{new_indexes, AreNew, AreWithin, put_at, taken_out}

-- functions that agree give one list
pub map_same : {X Y : Type 0} (f g : X → Y) (xs : List X) → ((x : X) → f x ≡ g x) → map f xs ≡ map g xs
map_same f g [] h = refl
map_same f g (x ∷ xs) h = ap (λ y. y ∷ map f xs) (h x) ∙ ap (λ ys. g x ∷ ys) (map_same f g xs h)

pub map-insert : {X Y : Type 0} (f : X → Y) (xs : List X) (i : ℕ) (x : X) → map f (insert xs i x) ≡ insert (map f xs) i (f x)
map-insert f xs i x =
    map-append f (take i xs) (x ∷ drop i xs)
    ∙ ap (λ ys. ys ++ f x ∷ map f (drop i xs)) (sym (take-map f i xs))
    ∙ ap (λ ys. take i (map f xs) ++ f x ∷ ys) (sym (drop-map f i xs))

-- ---- one new row

pub new_first : (q : ℕ) (new rows : List ℕ) → AreNew (q ∷ new) rows → has rows q ≡ false
new_first q new rows n = not_true (has rows q) (each_true (λ x. not (has rows x)) (q ∷ new) n.2).0

-- the others are new beside it
pub new_rest : (q : ℕ) (new rows : List ℕ) → AreNew (q ∷ new) rows → AreNew new (insert rows (row_index q rows) q)
new_rest q new rows n =
    subst (AreNew new) (sym (insert_index q rows first)) (
      IsAscending-insert_row q rows n.0,
      once,
      true_each (λ x. not (has (insert_row q rows) x)) new (each_has (λ x. not (has (insert_row q rows) x) ≡ true) new (λ x here. ap not (absent x here))),
    )
  where
    first : has rows q ≡ false
    first = new_first q new rows n

    both : (a b : Bool) → (not a && b) ≡ true → (a ≡ false) × (b ≡ true)
    both true b e = absurd (false≢true e)
    both false b e = (refl, e)

    apart : has new q ≡ false
    apart = (both (has new q) (has_no_duplicates new) n.1).0

    once : has_no_duplicates new ≡ true
    once = (both (has new q) (has_no_duplicates new) n.1).1

    other : (x : ℕ) → has new x ≡ true → eqb q x ≡ false
    other x here = false_from (eqb q x) (λ same. false≢true (sym apart ∙ subst (λ y. has new y ≡ true) (sym (eqb-true q x same)) here))

    rest : none_in new rows ≡ true
    rest = true_each (λ x. not (has rows x)) new (each_true (λ x. not (has rows x)) (q ∷ new) n.2).1

    absent : (x : ℕ) → has new x ≡ true → has (insert_row q rows) x ≡ false
    absent x here = has-insert_row q rows x ∙ ap (λ b. b || has rows x) (other x here) ∙ none_in_at new rows x rest here

-- ---- all new rows

pub new_within : (new rows : List ℕ) → AreWithin (new_indexes new rows) (length rows)
new_within [] rows = tt
new_within (q ∷ new) rows = (
  index_within q rows,
  subst (AreWithin (new_indexes new (insert rows (row_index q rows) q))) (length-insert rows (row_index q rows) q (index_within q rows)) (new_within new (insert rows (row_index q rows) q)),
)

insert_apart : (q : ℕ) (new rows : List ℕ) → IsAscending rows → insert_rows new (insert_row q rows) ≡ insert_row q (insert_rows new rows)
insert_apart q new rows a =
    same_ascending (insert_rows new (insert_row q rows)) (insert_row q (insert_rows new rows)) (IsAscending-insert_rows new (insert_row q rows) (IsAscending-insert_row q rows a)) (IsAscending-insert_row q (insert_rows new rows) (IsAscending-insert_rows new rows a)) (λ x.
    has-insert_rows new (insert_row q rows) x ∙ ap (λ b. has new x || b) (has-insert_row q rows x) ∙ or_swap (has new x) (eqb q x) (has rows x)
    ∙ sym (has-insert_row q (insert_rows new rows) x ∙ ap (λ b. eqb q x || b) (has-insert_rows new rows x)))

pub put_rows : (new rows : List ℕ) → AreNew new rows → put_at (new_indexes new rows) new rows ≡ insert_rows new rows
put_rows [] rows n = refl
put_rows (q ∷ new) rows n =
    put_rows new (insert rows (row_index q rows) q) (new_rest q new rows n)
    ∙ ap (insert_rows new) (insert_index q rows (new_first q new rows n)) ∙ insert_apart q new rows n.0

module _ {X : Type 0} where
  with_one : (q : ℕ) (x : X) (old : ℕ → X) (rows : List ℕ) (i : ℕ) → has rows q ≡ false → insert (map old rows) i x ≡ map (λ r. cond (eqb q r) x (old r)) (insert rows i q)
  with_one q x old rows i apart = sym (
      map-insert (λ r. cond (eqb q r) x (old r)) rows i q
      ∙ ap (insert (map (λ r. cond (eqb q r) x (old r)) rows) i) (cond_true (eqb q q) x (old q) (number_itself q))
      ∙ ap (λ xs. insert xs i x) (map_each (λ r. cond (eqb q r) x (old r)) old rows (each_has (λ r. cond (eqb q r) x (old r) ≡ old r) rows (λ r here.
      cond_false (eqb q r) x (old r) (false_from (eqb q r) (λ same. false≢true (sym apart ∙ subst (λ y. has rows y ≡ true) (sym (eqb-true q r same)) here))))))
      )

  choice : (q r : ℕ) (new : List ℕ) (fresh old : ℕ → X) → cond (has new r) (fresh r) (cond (eqb q r) (fresh q) (old r)) ≡ cond (has (q ∷ new) r) (fresh r) (old r)
  choice q r new fresh old =
      elim (eqb q r) as (λ b. eqb q r ≡ b → cond (has new r) (fresh r) (cond b (fresh q) (old r)) ≡ cond (b || has new r) (fresh r) (old r)) [
        | true ↦ λ same.
            ap (λ x. cond (has new r) (fresh r) x) (ap fresh (eqb-true q r same))
            ∙ elim (has new r) as (λ b. cond b (fresh r) (fresh r) ≡ fresh r) [ true ↦ refl | false ↦ refl ]
        | false ↦ λ _. refl
      ] refl

  -- what stands beside the rows then
  pub put_beside : (new rows : List ℕ) (fresh old : ℕ → X) → AreNew new rows → put_at (new_indexes new rows) (map fresh new) (map old rows) ≡ map (λ r. cond (has new r) (fresh r) (old r)) (put_at (new_indexes new rows) new rows)
  put_beside [] rows fresh old n = refl
  put_beside (q ∷ new) rows fresh old n =
      let more : List ℕ = insert rows (row_index q rows) q in
      ap (put_at (new_indexes new more) (map fresh new)) (with_one q (fresh q) old rows (row_index q rows) (new_first q new rows n))
      ∙ put_beside new more fresh (λ r. cond (eqb q r) (fresh q) (old r)) (new_rest q new rows n)
      ∙ map_same (λ r. cond (has new r) (fresh r) (cond (eqb q r) (fresh q) (old r))) (λ r. cond (has (q ∷ new) r) (fresh r) (old r)) (put_at (new_indexes new more) new more) (λ r. choice q r new fresh old)

  pub remove-insert : (xs : List X) (i : ℕ) (x : X) → i ≤ length xs → remove (insert xs i x) i ≡ xs
  remove-insert xs zero x l = refl
  remove-insert [] (suc i) x l = absurd (omega arith)
  remove-insert (y ∷ xs) (suc i) x l = ap (λ ys. y ∷ ys) (remove-insert xs i x (omega arith))

  -- what was put in is taken out
  pub taken_out-put_at : (indexes : List ℕ) (new xs : List X) → AreWithin indexes (length xs) → length new ≡ length indexes → taken_out indexes (put_at indexes new xs) ≡ xs
  taken_out-put_at [] new xs w l = refl
  taken_out-put_at (p ∷ indexes) [] xs w l = absurd (omega arith)
  taken_out-put_at (p ∷ indexes) (x ∷ new) xs w l =
      ap (λ ys. remove ys p) (taken_out-put_at indexes new (insert xs p x) (subst (AreWithin indexes) (sym (length-insert xs p x w.0)) w.1) (omega arith))
      ∙ remove-insert xs p x w.0

-- the rows and cells of a grid with new rows in it
pub added : (g : Grid ColDef) (new : List ℕ) (ks : List CellColumn) (lists : List (List CellValue)) → IsGrid column_id g → AreNew new g.rows
    → lists ≡ map (λ r. map (λ (d : ColDef). unwrap_or (given new ks d.id r) (start_of d)) g.columns) new
    → (let x : Grid ColDef = record { columns = g.columns; rows = put_at (new_indexes new g.rows) new g.rows; cells = put_at (new_indexes new g.rows) lists g.cells } in x) ≡ add_rows column_id start_of new ks g
added g new ks lists grid n e =
    let fresh : ℕ → List CellValue = λ r. map (λ (d : ColDef). unwrap_or (given new ks d.id r) (start_of d)) g.columns in
    let old : ℕ → List CellValue = λ r. map (λ (d : ColDef). cell column_id g d.id r) g.columns in
    let both : ℕ → List CellValue = λ r. map (λ (d : ColDef). cond (has new r) (unwrap_or (given new ks d.id r) (start_of d)) (cell column_id g d.id r)) g.columns in
    ap (λ cells. let x : Grid ColDef = record { columns = g.columns; rows = put_at (new_indexes new g.rows) new g.rows; cells = cells } in x) (
    ap (λ ls. put_at (new_indexes new g.rows) ls g.cells) e
    ∙ ap (put_at (new_indexes new g.rows) (map fresh new)) (ap (λ (x : Grid ColDef). x.cells) (sym (grid_of-cell column_id g grid)))
    ∙ put_beside new g.rows fresh old n
    ∙ map_same (λ r. cond (has new r) (fresh r) (old r)) both (put_at (new_indexes new g.rows) new g.rows) (λ r. elim (has new r) as (λ b. cond b (fresh r) (old r) ≡ map (λ (d : ColDef). cond b (unwrap_or (given new ks d.id r) (start_of d)) (cell column_id g d.id r)) g.columns) [ true ↦ refl | false ↦ refl ])
    )
    ∙ ap (λ rows. let x : Grid ColDef = record { columns = g.columns; rows = rows; cells = map both rows } in x) (put_rows new g.rows n)

-- ---- steps of walks

-- one more new row
pub rows_step : (new before rows after noted indexes more : List ℕ) (i q p : ℕ) → i < length new → q ≡ get_or new i q → p ≡ row_index q rows → after ≡ insert rows p q → more ≡ indexes ++ p ∷ []
    → AreNew (drop i new) rows → put_at (new_indexes (drop i new) rows) (drop i new) rows ≡ put_at (new_indexes new before) new before → indexes ++ new_indexes (drop i new) rows ≡ noted ++ new_indexes new before
    → AreNew (drop (i + 1) new) after × (put_at (new_indexes (drop (i + 1) new) after) (drop (i + 1) new) after ≡ put_at (new_indexes new before) new before) × (more ++ new_indexes (drop (i + 1) new) after ≡ noted ++ new_indexes new before)
rows_step new before rows after noted indexes more i q p l e at put note n done told =
    let read : drop i new ≡ q ∷ drop (i + 1) new = drop_read new i q l e in
    let is : insert rows (row_index q rows) q ≡ after = ap (λ k. insert rows k q) (sym at) ∙ sym put in (
      subst (AreNew (drop (i + 1) new)) is (new_rest q (drop (i + 1) new) rows (subst (λ z. AreNew z rows) read n)),
      ap (λ r. put_at (new_indexes (drop (i + 1) new) r) (drop (i + 1) new) r) (sym is) ∙ ap (λ z. put_at (new_indexes z rows) z rows) (sym read) ∙ done,
      ap (λ z. z ++ new_indexes (drop (i + 1) new) after) note ∙ append_assoc indexes (p ∷ []) (new_indexes (drop (i + 1) new) after)
          ∙ ap (λ z. indexes ++ z) (ap (λ k. k ∷ new_indexes (drop (i + 1) new) after) at ∙ ap (λ r. row_index q rows ∷ new_indexes (drop (i + 1) new) r) (sym is))
          ∙ ap (λ z. indexes ++ new_indexes z rows) (sym read) ∙ told,
    )

module _ {X : Type 0} where
  -- one more thing put in
  pub put_step : (indexes : List ℕ) (all left rest before xs after : List X) (x : X) (i p : ℕ) → i < length indexes → p ≡ get_or indexes i p → left ≡ x ∷ rest → after ≡ insert xs p x
      → AreWithin (drop i indexes) (length xs) → put_at (drop i indexes) left xs ≡ put_at indexes all before
      → AreWithin (drop (i + 1) indexes) (length after) × (put_at (drop (i + 1) indexes) rest after ≡ put_at indexes all before)
  put_step indexes all left rest before xs after x i p l e next put w done =
      let read : drop i indexes ≡ p ∷ drop (i + 1) indexes = drop_read indexes i p l e in
      let within : (p ≤ length xs) × AreWithin (drop (i + 1) indexes) (length xs + 1) = subst (λ z. AreWithin z (length xs)) read w in (
        subst (AreWithin (drop (i + 1) indexes)) (sym (ap length put ∙ length-insert xs p x within.0)) within.1,
        ap (put_at (drop (i + 1) indexes) rest) put ∙ ap (λ z. put_at z (x ∷ rest) xs) (sym read) ∙ ap (λ z. put_at (drop i indexes) z xs) (sym next) ∙ done,
      )

  -- none are left
  pub put_end : (indexes : List ℕ) (left xs : List X) → length left ≡ 0 → put_at indexes left xs ≡ xs
  put_end [] left xs e = refl
  put_end (p ∷ indexes) [] xs e = refl
  put_end (p ∷ indexes) (x ∷ left) xs e = absurd (omega arith)

  -- one more thing taken out
  pub taken_out-append : (indexes : List ℕ) (p : ℕ) (xs : List X) → taken_out (indexes ++ p ∷ []) xs ≡ taken_out indexes (remove xs p)
  taken_out-append [] p xs = refl
  taken_out-append (q ∷ indexes) p xs = ap (λ ys. remove ys q) (taken_out-append indexes p xs)

-- ---- the whole table

pub length-new_indexes : (new rows : List ℕ) → length (new_indexes new rows) ≡ length new
length-new_indexes [] rows = refl
length-new_indexes (q ∷ new) rows = let later : length (new_indexes new (insert rows (row_index q rows) q)) ≡ length new = length-new_indexes new (insert rows (row_index q rows) q) in omega arith

abbrev pub with_rows : Table → List ℕ → List (List CellValue) → Table
with_rows t rows cells = record { id = t.id; row = t.row; grid = record { columns = t.grid.columns; rows = rows; cells = cells } }

module _ (t : Table) (new : List ℕ) (ks : List CellColumn) (lists : List (List CellValue)) (indexes rows : List ℕ) (cells : List (List CellValue))
    (grid : IsGrid column_id t.grid) (n : AreNew new t.grid.rows)
    (made : lists ≡ map (λ r. map (λ (d : ColDef). unwrap_or (given new ks d.id r) (start_of d)) t.grid.columns) new)
    (noted : indexes ≡ new_indexes new t.grid.rows) (put : rows ≡ put_at (new_indexes new t.grid.rows) new t.grid.rows) (beside : cells ≡ put_at indexes lists t.grid.cells) where
  pub added_table : with_rows t rows cells ≡ on_grid (add_rows column_id start_of new ks) t
  added_table =
      ap (λ r. with_rows t r cells) put ∙ ap (with_rows t (put_at (new_indexes new t.grid.rows) new t.grid.rows)) (beside ∙ ap (λ ps. put_at ps lists t.grid.cells) noted)
      ∙ ap (λ (g : Grid ColDef). let u : Table = record { id = t.id; row = t.row; grid = g } in u) (added t.grid new ks lists grid n made)

  each : length lists ≡ length (new_indexes new t.grid.rows)
  each =
      let all : length lists ≡ length new = ap length made ∙ length_map (λ r. map (λ (d : ColDef). unwrap_or (given new ks d.id r) (start_of d)) t.grid.columns) new in
      all ∙ sym (length-new_indexes new t.grid.rows)

  pub added_back : on_grid (on_rows (taken_out indexes) (taken_out indexes)) (with_rows t rows cells) ≡ t
  added_back =
      ap (λ r. with_rows t r (taken_out indexes cells)) (
      ap (taken_out indexes) put ∙ ap (λ ps. taken_out ps (put_at (new_indexes new t.grid.rows) new t.grid.rows)) noted
      ∙ taken_out-put_at (new_indexes new t.grid.rows) new t.grid.rows (new_within new t.grid.rows) (sym (length-new_indexes new t.grid.rows)))
      ∙ ap (with_rows t t.grid.rows) (
      ap (taken_out indexes) (beside ∙ ap (λ ps. put_at ps lists t.grid.cells) noted) ∙ ap (λ ps. taken_out ps (put_at (new_indexes new t.grid.rows) lists t.grid.cells)) noted
      ∙ taken_out-put_at (new_indexes new t.grid.rows) lists t.grid.cells (subst (AreWithin (new_indexes new t.grid.rows)) (sym grid.height) (new_within new t.grid.rows)) each)

-- the indexes that were noted from none, in reserved room
pub noted_from : (new rows reserved indexes after : List ℕ) → after ≡ indexes ++ new_indexes new reserved → indexes ≡ [] → reserved ≡ rows → after ≡ new_indexes new rows
noted_from new rows reserved indexes after is none same = is ∙ ap (λ ps. ps ++ new_indexes new reserved) none ∙ ap (new_indexes new) same
