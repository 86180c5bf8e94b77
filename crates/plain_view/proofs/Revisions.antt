-- What is told of a table and of a view is what its definition says.
use Rattle.std.proofs.Common.{ℕ, Bool, true, false, cond, not, ◌&&◌, List, [], ◌∷◌, ◌++◌, map, filter, ◌≡◌, refl, sym, ap, ◌∙◌, Some, None, append_assoc, Result, Ok, Err}
use Rattle.std.specs.List.{AllByRecursion}
use Rattle.std.specs.Result.{OnOk}
use Rattle.doc_model.specs.declared.view.ViewCol.{ViewCol}
use Rattle.doc_model.specs.declared.view.ViewTable.{ViewTable}
use Rattle.doc_model.specs.declared.view.ViewAction.{ViewAction}
use Rattle.doc_model.specs.declared.view.ViewAction.TheVariants.{AddColumn, BulkAdd, BulkUpdate, ModifyColumn, RemoveColumn, RemoveTable}
use Rattle.doc_model.specs.ByIds.{find_id, has_id}
use Rattle.doc_model.specs.Changes.{changes, for_each, grid, introduced, on_table, revised, shown_table_id}
use Rattle.doc_model.specs.Grid.{Grid}
use Rattle.doc_model.specs.Records.{column_of}
use Rattle.doc_model.specs.Rows.{has}
use Rattle.doc_model.specs.Same.{same_value}
use Rattle.doc_model.specs.ViewEdits.{IsShown, Edit, remove_column, add_column, modify_column, remove, add, update, cell_edits, differing, differs, edits, if_any, shape_edits, shown_id}
use Rattle.doc_model.proofs.ByIdsLaws.{each_found}
use Rattle.doc_model.proofs.Choices.{map-map}
use Rattle.doc_model.proofs.RowsLaws.{each_has}
use Rattle.doc_model.proofs.SameLaws.{same_value-Decides}
use Rattle.doc_model.proofs.ViewEditsLaws.{after, at, gone, new, changed, out, come, come_columns}
use Rattle.plain_view.specs.Steps.{added_column, column_changes, is_told, modified_column, new_table, removed_column, removed_table, revision, row_changes, updated_column}
use Rattle.plain_view.proofs.ShapedCells.{old_cell, shaped_cell}
use Rattle.plain_view.proofs.Steps.{each_one, each_unless, each_when, map-append, map-if_any}

filter_same : (p q : ℕ → Bool) (xs : List ℕ) → AllByRecursion (λ x. p x ≡ q x) xs → filter p xs ≡ filter q xs
filter_same p q [] h = refl
filter_same p q (x ∷ xs) h = ap (λ b. cond b (x ∷ filter p xs) (filter p xs)) h.0 ∙ ap (λ l. cond (q x) (x ∷ l) l) (filter_same p q xs h.1)

-- whether a cell still differs after the shape edits is whether it is told
told_cell : (g w : Grid ViewCol) → IsShown g → IsShown w → (d : ViewCol) → find_id shown_id d.id w.columns ≡ Some d → (r : ℕ) → has w.rows r ≡ true
    → not (same_value (at (after (shape_edits g w) g) d.id r) (at w d.id r)) ≡ is_told g w d r
told_cell g w s t d found r here =
    ap (λ v. not (same_value v (at w d.id r))) (shaped_cell g w s t d r found here) ∙ by_row (has g.rows r)
  where
    by_row : (b : Bool) → not (same_value (cond b (old_cell g d r) (at w d.id r)) (at w d.id r)) ≡ (b && not (same_value (old_cell g d r) (at w d.id r)))
    by_row true = refl
    by_row false = ap not ((same_value-Decides (at w d.id r) (at w d.id r)).1 refl)

told_rows : (g w : Grid ViewCol) → IsShown g → IsShown w → (d : ViewCol) → find_id shown_id d.id w.columns ≡ Some d → filter (is_told g w d) w.rows ≡ differing (after (shape_edits g w) g) w d
told_rows g w s t d found = sym (filter_same (λ r. not (same_value (at (after (shape_edits g w) g) d.id r) (at w d.id r))) (is_told g w d) w.rows (each_has (λ r. not (same_value (at (after (shape_edits g w) g) d.id r) (at w d.id r)) ≡ is_told g w d r) w.rows (told_cell g w s t d found)))

updates : (t : List ℕ) (g w : Grid ViewCol) → IsShown g → IsShown w → (ds : List ViewCol) → AllByRecursion (λ d. find_id shown_id d.id w.columns ≡ Some d) ds
    → for_each (updated_column t g w) ds ≡ map (on_table t) (cell_edits (after (shape_edits g w) g) w ds)
updates t g w gs ws [] h = refl
updates t g w gs ws (d ∷ ds) h =
    let rows : List ℕ = differing (after (shape_edits g w) g) w d in
    let one : List Edit = if_any rows (update rows (column_of shown_id w rows d.id ∷ [])) in
    let rest : List Edit = cell_edits (after (shape_edits g w) g) w ds in
    ap (λ q. if_any q (BulkUpdate t q (column_of shown_id w q d.id ∷ [])) ++ for_each (updated_column t g w) ds) (told_rows g w gs ws d h.0)
    ∙ ap (λ l. l ++ for_each (updated_column t g w) ds) (sym (map-if_any (on_table t) rows (update rows (column_of shown_id w rows d.id ∷ []))))
    ∙ ap (λ l. map (on_table t) one ++ l) (updates t g w gs ws ds h.1)
    ∙ sym (map-append (on_table t) one rest)

removals : (t : List ℕ) (g w : Grid ViewCol) → for_each (removed_column t w.columns) g.columns ≡ map (on_table t) (map (λ (d : ViewCol). remove_column d.id) (gone g w))
removals t g w =
    each_unless (λ (d : ViewCol). has_id shown_id w.columns d.id) (λ (d : ViewCol). RemoveColumn t d.id ∷ []) g.columns
    ∙ each_one (λ (d : ViewCol). RemoveColumn t d.id) (gone g w)
    ∙ map-map (on_table t) (λ (d : ViewCol). remove_column d.id) (gone g w)

additions : (t : List ℕ) (g w : Grid ViewCol) → for_each (added_column t g.columns) w.columns ≡ map (on_table t) (map add_column (new g w))
additions t g w =
    each_unless (λ (d : ViewCol). has_id shown_id g.columns d.id) (λ (d : ViewCol). AddColumn t d ∷ []) w.columns
    ∙ each_one (λ (d : ViewCol). AddColumn t d) (new g w)
    ∙ map-map (on_table t) add_column (new g w)

modifications : (t : List ℕ) (g w : Grid ViewCol) → for_each (modified_column t g.columns) w.columns ≡ map (on_table t) (map modify_column (changed g w))
modifications t g w =
    each_when (differs g.columns) (λ (d : ViewCol). ModifyColumn t d) w.columns
    ∙ map-map (on_table t) modify_column (changed g w)

pub revision_edits : (t : List ℕ) (g w : Grid ViewCol) → IsShown g → IsShown w → revision t g w ≡ map (on_table t) (edits g w)
revision_edits t g w s u =
    let f : Edit → ViewAction = on_table t in
    let a : List Edit = map (λ (d : ViewCol). remove_column d.id) (gone g w) in
    let b : List Edit = map add_column (new g w) in
    let c : List Edit = map modify_column (changed g w) in
    let x : List Edit = if_any (out g w) (remove (out g w)) in
    let y : List Edit = if_any (come g w) (add (come g w) (come_columns g w)) in
    let z : List Edit = cell_edits (after (shape_edits g w) g) w w.columns in
    let columns : column_changes t g w ≡ map f ((a ++ b) ++ c) =
    ap (λ l. (l ++ for_each (added_column t g.columns) w.columns) ++ for_each (modified_column t g.columns) w.columns) (removals t g w)
    ∙ ap (λ l. (map f a ++ l) ++ for_each (modified_column t g.columns) w.columns) (additions t g w)
    ∙ ap (λ l. (map f a ++ map f b) ++ l) (modifications t g w)
    ∙ ap (λ l. l ++ map f c) (sym (map-append f a b))
    ∙ sym (map-append f (a ++ b) c) in
    let rows : row_changes t g w ≡ map f x ++ map f y =
    ap (λ l. l ++ if_any (come g w) (BulkAdd t (come g w) (come_columns g w))) (sym (map-if_any f (out g w) (remove (out g w))))
    ∙ ap (λ l. map f x ++ l) (sym (map-if_any f (come g w) (add (come g w) (come_columns g w)))) in
    let shape : column_changes t g w ++ row_changes t g w ≡ map f (shape_edits g w) =
    ap (λ l. l ++ row_changes t g w) columns
    ∙ ap (λ l. map f ((a ++ b) ++ c) ++ l) rows
    ∙ sym (append_assoc (map f ((a ++ b) ++ c)) (map f x) (map f y))
    ∙ ap (λ l. l ++ map f y) (sym (map-append f ((a ++ b) ++ c) x))
    ∙ sym (map-append f (((a ++ b) ++ c) ++ x) y) in
    ap (λ l. l ++ for_each (updated_column t g w) w.columns) shape
    ∙ ap (λ l. map f (shape_edits g w) ++ l) (updates t g w s u w.columns (each_found shown_id (λ d. find_id shown_id d.id w.columns ≡ Some d) w.columns u.is_grid.distinct (λ d found. found)))
    ∙ sym (map-append f (shape_edits g w) z)

-- what holds after an Ok, weakened
on_ok : {T E : Type 0} (r : Result T E) (P Q : Type 0) → (P → Q) → OnOk r P → OnOk r Q
on_ok (Ok x) P Q f h = f h
on_ok (Err e) P Q f h = h

-- a table that was there is told by its revision
pub revised_found : {T E : Type 0} (r : Result T E) (before now : List ViewAction) (v : List ViewTable) (s t : ViewTable) → IsShown (grid s) → IsShown (grid t) → Some s ≡ find_id shown_table_id t.id v
    → OnOk r (now ≡ before ++ revision t.id (grid s) (grid t)) → OnOk r (now ≡ before ++ revised v t)
revised_found r before now v s t gs gt found =
    on_ok r (now ≡ before ++ revision t.id (grid s) (grid t)) (now ≡ before ++ revised v t) (λ e.
    e ∙ ap (λ l. before ++ l) (revision_edits t.id (grid s) (grid t) gs gt
    ∙ ap (λ o. elim o as (λ _. List ViewAction) [ None ↦ [] | Some s ↦ map (on_table t.id) (edits (grid s) (grid t)) ]) found))

-- tables that are gone, new tables, and then the others
pub told_all : (v w old now : List ViewTable) (none removed added all : List ViewAction) → old ≡ v → now ≡ w → none ≡ [] → removed ≡ none ++ for_each (removed_table now) old
    → added ≡ removed ++ for_each (new_table old) now → all ≡ added ++ for_each (revised old) now → all ≡ changes v w
told_all v w old now none removed added all ev ew en er ea e =
    let is_new : ViewTable → Bool = λ t. not (has_id shown_table_id v t.id) in
    let is_gone : ViewTable → Bool = λ s. not (has_id shown_table_id w s.id) in
    e ∙ ap (λ l. l ++ for_each (revised old) now) (ea ∙ ap (λ l. l ++ for_each (new_table old) now) (er ∙ ap (λ l. l ++ for_each (removed_table now) old) en))
    ∙ ap (λ x. (for_each (removed_table now) x ++ for_each (new_table x) now) ++ for_each (revised x) now) ev
    ∙ ap (λ x. (for_each (removed_table x) v ++ for_each (new_table v) x) ++ for_each (revised v) x) ew
    ∙ ap (λ l. (l ++ for_each (new_table v) w) ++ for_each (revised v) w)
    (each_unless (λ (s : ViewTable). has_id shown_table_id w s.id) (λ (s : ViewTable). RemoveTable s.id ∷ []) v ∙ each_one (λ (s : ViewTable). RemoveTable s.id) (filter is_gone v))
    ∙ ap (λ l. (map (λ (s : ViewTable). RemoveTable s.id) (filter is_gone v) ++ l) ++ for_each (revised v) w)
    (each_unless (λ (t : ViewTable). has_id shown_table_id v t.id) introduced w)
