-- The changes that lead from one view to another do so.
use Rattle.std.proofs.Common.{ℕ, Bool, true, false, cond, not, ◌||◌, List, [], ◌∷◌, ◌++◌, map, filter, ◌≡◌, refl, sym, ap, subst, ◌∙◌, Option, Some, None, unwrap_or, is_some, option_map}
use Rattle.std.proofs.lemmas.Bool.{false≢true}
use Rattle.std.proofs.lemmas.Slice.Eq.{bytes_eq-Decides}
use Rattle.std.specs.List.{AllByRecursion}
use Rattle.std.specs.Str.{bytes_eq}
use Rattle.cell_types.specs.declared.value.CellValue.{CellValue}
use Rattle.doc_model.specs.declared.column.CellColumn.{CellColumn}
use Rattle.doc_model.specs.declared.view.ViewCol.{ViewCol}
use Rattle.doc_model.specs.declared.view.ViewTable.{ViewTable}
use Rattle.doc_model.specs.declared.view.ViewAction.{ViewAction}
use Rattle.doc_model.specs.declared.view.ViewAction.TheVariants.{AddTable, RemoveTable, AddColumn, RemoveColumn, ModifyColumn, BulkAdd, BulkUpdate, BulkRemove}
use Rattle.doc_model.specs.ByIds.{precedes, find_id, has_id, IsByIds, put_by_id}
use Rattle.doc_model.specs.Rows.{has, insert_rows, IsAscending}
use Rattle.doc_model.specs.Grid.{Grid, grid_of, cell}
use Rattle.doc_model.specs.Records.{or_else, given}
use Rattle.doc_model.specs.ViewEdits.{shown_id, shown_start, IsShown, Edit, remove_column, add_column, modify_column, remove, add, update, all_edited, if_any, whole, edits}
use Rattle.doc_model.specs.Changes.{shown_table_id, grid, table, IsView, on_table, introduced, revised, for_each, changes}
use Rattle.doc_model.specs.Patch.{bare, edit_table, patched, patch}
use Rattle.doc_model.proofs.Choices.{cond_true, cond_false, keep, each_filter, filter_none, or_false}
use Rattle.doc_model.proofs.ByIdsLaws.{bytes_apart, found_id, found_all, find_low, find-put_by_id, find-without_id, IsByIds-put_by_id, IsByIds-filter, same_by_ids, has_id-find, find-filter, by_id_again, AreDistinct-IsByIds, each_found, has_found}
use Rattle.doc_model.proofs.RowsLaws.{has-insert_rows, IsAscending-insert_rows, same_ascending}
use Rattle.doc_model.proofs.GridLaws.{cell-grid_of, same_grid, IsGrid-grid_of}
use Rattle.doc_model.proofs.RecordsLaws.{given_own}
use Rattle.doc_model.proofs.ViewEditsLaws.{after-edits, edits_again}

abbrev after : List ViewAction → List ViewTable → List ViewTable
after cs v = patch v cs

abbrev pub named : List ℕ → List ViewTable → Option ViewTable
named c v = find_id shown_table_id c v

abbrev pub with_edits : List Edit → ViewTable → ViewTable
with_edits es s = table s.id (all_edited es (grid s))

pub after-append : (cs ds : List ViewAction) (v : List ViewTable) → after (cs ++ ds) v ≡ after ds (after cs v)
after-append [] ds v = refl
after-append (c ∷ cs) ds v = after-append cs ds (patched c v)

-- an edit on a table is an edit of the table of that id
pub patched-on_table : (t : List ℕ) (e : Edit) (v : List ViewTable) → patched (on_table t e) v ≡ edit_table t e v
patched-on_table t (remove_column c) v = refl
patched-on_table t (add_column d) v = refl
patched-on_table t (modify_column d) v = refl
patched-on_table t (remove rows) v = refl
patched-on_table t (add rows ks) v = refl
patched-on_table t (update rows ks) v = refl

-- what a name finds after one edit
named-edit : (t : List ℕ) (e : Edit) (v : List ViewTable) (c : List ℕ)
    → named c (edit_table t e v) ≡ cond (bytes_eq t c) (option_map (with_edits (e ∷ [])) (named c v)) (named c v)
named-edit t e [] c = elim (bytes_eq t c) as (λ b. ◌≡◌ {A = Option ViewTable} None (cond b None None)) [ true ↦ refl | false ↦ refl ]
named-edit t e (s ∷ v) c =
    let rest : List ViewTable = edit_table t e v in
    let s' : ViewTable = with_edits (e ∷ []) s in
    elim (bytes_eq s.id t) as (λ a. bytes_eq s.id t ≡ a → cond (bytes_eq (cond a s' s).id c) (Some (cond a s' s)) (named c rest)
    ≡ cond (bytes_eq t c) (option_map (with_edits (e ∷ [])) (cond (bytes_eq s.id c) (Some s) (named c v))) (cond (bytes_eq s.id c) (Some s) (named c v))) [
      | true ↦ λ is. let same : s.id ≡ t = (bytes_eq-Decides s.id t).0 is in
          elim (bytes_eq s.id c) as (λ b. bytes_eq s.id c ≡ b → cond b (Some s') (named c rest) ≡ cond (bytes_eq t c) (option_map (with_edits (e ∷ [])) (cond b (Some s) (named c v))) (cond b (Some s) (named c v))) [
            | true ↦ λ here. sym (cond_true (bytes_eq t c) (Some s') (Some s) (ap (λ n. bytes_eq n c) (sym same) ∙ here))
            | false ↦ λ _. named-edit t e v c
          ] refl
      | false ↦ λ apart.
          elim (bytes_eq s.id c) as (λ b. bytes_eq s.id c ≡ b → cond b (Some s) (named c rest) ≡ cond (bytes_eq t c) (option_map (with_edits (e ∷ [])) (cond b (Some s) (named c v))) (cond b (Some s) (named c v))) [
            | true ↦ λ here. sym (cond_false (bytes_eq t c) (Some s') (Some s) (ap (bytes_eq t) (sym ((bytes_eq-Decides s.id c).0 here)) ∙ bytes_apart s.id t apart))
            | false ↦ λ _. named-edit t e v c
          ] refl
    ] refl

pub named-edits : (t : List ℕ) (es : List Edit) (v : List ViewTable) (c : List ℕ)
    → named c (after (map (on_table t) es) v) ≡ cond (bytes_eq t c) (option_map (with_edits es) (named c v)) (named c v)
named-edits t [] v c =
    elim (bytes_eq t c) as (λ b. named c v ≡ cond b (option_map (with_edits []) (named c v)) (named c v)) [
      | true ↦ elim (named c v) as (λ o. o ≡ option_map (with_edits []) o) [ None ↦ refl | Some s ↦ refl ]
      | false ↦ refl
    ]
named-edits t (e ∷ es) v c =
    ap (λ u. named c (after (map (on_table t) es) u)) (patched-on_table t e v)
    ∙ named-edits t es (edit_table t e v) c
    ∙ ap (λ o. cond (bytes_eq t c) (option_map (with_edits es) o) o) (named-edit t e v c)
    ∙ elim (bytes_eq t c) as (λ b. cond b (option_map (with_edits es) (cond b (option_map (with_edits (e ∷ [])) (named c v)) (named c v))) (cond b (option_map (with_edits (e ∷ [])) (named c v)) (named c v)) ≡ cond b (option_map (with_edits (e ∷ es)) (named c v)) (named c v)) [
      | true ↦ elim (named c v) as (λ o. option_map (with_edits es) (option_map (with_edits (e ∷ [])) o) ≡ option_map (with_edits (e ∷ es)) o) [ None ↦ refl | Some s ↦ refl ]
      | false ↦ refl
    ]

abbrev pub filling : Grid ViewCol → List ℕ → List Edit
filling w rows = if_any rows (add rows (whole w rows))

-- a table of the columns alone
abbrev pub empty : Grid ViewCol → Grid ViewCol
empty w = record { columns = w.columns; rows = []; cells = [] }

IsShown-empty : (w : Grid ViewCol) → IsShown w → IsShown (empty w)
IsShown-empty w t = record { by_ids = t.by_ids; is_grid = record { distinct = t.is_grid.distinct; ascending = tt; height = refl; width = tt } }

pub bare_empty : (w : Grid ViewCol) → IsShown w → bare w.columns ≡ empty w
bare_empty w t = ap (λ cs. let x : Grid ViewCol = record { columns = cs; rows = []; cells = [] } in x) (by_id_again shown_id w.columns t.by_ids)

-- an empty table that is given all rows
filled_new : (w : Grid ViewCol) (rows : List ℕ) → rows ≡ w.rows → IsShown w → all_edited (filling w rows) (empty w) ≡ w
filled_new w [] e t = same_grid shown_id w t.is_grid (empty w) (IsShown-empty w t).is_grid refl e (λ d r found here. absurd (false≢true (ap (λ q. has q r) e ∙ here)))
filled_new w (q ∷ qs) e t =
    let rows : List ℕ = q ∷ qs in
    let ks : List CellColumn = whole w rows in
    let f : ViewCol → ℕ → CellValue = λ d r. cond (has rows r) (unwrap_or (given rows ks d.id r) (shown_start d)) (cell shown_id (empty w) d.id r) in
    let ascending : IsAscending rows = subst IsAscending (sym e) t.is_grid.ascending in
    let all : insert_rows rows [] ≡ rows = same_ascending (insert_rows rows []) rows (IsAscending-insert_rows rows [] tt) ascending (λ p. has-insert_rows rows [] p ∙ or_false (has rows p)) in
    same_grid shown_id w t.is_grid (grid_of w.columns (insert_rows rows []) f) (IsGrid-grid_of shown_id w.columns (insert_rows rows []) f t.is_grid.distinct (IsAscending-insert_rows rows [] tt)) refl (all ∙ e)
    (λ d r found here.
    let there : has rows r ≡ true = ap (λ p. has p r) e ∙ here in
    cell-grid_of shown_id w.columns (insert_rows rows []) f d r found (ap (λ p. has p r) all ∙ there)
    ∙ cond_true (has rows r) (unwrap_or (given rows ks d.id r) (shown_start d)) (cell shown_id (empty w) d.id r) there
    ∙ ap (λ o. unwrap_or o (shown_start d)) (given_own shown_id w rows shown_id w.columns d.id r there
    ∙ ap (λ b. cond b (Some (cell shown_id w d.id r)) None) (has_id-find shown_id d.id w.columns ∙ ap is_some found)))

-- what a name finds after a table was introduced
pub named-introduced : (t : ViewTable) (v : List ViewTable) (c : List ℕ) → IsShown (grid t) → named c (after (introduced t) v) ≡ cond (bytes_eq t.id c) (Some t) (named c v)
named-introduced t v c g =
    let es : List Edit = filling (grid t) t.rows in
    let t0 : ViewTable = table t.id (bare t.columns) in
    named-edits t.id es (put_by_id shown_table_id t0 v) c
    ∙ ap (λ o. cond (bytes_eq t.id c) (option_map (with_edits es) o) o) (find-put_by_id shown_table_id t0 v c)
    ∙ elim (bytes_eq t.id c) as (λ b. cond b (option_map (with_edits es) (cond b (Some t0) (named c v))) (cond b (Some t0) (named c v)) ≡ cond b (Some t) (named c v)) [
      | true ↦ ap (λ (g : Grid ViewCol). let x : Option ViewTable = Some (table t.id g) in x) (ap (all_edited es) (bare_empty (grid t) g) ∙ filled_new (grid t) t.rows refl g)
      | false ↦ refl
    ]

pub named-all_introduced : (ts : List ViewTable) (v : List ViewTable) (c : List ℕ) → IsByIds shown_table_id ts → AllByRecursion (λ t. IsShown (grid t)) ts
    → named c (after (for_each introduced ts) v) ≡ or_else (named c ts) (named c v)
named-all_introduced [] v c s g = refl
named-all_introduced (t ∷ ts) v c s g =
    ap (named c) (after-append (introduced t) (for_each introduced ts) v)
    ∙ named-all_introduced ts (after (introduced t) v) c s.1 g.1
    ∙ ap (or_else (named c ts)) (named-introduced t v c g.0)
    ∙ elim (bytes_eq t.id c) as (λ b. bytes_eq t.id c ≡ b → or_else (named c ts) (cond b (Some t) (named c v)) ≡ or_else (cond b (Some t) (named c ts)) (named c v)) [
      | true ↦ λ is. ap (λ o. or_else o (Some t)) (find_low shown_table_id c ts (subst (λ e. AllByRecursion (λ y. precedes e (shown_table_id y) ≡ true) ts) ((bytes_eq-Decides t.id c).0 is) s.0))
      | false ↦ λ _. refl
    ] refl

pub named-removed : (ts : List ViewTable) (v : List ViewTable) (c : List ℕ) → named c (after (map (λ (s : ViewTable). RemoveTable s.id) ts) v) ≡ cond (has_id shown_table_id ts c) None (named c v)
named-removed [] v c = refl
named-removed (t ∷ ts) v c =
    named-removed ts (patched (RemoveTable t.id) v) c
    ∙ ap (λ o. cond (has_id shown_table_id ts c) None o) (find-without_id shown_table_id t.id v c)
    ∙ elim (bytes_eq t.id c) as (λ b. cond (has_id shown_table_id ts c) None (cond b None (named c v)) ≡ cond (b || has_id shown_table_id ts c) None (named c v)) [
      | true ↦ elim (has_id shown_table_id ts c) as (λ b. ◌≡◌ {A = Option ViewTable} (cond b None None) None) [ true ↦ refl | false ↦ refl ]
      | false ↦ refl
    ]

-- a view in order stays in order
same_id : (t : List ℕ) (e : Edit) (s : ViewTable) → (cond (bytes_eq s.id t) (with_edits (e ∷ []) s) s).id ≡ s.id
same_id t e s = elim (bytes_eq s.id t) as (λ b. (cond b (with_edits (e ∷ []) s) s).id ≡ s.id) [ true ↦ refl | false ↦ refl ]

below_edited : (t : List ℕ) (e : Edit) (n : List ℕ) (v : List ViewTable) → AllByRecursion (λ y. precedes n (shown_table_id y) ≡ true) v → AllByRecursion (λ y. precedes n (shown_table_id y) ≡ true) (edit_table t e v)
below_edited t e n [] h = tt
below_edited t e n (s ∷ v) h = (ap (precedes n) (same_id t e s) ∙ h.0, below_edited t e n v h.1)

IsByIds-edited : (t : List ℕ) (e : Edit) (v : List ViewTable) → IsByIds shown_table_id v → IsByIds shown_table_id (edit_table t e v)
IsByIds-edited t e [] h = tt
IsByIds-edited t e (s ∷ v) h =
    (subst (λ n. AllByRecursion (λ y. precedes n (shown_table_id y) ≡ true) (edit_table t e v)) (sym (same_id t e s)) (below_edited t e s.id v h.0), IsByIds-edited t e v h.1)

IsByIds-patched : (c : ViewAction) (v : List ViewTable) → IsByIds shown_table_id v → IsByIds shown_table_id (patched c v)
IsByIds-patched (AddTable t cs) v h = IsByIds-put_by_id shown_table_id (table t (bare cs)) v h
IsByIds-patched (RemoveTable t) v h = IsByIds-filter shown_table_id (λ s. not (bytes_eq (shown_table_id s) t)) v h
IsByIds-patched (AddColumn t d) v h = IsByIds-edited t (add_column d) v h
IsByIds-patched (RemoveColumn t c) v h = IsByIds-edited t (remove_column c) v h
IsByIds-patched (ModifyColumn t d) v h = IsByIds-edited t (modify_column d) v h
IsByIds-patched (BulkAdd t rows ks) v h = IsByIds-edited t (add rows ks) v h
IsByIds-patched (BulkUpdate t rows ks) v h = IsByIds-edited t (update rows ks) v h
IsByIds-patched (BulkRemove t rows) v h = IsByIds-edited t (remove rows) v h

pub IsByIds-after : (cs : List ViewAction) (v : List ViewTable) → IsByIds shown_table_id v → IsByIds shown_table_id (after cs v)
IsByIds-after [] v h = h
IsByIds-after (c ∷ cs) v h = IsByIds-after cs (patched c v) (IsByIds-patched c v h)

-- the edits of a table that was shown before, to what it is now
abbrev pub edits_of : Option ViewTable → ViewTable → List Edit
edits_of None t = []
edits_of (Some s) t = edits (grid s) (grid t)

abbrev pub renewed : List ViewTable → ViewTable → List Edit
renewed v t = edits_of (named t.id v) t

pub revised-renewed : (v : List ViewTable) (t : ViewTable) → revised v t ≡ map (on_table t.id) (renewed v t)
revised-renewed v t = elim (named t.id v) as (λ o. elim o as (λ _. List ViewAction) [ None ↦ [] | Some s ↦ map (on_table t.id) (edits (grid s) (grid t)) ] ≡ map (on_table t.id) (edits_of o t)) [ None ↦ refl | Some s ↦ refl ]

abbrev pub renew : List ViewTable → List ViewTable → List ViewAction
renew v ts = for_each (revised v) ts

-- each table's edits reach that table alone
abbrev pub renewal : List ViewTable → Option ViewTable → Option ViewTable → Option ViewTable
renewal v None o = o
renewal v (Some t) o = option_map (with_edits (renewed v t)) o

pub named-renewed : (v0 ts v : List ViewTable) (c : List ℕ) → IsByIds shown_table_id ts → named c (after (renew v0 ts) v) ≡ renewal v0 (named c ts) (named c v)
named-renewed v0 [] v c s = refl
named-renewed v0 (t ∷ ts) v c s =
    let v1 : List ViewTable = after (map (on_table t.id) (renewed v0 t)) v in
    ap (named c) (after-append (revised v0 t) (renew v0 ts) v ∙ ap (λ es. after (renew v0 ts) (after es v)) (revised-renewed v0 t))
    ∙ named-renewed v0 ts v1 c s.1
    ∙ ap (renewal v0 (named c ts)) (named-edits t.id (renewed v0 t) v c)
    ∙ elim (bytes_eq t.id c) as (λ b. bytes_eq t.id c ≡ b → renewal v0 (named c ts) (cond b (option_map (with_edits (renewed v0 t)) (named c v)) (named c v)) ≡ renewal v0 (cond b (Some t) (named c ts)) (named c v)) [
      | true ↦ λ is. ap (λ o. renewal v0 o (option_map (with_edits (renewed v0 t)) (named c v))) (find_low shown_table_id c ts (subst (λ e. AllByRecursion (λ y. precedes e (shown_table_id y) ≡ true) ts) ((bytes_eq-Decides t.id c).0 is) s.0))
      | false ↦ λ _. refl
    ] refl

abbrev pub is_new : List ViewTable → ViewTable → Bool
is_new v t = not (has_id shown_table_id v (shown_table_id t))

-- by what a name finds in the two views
settled : (v w : List ViewTable) (c : List ℕ) (G W : Option ViewTable) → named c v ≡ G → named c w ≡ W → AllByRecursion (λ t. IsShown (grid t)) v → AllByRecursion (λ t. IsShown (grid t)) w
    → renewal v W (or_else (keep (is_new v) W) (cond (is_some (keep (is_new w) G)) None G)) ≡ W
settled v w c None None eg ew gv gw = refl
settled v w c (Some s) None eg ew gv gw =
    let lost : has_id shown_table_id w s.id ≡ false = ap (has_id shown_table_id w) (found_id shown_table_id c v s eg) ∙ has_id-find shown_table_id c w ∙ ap is_some ew in
    ap (λ b. cond (is_some (cond (not b) (Some s) None)) None (Some s)) lost
settled v w c None (Some t) eg ew gv gw =
    let name : t.id ≡ c = found_id shown_table_id c w t ew in
    let fresh : has_id shown_table_id v t.id ≡ false = ap (has_id shown_table_id v) name ∙ has_id-find shown_table_id c v ∙ ap is_some eg in
    let nothing : named t.id v ≡ None = ap (λ n. named n v) name ∙ eg in
    ap (λ o. option_map (with_edits (edits_of o t)) (or_else (cond (not (has_id shown_table_id v t.id)) (Some t) None) None)) nothing
    ∙ ap (λ b. option_map (with_edits []) (or_else (cond (not b) (Some t) None) None)) fresh
settled v w c (Some s) (Some t) eg ew gv gw =
    let name : t.id ≡ c = found_id shown_table_id c w t ew in
    let old_name : s.id ≡ c = found_id shown_table_id c v s eg in
    let there : has_id shown_table_id v t.id ≡ true = ap (has_id shown_table_id v) name ∙ has_id-find shown_table_id c v ∙ ap is_some eg in
    let stays : has_id shown_table_id w s.id ≡ true = ap (has_id shown_table_id w) old_name ∙ has_id-find shown_table_id c w ∙ ap is_some ew in
    let old : named t.id v ≡ Some s = ap (λ n. named n v) name ∙ eg in
    ap (λ o. option_map (with_edits (edits_of o t)) (or_else (cond (not (has_id shown_table_id v t.id)) (Some t) None) (cond (is_some (cond (not (has_id shown_table_id w s.id)) (Some s) None)) None (Some s)))) old
    ∙ ap (λ b. option_map (with_edits (edits (grid s) (grid t))) (or_else (cond (not b) (Some t) None) (cond (is_some (cond (not (has_id shown_table_id w s.id)) (Some s) None)) None (Some s)))) there
    ∙ ap (λ b. option_map (with_edits (edits (grid s) (grid t))) (cond (is_some (cond (not b) (Some s) None)) None (Some s))) stays
    ∙ ap (λ (g : Grid ViewCol). let x : Option ViewTable = Some (table s.id g) in x)
    (after-edits (grid s) (grid t) (found_all shown_table_id (λ t. IsShown (grid t)) c v s gv eg) (found_all shown_table_id (λ t. IsShown (grid t)) c w t gw ew))
    ∙ ap (λ n. let x : Option ViewTable = Some (table n (grid t)) in x) (old_name ∙ sym name)

-- the changes lead from v to w
pub patch-changes : (v w : List ViewTable) → IsView v → IsView w → patch v (changes v w) ≡ w
patch-changes v w iv iw =
    let gone : List ViewTable = filter (is_new w) v in
    let new : List ViewTable = filter (is_new v) w in
    let cuts : List ViewAction = map (λ (s : ViewTable). RemoveTable s.id) gone in
    let news : List ViewAction = for_each introduced new in
    same_by_ids shown_table_id (after (cuts ++ news ++ renew v w) v) w (IsByIds-after (cuts ++ news ++ renew v w) v iv.by_ids) iw.by_ids (λ c.
    ap (named c) (after-append (cuts ++ news) (renew v w) v ∙ ap (after (renew v w)) (after-append cuts news v))
    ∙ named-renewed v w (after news (after cuts v)) c iw.by_ids
    ∙ ap (renewal v (named c w))
    (named-all_introduced new (after cuts v) c (IsByIds-filter shown_table_id (is_new v) w iw.by_ids) (each_filter (λ t. IsShown (grid t)) (is_new v) w iw.tables)
    ∙ ap (or_else (named c new)) (named-removed gone v c)
    ∙ ap (λ o. or_else o (cond (has_id shown_table_id gone c) None (named c v))) (find-filter shown_table_id (is_new v) c w iw.by_ids)
    ∙ ap (λ b. or_else (keep (is_new v) (named c w)) (cond b None (named c v))) (has_id-find shown_table_id c gone ∙ ap is_some (find-filter shown_table_id (is_new w) c v iv.by_ids)))
    ∙ settled v w c (named c v) (named c w) refl refl iv.tables iw.tables)

-- each table of a view is there
none_new : (v : List ViewTable) → IsView v → AllByRecursion (λ t. is_new v t ≡ false) v
none_new v iv = each_found shown_table_id (λ t. is_new v t ≡ false) v (AreDistinct-IsByIds shown_table_id v iv.by_ids) (λ t found. ap not (has_found shown_table_id t.id v t found))

no_revision : (v ts : List ViewTable) → AllByRecursion (λ t. revised v t ≡ []) ts → for_each (revised v) ts ≡ []
no_revision v [] h = refl
no_revision v (t ∷ ts) h = ap (λ cs. cs ++ for_each (revised v) ts) h.0 ∙ no_revision v ts h.1

-- nothing changes where nothing differs
pub changes_none : (v : List ViewTable) → IsView v → changes v v ≡ []
changes_none v iv =
    ap (λ ts. map (λ (s : ViewTable). RemoveTable s.id) ts ++ for_each introduced ts ++ for_each (revised v) v) (filter_none (is_new v) v (none_new v iv))
    ∙ no_revision v v (each_found shown_table_id (λ t. revised v t ≡ []) v (AreDistinct-IsByIds shown_table_id v iv.by_ids) (λ t found.
    revised-renewed v t
    ∙ ap (λ o. map (on_table t.id) (edits_of o t)) found
    ∙ ap (map (on_table t.id)) (edits_again (grid t) (found_all shown_table_id (λ t. IsShown (grid t)) t.id v t iv.tables found))))

-- the list of changes is empty exactly where the views are equal
pub changes_empty : (v w : List ViewTable) → IsView v → IsView w → changes v w ≡ [] → v ≡ w
changes_empty v w iv iw e = ap (patch v) (sym e) ∙ patch-changes v w iv iw
