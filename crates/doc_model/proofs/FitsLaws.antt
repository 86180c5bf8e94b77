-- Each change of a view fits where it stands.
use Rattle.std.proofs.Common.{ℕ, Bool, true, false, cond, not, ◌||◌, ◌&&◌, ◌+◌, List, [], ◌∷◌, ◌++◌, map, filter, ◌≡◌, refl, sym, ap, subst, ◌∙◌, Option, Some, None, is_some, option_map}
use Rattle.std.proofs.lemmas.Bool.{false≢true, and_parts, or_right}
use Rattle.std.specs.List.{list_all, AllByRecursion}
use Rattle.std.specs.Str.{bytes_eq}
use Rattle.doc_model.specs.declared.column.CellColumn.{CellColumn}
use Rattle.doc_model.specs.declared.view.ViewCol.{ViewCol}
use Rattle.doc_model.specs.declared.view.ViewTable.{ViewTable}
use Rattle.doc_model.specs.declared.view.ViewAction.{ViewAction}
use Rattle.doc_model.specs.declared.view.ViewAction.TheVariants.{RemoveTable}
use Rattle.doc_model.specs.ByIds.{find_id, has_id, AreDistinct, are_distinct, put_by_id, without_id}
use Rattle.doc_model.specs.Rows.{has, without, has_no_duplicates, all_in, none_in}
use Rattle.doc_model.specs.Grid.{Grid}
use Rattle.doc_model.specs.Records.{given_id, column_of, or_else}
use Rattle.doc_model.specs.ViewEdits.{shown_id, IsShown, Edit, remove_column, add_column, modify_column, remove, add, update, edited, all_edited, if_any, whole, differs, edits}
use Rattle.doc_model.specs.Changes.{shown_table_id, grid, table, IsView, on_table, introduced, revised, for_each, changes}
use Rattle.doc_model.specs.Patch.{bare, edit_table, patched, patch, edit_fits, fits_table, fits, unfit_at}
use Rattle.doc_model.proofs.Choices.{cond_true, cond_false, keep, each_weaker, each_both, each_filter, each_passed, both_true, true_each, not_true}
use Rattle.doc_model.proofs.ByIdsLaws.{bytes_itself, bytes_apart, found_id, has_found, found_has, find_absent, each_found, has_id-find, find-filter, has_id-put_by_id, has_id-without, has_id-map, AreDistinct-IsByIds, are_distinct-AreDistinct, IsByIds-filter}
use Rattle.doc_model.proofs.RowsLaws.{each_has, has-filter, IsAscending-filter}
use Rattle.doc_model.proofs.ByRowLaws.{AreDistinct-filter}
use Rattle.doc_model.proofs.TimesLaws.{once_ascending}
use Rattle.doc_model.proofs.ViewEditsLaws.{IsShown-after, find-removed, rows-removed, find-added, rows-added, rows-modified, rows-out, columns-out, columns-shaped, rows-shaped, columns-write, rows-write, after_shape, gone, new, changed, shape, cuts, out, come, come_columns, columns_done, writes, rows_for, write_one}
use Rattle.doc_model.proofs.ViewEditsLaws as edits
use Rattle.doc_model.proofs.ChangesLaws.{patched-on_table, named, with_edits, named-edits, named-introduced, named-removed, named-all_introduced, bare_empty, renewed, edits_of, revised-renewed, renew, is_new}
use Rattle.doc_model.proofs.ChangesLaws as views

-- each edit fits where it stands
abbrev pub EditsFit : List Edit → Grid ViewCol → Type 0
EditsFit [] g = Unit {0}
EditsFit (e ∷ es) g = (edit_fits e g ≡ true) × EditsFit es (edited e g)

EditsFit-append : (es fs : List Edit) (g : Grid ViewCol) → EditsFit es g → EditsFit fs (all_edited es g) → EditsFit (es ++ fs) g
EditsFit-append [] fs g h k = k
EditsFit-append (e ∷ es) fs g h k = (h.0, EditsFit-append es fs (edited e g) h.1 k)

no_column : (b : Bool) → (let o : Option ViewCol = cond b None None in is_some o) ≡ false
no_column true = refl
no_column false = refl

no_table : (b : Bool) → (let o : Option ViewTable = cond b None None in is_some o) ≡ false
no_table true = refl
no_table false = refl

removals-fit : (ds : List ViewCol) (g : Grid ViewCol) → AreDistinct shown_id ds → AllByRecursion (λ d. has_id shown_id g.columns d.id ≡ true) ds → EditsFit (map (λ (d : ViewCol). remove_column d.id) ds) g
removals-fit [] g d h = tt
removals-fit (d ∷ ds) g dist h = (
  h.0,
  removals-fit ds (edited (remove_column d.id) g) dist.1
      (each_weaker (λ e. (bytes_eq d.id e.id ≡ false) × (has_id shown_id g.columns e.id ≡ true)) (λ e. has_id shown_id (without_id shown_id d.id g.columns) e.id ≡ true)
      (λ e k. has_id-without shown_id d.id g.columns e.id ∙ ap (λ b. not b && has_id shown_id g.columns e.id) k.0 ∙ k.1) ds
      (each_both (λ e. bytes_eq d.id e.id ≡ false) (λ e. has_id shown_id g.columns e.id ≡ true) ds dist.0 h.1)),
)

additions-fit : (ds : List ViewCol) (g : Grid ViewCol) → AreDistinct shown_id ds → AllByRecursion (λ d. has_id shown_id g.columns d.id ≡ false) ds → EditsFit (map add_column ds) g
additions-fit [] g d h = tt
additions-fit (d ∷ ds) g dist h = (
  ap not h.0,
  additions-fit ds (edited (add_column d) g) dist.1
      (each_weaker (λ e. (bytes_eq d.id e.id ≡ false) × (has_id shown_id g.columns e.id ≡ false)) (λ e. has_id shown_id (put_by_id shown_id d g.columns) e.id ≡ false)
      (λ e k. has_id-put_by_id shown_id d g.columns e.id ∙ ap (λ b. b || has_id shown_id g.columns e.id) k.0 ∙ k.1) ds
      (each_both (λ e. bytes_eq d.id e.id ≡ false) (λ e. has_id shown_id g.columns e.id ≡ false) ds dist.0 h.1)),
)

modifications-fit : (ds : List ViewCol) (g : Grid ViewCol) → AllByRecursion (λ d. has_id shown_id g.columns d.id ≡ true) ds → EditsFit (map modify_column ds) g
modifications-fit [] g h = tt
modifications-fit (d ∷ ds) g h = (
  h.0,
  modifications-fit ds (edited (modify_column d) g)
      (each_weaker (λ e. has_id shown_id g.columns e.id ≡ true) (λ e. has_id shown_id (put_by_id shown_id d g.columns) e.id ≡ true)
      (λ e k. has_id-put_by_id shown_id d g.columns e.id ∙ or_right (bytes_eq d.id e.id) (has_id shown_id g.columns e.id) k) ds h.1),
)

any-fit : (rows : List ℕ) (e : Edit) (g : Grid ViewCol) → edit_fits e g ≡ true → EditsFit (if_any rows e) g
any-fit [] e g h = tt
any-fit (r ∷ rows) e g h = (h, tt)

-- ids of columns of cells
distinct_whole : (w : Grid ViewCol) (rows : List ℕ) (ds : List ViewCol) → AreDistinct shown_id ds → are_distinct given_id (map (λ (d : ViewCol). column_of shown_id w rows d.id) ds) ≡ true
distinct_whole w rows [] d = refl
distinct_whole w rows (x ∷ ds) d =
    both_true (not (has_id given_id (map (λ (d : ViewCol). column_of shown_id w rows d.id) ds) x.id)) (are_distinct given_id (map (λ (d : ViewCol). column_of shown_id w rows d.id) ds))
    (ap not (has_id-map given_id (λ (d : ViewCol). column_of shown_id w rows d.id) ds x.id ∙ Rattle.doc_model.proofs.ByIdsLaws.has_apart shown_id x.id ds d.0))
    (distinct_whole w rows ds d.1)

there_whole : (w : Grid ViewCol) (columns : List ViewCol) (rows : List ℕ) (ds : List ViewCol) → AllByRecursion (λ d. has_id shown_id columns d.id ≡ true) ds → list_all (λ (k : CellColumn). has_id shown_id columns k.id) (map (λ (d : ViewCol). column_of shown_id w rows d.id) ds) ≡ true
there_whole w columns rows [] h = refl
there_whole w columns rows (d ∷ ds) h = both_true (has_id shown_id columns d.id) (list_all (λ (k : CellColumn). has_id shown_id columns k.id) (map (λ (d : ViewCol). column_of shown_id w rows d.id) ds)) h.0 (there_whole w columns rows ds h.1)

-- each column of a table is there
all_there : (g : Grid ViewCol) → IsShown g → AllByRecursion (λ d. has_id shown_id g.columns d.id ≡ true) g.columns
all_there g s = each_found shown_id (λ d. has_id shown_id g.columns d.id ≡ true) g.columns s.is_grid.distinct (λ d found. has_found shown_id d.id g.columns d found)

module _ (g w : Grid ViewCol) (s : IsShown g) (t : IsShown w) where
  abbrev cut : Grid ViewCol
  cut = all_edited (cuts g w) g

  abbrev added : Grid ViewCol
  added = all_edited (map add_column (new g w)) cut

  abbrev columned : Grid ViewCol
  columned = all_edited (map modify_column (changed g w)) added

  abbrev lost : Grid ViewCol
  lost = all_edited (if_any (out g w) (remove (out g w))) columned

  columned_rows : columned.rows ≡ g.rows
  columned_rows = rows-modified (changed g w) added ∙ rows-added (new g w) cut ∙ rows-removed (gone g w) g

  has_cut : (c : List ℕ) → has_id shown_id cut.columns c ≡ is_some (cond (has_id shown_id (gone g w) c) None (find_id shown_id c g.columns))
  has_cut c = has_id-find shown_id c cut.columns ∙ ap is_some (find-removed (gone g w) g c)

  cuts-fit : EditsFit (cuts g w) g
  cuts-fit = removals-fit (gone g w) g (AreDistinct-filter shown_id (λ d. not (has_id shown_id w.columns (shown_id d))) g.columns s.is_grid.distinct)
      (each_filter (λ d. has_id shown_id g.columns d.id ≡ true) (λ d. not (has_id shown_id w.columns (shown_id d))) g.columns (all_there g s))

  new-fit : EditsFit (map add_column (new g w)) cut
  new-fit = additions-fit (new g w) cut (AreDistinct-filter shown_id (λ d. not (has_id shown_id g.columns (shown_id d))) w.columns t.is_grid.distinct)
      (each_weaker (λ d. (has_id shown_id w.columns d.id ≡ true) × (not (has_id shown_id g.columns d.id) ≡ true)) (λ d. has_id shown_id cut.columns d.id ≡ false)
      (λ d k. has_cut d.id
      ∙ ap (λ o. is_some (cond (has_id shown_id (gone g w) d.id) None o)) (find_absent shown_id d.id g.columns (not_true (has_id shown_id g.columns d.id) k.1))
      ∙ no_column (has_id shown_id (gone g w) d.id))
      (new g w) (each_passed (λ d. has_id shown_id w.columns d.id ≡ true) (λ d. not (has_id shown_id g.columns (shown_id d))) w.columns (all_there w t)))

  -- a column that differs is there before
  differs_there : (d : ViewCol) → differs g.columns d ≡ true → (e : ViewCol) × (find_id shown_id d.id g.columns ≡ Some e)
  differs_there d h =
      elim (find_id shown_id d.id g.columns) as (λ o. elim o as (λ _. Bool) [ None ↦ false | Some e ↦ not (Rattle.doc_model.specs.Same.same_column e d) ] ≡ true → (e : ViewCol) × (o ≡ Some e)) [
        | None ↦ λ h. absurd (false≢true h)
        | Some e ↦ λ _. (e, refl)
      ] h

  changed-fit : EditsFit (map modify_column (changed g w)) added
  changed-fit = modifications-fit (changed g w) added
      (each_weaker (λ d. (has_id shown_id w.columns d.id ≡ true) × (differs g.columns d ≡ true)) (λ d. has_id shown_id added.columns d.id ≡ true)
      (λ d k. present d k.0 (differs_there d k.1))
      (changed g w) (each_passed (λ d. has_id shown_id w.columns d.id ≡ true) (differs g.columns) w.columns (all_there w t)))
    where
      present : (d : ViewCol) → has_id shown_id w.columns d.id ≡ true → (e : ViewCol) × (find_id shown_id d.id g.columns ≡ Some e) → has_id shown_id added.columns d.id ≡ true
      present d here e =
          let same : e.0.id ≡ d.id = found_id shown_id d.id g.columns e.0 e.1 in
          let stays : has_id shown_id (gone g w) d.id ≡ false
          = has_id-find shown_id d.id (gone g w) ∙ ap is_some (find-filter shown_id (λ x. not (has_id shown_id w.columns (shown_id x))) d.id g.columns s.by_ids
          ∙ ap (keep (λ x. not (has_id shown_id w.columns (shown_id x)))) e.1
          ∙ cond_false (not (has_id shown_id w.columns e.0.id)) (Some e.0) None (ap not (ap (has_id shown_id w.columns) same ∙ here))) in
          has_id-find shown_id d.id added.columns
          ∙ ap is_some (find-added (new g w) cut d.id (IsByIds-filter shown_id (λ x. not (has_id shown_id g.columns (shown_id x))) w.columns t.by_ids)
          ∙ ap (or_else (find_id shown_id d.id (new g w))) (find-removed (gone g w) g d.id ∙ ap (λ b. cond b None (find_id shown_id d.id g.columns)) stays ∙ e.1))
          ∙ elim (find_id shown_id d.id (new g w)) as (λ o. is_some (or_else o (Some e.0)) ≡ true) [ None ↦ refl | Some x ↦ refl ]

  out-fit : EditsFit (if_any (out g w) (remove (out g w))) columned
  out-fit = any-fit (out g w) (remove (out g w)) columned
      (ap (all_in (out g w)) columned_rows
      ∙ true_each (λ q. has g.rows q) (out g w) (each_has (λ q. has g.rows q ≡ true) (out g w) (λ q here. (and_parts (not (has w.rows q)) (has g.rows q) (sym (has-filter (λ r. not (has w.rows r)) g.rows q) ∙ here)).1)))

  lost_columns : lost.columns ≡ w.columns
  lost_columns = columns-out (out g w) columned ∙ Rattle.doc_model.proofs.ByIdsLaws.same_by_ids shown_id columned.columns w.columns (edits.IsShown-done g w s).by_ids t.by_ids (edits.find_done g w s t)

  lost_rows : lost.rows ≡ without (out g w) g.rows
  lost_rows = rows-out (out g w) columned ∙ ap (without (out g w)) columned_rows

  come-fit : EditsFit (if_any (come g w) (add (come g w) (come_columns g w))) lost
  come-fit = any-fit (come g w) (add (come g w) (come_columns g w)) lost
      (both_true ((has_no_duplicates (come g w) && none_in (come g w) lost.rows) && are_distinct given_id (come_columns g w)) (list_all (λ (k : CellColumn). has_id shown_id lost.columns k.id) (come_columns g w))
      (both_true (has_no_duplicates (come g w) && none_in (come g w) lost.rows) (are_distinct given_id (come_columns g w))
      (both_true (has_no_duplicates (come g w)) (none_in (come g w) lost.rows)
      (once_ascending (come g w) (IsAscending-filter (λ r. not (has g.rows r)) w.rows t.is_grid.ascending))
      (true_each (λ q. not (has lost.rows q)) (come g w) (each_has (λ q. not (has lost.rows q) ≡ true) (come g w) (λ q here. ap not (absent q here)))))
      (distinct_whole w (come g w) w.columns t.is_grid.distinct))
      (there_whole w lost.columns (come g w) w.columns (subst (λ cs. AllByRecursion (λ d. has_id shown_id cs d.id ≡ true) w.columns) (sym lost_columns) (all_there w t))))
    where
      absent : (q : ℕ) → has (come g w) q ≡ true → has lost.rows q ≡ false
      absent q here =
          let out_of : has g.rows q ≡ false = not_true (has g.rows q) (and_parts (not (has g.rows q)) (has w.rows q) (sym (has-filter (λ r. not (has g.rows r)) w.rows q) ∙ here)).0 in
          ap (λ rows. has rows q) lost_rows ∙ has-filter (λ r. not (has (out g w) r)) g.rows q ∙ ap (λ b. not (has (out g w) q) && b) out_of
          ∙ elim (has (out g w) q) as (λ b. (not b && false) ≡ false) [ true ↦ refl | false ↦ refl ]

  shape-fit : EditsFit (shape g w) g
  shape-fit =
      EditsFit-append (((cuts g w ++ map add_column (new g w)) ++ map modify_column (changed g w)) ++ if_any (out g w) (remove (out g w))) (if_any (come g w) (add (come g w) (come_columns g w))) g
      (EditsFit-append ((cuts g w ++ map add_column (new g w)) ++ map modify_column (changed g w)) (if_any (out g w) (remove (out g w))) g
      (EditsFit-append (cuts g w ++ map add_column (new g w)) (map modify_column (changed g w)) g
      (EditsFit-append (cuts g w) (map add_column (new g w)) g cuts-fit new-fit)
      (subst (EditsFit (map modify_column (changed g w))) (sym (edits.after-append (cuts g w) (map add_column (new g w)) g)) changed-fit))
      (subst (EditsFit (if_any (out g w) (remove (out g w)))) (sym to_columned) out-fit))
      (subst (EditsFit (if_any (come g w) (add (come g w) (come_columns g w)))) (sym to_lost) come-fit)
    where
      to_columned : all_edited ((cuts g w ++ map add_column (new g w)) ++ map modify_column (changed g w)) g ≡ columned
      to_columned = edits.after-append (cuts g w ++ map add_column (new g w)) (map modify_column (changed g w)) g ∙ ap (all_edited (map modify_column (changed g w))) (edits.after-append (cuts g w) (map add_column (new g w)) g)

      to_lost : all_edited (((cuts g w ++ map add_column (new g w)) ++ map modify_column (changed g w)) ++ if_any (out g w) (remove (out g w))) g ≡ lost
      to_lost = edits.after-append ((cuts g w ++ map add_column (new g w)) ++ map modify_column (changed g w)) (if_any (out g w) (remove (out g w))) g ∙ ap (all_edited (if_any (out g w) (remove (out g w)))) to_columned

  writes-fit : (h : Grid ViewCol) (ds : List ViewCol) (x : Grid ViewCol) → x.columns ≡ w.columns → x.rows ≡ w.rows → AllByRecursion (λ d. has_id shown_id w.columns d.id ≡ true) ds → EditsFit (writes h w ds) x
  writes-fit h [] x ec er k = tt
  writes-fit h (d ∷ ds) x ec er k =
      let rows : List ℕ = rows_for h w d in
      let ks : List CellColumn = column_of shown_id w rows d.id ∷ [] in
      EditsFit-append (write_one h w d) (writes h w ds) x
      (any-fit rows (update rows ks) x
      (both_true (all_in rows x.rows) (list_all (λ (k : CellColumn). has_id shown_id x.columns k.id) ks)
      (ap (all_in rows) er ∙ true_each (λ q. has w.rows q) rows (each_has (λ q. has w.rows q ≡ true) rows (λ q here. kept h d q here)))
      (both_true (has_id shown_id x.columns d.id) true (ap (λ cs. has_id shown_id cs d.id) ec ∙ k.0) refl)))
      (writes-fit h ds (all_edited (write_one h w d) x) (columns-write rows ks x ∙ ec) (rows-write rows ks x ∙ er) k.1)
    where
      kept : (h : Grid ViewCol) (d : ViewCol) (q : ℕ) → has (rows_for h w d) q ≡ true → has w.rows q ≡ true
      kept h d q here =
          (and_parts (not (Rattle.doc_model.specs.Same.same_value (edits.at h d.id q) (edits.at w d.id q))) (has w.rows q)
          (sym (has-filter (λ r. not (Rattle.doc_model.specs.Same.same_value (edits.at h d.id r) (edits.at w d.id r))) w.rows q) ∙ here)).1

  -- the edits of a table fit where they stand
  pub edits-fit : EditsFit (edits g w) g
  edits-fit =
      let h : Grid ViewCol = all_edited (shape g w) g in
      EditsFit-append (shape g w) (writes h w w.columns) g shape-fit
      (writes-fit h w.columns h (ap (λ x. x.columns) (after_shape g w) ∙ columns-shaped g w s t) (ap (λ x. x.rows) (after_shape g w) ∙ rows-shaped g w s t) (all_there w t))

-- ---- views

-- each action fits where it stands
abbrev pub AllFit : List ViewAction → List ViewTable → Type 0
AllFit [] v = Unit {0}
AllFit (a ∷ as') v = (fits a v ≡ true) × AllFit as' (patched a v)

pub AllFit-append : (as' bs : List ViewAction) (v : List ViewTable) → AllFit as' v → AllFit bs (patch v as') → AllFit (as' ++ bs) v
AllFit-append [] bs v h k = k
AllFit-append (a ∷ as') bs v h k = (h.0, AllFit-append as' bs (patched a v) h.1 k)

pub unfit_none : (as' : List ViewAction) (v : List ViewTable) → AllFit as' v → unfit_at v as' ≡ None
unfit_none [] v h = refl
unfit_none (a ∷ as') v h =
    cond_true (fits a v) (option_map (λ index. index + 1) (unfit_at (patched a v) as')) (Some 0) h.0
    ∙ ap (option_map (λ index. index + 1)) (unfit_none as' (patched a v) h.1)

fits-on_table : (t : List ℕ) (e : Edit) (v : List ViewTable) → fits (on_table t e) v ≡ fits_table t e v
fits-on_table t (remove_column c) v = refl
fits-on_table t (add_column d) v = refl
fits-on_table t (modify_column d) v = refl
fits-on_table t (remove rows) v = refl
fits-on_table t (add rows ks) v = refl
fits-on_table t (update rows ks) v = refl

-- edits that fit a table fit the view that has it
edits-fit-view : (t : List ℕ) (es : List Edit) (v : List ViewTable) (s : ViewTable) → named t v ≡ Some s → EditsFit es (grid s) → AllFit (map (on_table t) es) v
edits-fit-view t [] v s found h = tt
edits-fit-view t (e ∷ es) v s found h = (
  fits-on_table t e v ∙ ap (λ o. elim o as (λ _. Bool) [ None ↦ false | Some s ↦ edit_fits e (grid s) ]) found ∙ h.0,
  subst (AllFit (map (on_table t) es)) (sym (patched-on_table t e v))
      (edits-fit-view t es (edit_table t e v) (with_edits (e ∷ []) s)
      (ap (named t) (sym (patched-on_table t e v)) ∙ named-edits t (e ∷ []) v t
      ∙ cond_true (bytes_eq t t) (option_map (with_edits (e ∷ [])) (named t v)) (named t v) (bytes_itself t) ∙ ap (option_map (with_edits (e ∷ []))) found)
      h.1),
)

cut_tables-fit : (ts v : List ViewTable) → AreDistinct shown_table_id ts → AllByRecursion (λ t. has_id shown_table_id v t.id ≡ true) ts → AllFit (map (λ (s : ViewTable). RemoveTable s.id) ts) v
cut_tables-fit [] v d h = tt
cut_tables-fit (t ∷ ts) v d h = (
  h.0,
  cut_tables-fit ts (without_id shown_table_id t.id v) d.1
      (each_weaker (λ e. (bytes_eq t.id e.id ≡ false) × (has_id shown_table_id v e.id ≡ true)) (λ e. has_id shown_table_id (without_id shown_table_id t.id v) e.id ≡ true)
      (λ e k. has_id-without shown_table_id t.id v e.id ∙ ap (λ b. not b && has_id shown_table_id v e.id) k.0 ∙ k.1) ts
      (each_both (λ e. bytes_eq t.id e.id ≡ false) (λ e. has_id shown_table_id v e.id ≡ true) ts d.0 h.1)),
)

introduced-fit : (t : ViewTable) (v : List ViewTable) → IsShown (grid t) → has_id shown_table_id v t.id ≡ false → AllFit (introduced t) v
introduced-fit t v s fresh = (
  both_true (not (has_id shown_table_id v t.id)) (are_distinct shown_id t.columns) (ap not fresh) (are_distinct-AreDistinct shown_id t.columns s.is_grid.distinct),
  edits-fit-view t.id (if_any t.rows (add t.rows (whole (grid t) t.rows))) (put_by_id shown_table_id (table t.id (bare t.columns)) v) (table t.id (bare t.columns))
      (Rattle.doc_model.proofs.ByIdsLaws.find-put_by_id shown_table_id (table t.id (bare t.columns)) v t.id ∙ cond_true (bytes_eq t.id t.id) (Some (table t.id (bare t.columns))) (named t.id v) (bytes_itself t.id))
      (any-fit t.rows (add t.rows (whole (grid t) t.rows)) (bare t.columns)
      (both_true ((has_no_duplicates t.rows && none_in t.rows []) && are_distinct given_id (whole (grid t) t.rows)) (list_all (λ (k : CellColumn). has_id shown_id (bare t.columns).columns k.id) (whole (grid t) t.rows))
      (both_true (has_no_duplicates t.rows && none_in t.rows []) (are_distinct given_id (whole (grid t) t.rows))
      (both_true (has_no_duplicates t.rows) (none_in t.rows []) (once_ascending t.rows s.is_grid.ascending) (none_there t.rows))
      (distinct_whole (grid t) t.rows t.columns s.is_grid.distinct))
      (there_whole (grid t) (bare t.columns).columns t.rows t.columns (subst (λ cs. AllByRecursion (λ d. has_id shown_id cs d.id ≡ true) t.columns) (sym (ap (λ (g : Grid ViewCol). g.columns) (bare_empty (grid t) s))) (all_there (grid t) s))))),
)
  where
    none_there : (rows : List ℕ) → none_in rows [] ≡ true
    none_there [] = refl
    none_there (q ∷ rows) = none_there rows

new_tables-fit : (ts v : List ViewTable) → AreDistinct shown_table_id ts → AllByRecursion (λ t. IsShown (grid t)) ts → AllByRecursion (λ t. has_id shown_table_id v t.id ≡ false) ts → AllFit (for_each introduced ts) v
new_tables-fit [] v d g h = tt
new_tables-fit (t ∷ ts) v d g h =
    AllFit-append (introduced t) (for_each introduced ts) v (introduced-fit t v g.0 h.0)
    (new_tables-fit ts (patch v (introduced t)) d.1 g.1
    (each_weaker (λ e. (bytes_eq t.id e.id ≡ false) × (has_id shown_table_id v e.id ≡ false)) (λ e. has_id shown_table_id (patch v (introduced t)) e.id ≡ false)
    (λ e k. has_id-find shown_table_id e.id (patch v (introduced t)) ∙ ap is_some (named-introduced t v e.id g.0 ∙ cond_false (bytes_eq t.id e.id) (Some t) (named e.id v) k.0 ∙ find_absent shown_table_id e.id v k.1)) ts
    (each_both (λ e. bytes_eq t.id e.id ≡ false) (λ e. has_id shown_table_id v e.id ≡ false) ts d.0 h.1)))

-- the table that a revision finds is the one before all changes
renewals-fit : (v0 ts v : List ViewTable) → AreDistinct shown_table_id ts → AllByRecursion (λ t. IsShown (grid t)) v0 → AllByRecursion (λ t. IsShown (grid t)) ts
    → AllByRecursion (λ t. (s : ViewTable) → named t.id v0 ≡ Some s → named t.id v ≡ Some s) ts → AllFit (renew v0 ts) v
renewals-fit v0 [] v d g0 g h = tt
renewals-fit v0 (t ∷ ts) v d g0 g h =
    AllFit-append (revised v0 t) (renew v0 ts) v
    (subst (λ as'. AllFit as' v) (sym (revised-renewed v0 t)) (one (named t.id v0) refl))
    (subst (λ as'. AllFit (renew v0 ts) (patch v as')) (sym (revised-renewed v0 t))
    (renewals-fit v0 ts (patch v (map (on_table t.id) (renewed v0 t))) d.1 g0 g.1
    (each_weaker (λ e. (bytes_eq t.id e.id ≡ false) × ((s : ViewTable) → named e.id v0 ≡ Some s → named e.id v ≡ Some s))
    (λ e. (s : ViewTable) → named e.id v0 ≡ Some s → named e.id (patch v (map (on_table t.id) (renewed v0 t))) ≡ Some s)
    (λ e k s found. named-edits t.id (renewed v0 t) v e.id ∙ cond_false (bytes_eq t.id e.id) (option_map (with_edits (renewed v0 t)) (named e.id v)) (named e.id v) k.0 ∙ k.1 s found) ts
    (each_both (λ e. bytes_eq t.id e.id ≡ false) (λ e. (s : ViewTable) → named e.id v0 ≡ Some s → named e.id v ≡ Some s) ts d.0 h.1))))
  where
    one : (o : Option ViewTable) → named t.id v0 ≡ o → AllFit (map (on_table t.id) (edits_of o t)) v
    one None e = tt
    one (Some s) e = edits-fit-view t.id (edits (grid s) (grid t)) v s (h.0 s e)
        (edits-fit (grid s) (grid t) (Rattle.doc_model.proofs.ByIdsLaws.found_all shown_table_id (λ t. IsShown (grid t)) t.id v0 s g0 e) g.0)

-- all changes fit where they stand
pub changes-fit : (v w : List ViewTable) → IsView v → IsView w → AllFit (changes v w) v
changes-fit v w iv iw =
    let lost : List ViewTable = filter (is_new w) v in
    let fresh : List ViewTable = filter (is_new v) w in
    let cut : List ViewAction = map (λ (s : ViewTable). RemoveTable s.id) lost in
    let news : List ViewAction = for_each introduced fresh in
    let dv : AreDistinct shown_table_id v = AreDistinct-IsByIds shown_table_id v iv.by_ids in
    let dw : AreDistinct shown_table_id w = AreDistinct-IsByIds shown_table_id w iw.by_ids in
    AllFit-append (cut ++ news) (renew v w) v
    (AllFit-append cut news v
    (cut_tables-fit lost v (AreDistinct-filter shown_table_id (is_new w) v dv)
    (each_filter (λ t. has_id shown_table_id v t.id ≡ true) (is_new w) v (each_found shown_table_id (λ t. has_id shown_table_id v t.id ≡ true) v dv (λ t found. has_found shown_table_id t.id v t found))))
    (new_tables-fit fresh (patch v cut) (AreDistinct-filter shown_table_id (is_new v) w dw)
    (each_filter (λ t. IsShown (grid t)) (is_new v) w iw.tables)
    (each_weaker (λ t. (IsShown (grid t)) × (is_new v t ≡ true)) (λ t. has_id shown_table_id (patch v cut) t.id ≡ false)
    (λ t k. has_id-find shown_table_id t.id (patch v cut) ∙ ap is_some (named-removed lost v t.id ∙ ap (cond (has_id shown_table_id lost t.id) None) (find_absent shown_table_id t.id v (not_true (has_id shown_table_id v t.id) k.1)))
    ∙ no_table (has_id shown_table_id lost t.id))
    fresh (each_passed (λ t. IsShown (grid t)) (is_new v) w iw.tables))))
    (subst (AllFit (renew v w)) (sym (views.after-append cut news v))
    (renewals-fit v w (patch (patch v cut) news) dw iv.tables iw.tables
    (each_found shown_table_id (λ t. (s : ViewTable) → named t.id v ≡ Some s → named t.id (patch (patch v cut) news) ≡ Some s) w dw (λ t here s found.
    named-all_introduced fresh (patch v cut) t.id (IsByIds-filter shown_table_id (is_new v) w iw.by_ids) (each_filter (λ t. IsShown (grid t)) (is_new v) w iw.tables)
    ∙ ap (λ o. or_else o (named t.id (patch v cut)))
    (find-filter shown_table_id (is_new v) t.id w iw.by_ids ∙ ap (keep (is_new v)) here
    ∙ cond_false (is_new v t) (Some t) None (ap not (has_found shown_table_id t.id v s found)))
    ∙ named-removed lost v t.id
    ∙ ap (λ b. cond b None (named t.id v))
    (has_id-find shown_table_id t.id lost ∙ ap is_some (find-filter shown_table_id (is_new w) t.id v iv.by_ids ∙ ap (keep (is_new w)) found
    ∙ cond_false (is_new w s) (Some s) None (ap not (ap (has_id shown_table_id w) (found_id shown_table_id t.id v s found) ∙ has_found shown_table_id t.id w t here))))
    ∙ found))))
