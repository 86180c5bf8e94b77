-- What a context shows of touched tables is the part of its views that steps are about.
use Rattle.std.proofs.Common.{ℕ, zero, suc, ◌+◌, ◌<◌, Bool, true, false, cond, ◌&&◌, List, [], ◌∷◌, ◌++◌, append-nil, map, filter, take, length, get_or, ◌≡◌, refl, sym, ap, subst, ◌∙◌, Option, Some, None, option_map, is_some, slice_get, arith}
use Rattle.std.proofs.lemmas.Bool.{false≢true}
use Rattle.std.proofs.lemmas.List.{map-append, take_more}
use Rattle.std.proofs.lemmas.List.Elements.{filter-append}
use Rattle.doc_model.specs.declared.column.ColDef.{ColDef}
use Rattle.doc_model.specs.declared.view.ViewTable.{ViewTable}
use Rattle.doc_model.specs.ByIds.{AreDistinct, by_id, find_id, has_id, put_by_id}
use Rattle.doc_model.specs.Changes.{IsView, shown_table_id}
use Rattle.doc_model.specs.Document.{Document, Table, on_grid, table_id}
use Rattle.doc_model.specs.Grid.{Grid}
use Rattle.doc_model.specs.LaidOut.{IsLaidOut}
use Rattle.doc_model.specs.Schema.{no_grid}
use Rattle.doc_model.proofs.ByIdsLaws.{IsByIds-by_id, find-filtered, found_all, found_has, found_id, has_id-by_id, has_id-find, has_id-map, same_by_ids}
use Rattle.doc_model.proofs.Choices.{keep}
use Rattle.doc_readers.specs.Parts.{grid_at}
use Rattle.plain_view.proofs.PartLemmas.{find-mapped}
use Rattle.acl_formula.specs.RuleRow.{RuleRow}
use Rattle.censored_view.specs.Parts.{part, shown_part}
use Rattle.censored_view.specs.Readable.{Readable}
use Rattle.censored_view.specs.Rows.{rows_at}
use Rattle.censored_view.specs.View.{is_shown, shown_columns, shown_rows}
use Rattle.censored_view.proofs.PlacedLemmas.{absent-filter, absent_before, by_id-last, find-by_id}
use Rattle.censored_view.proofs.ViewLemmas.{IsView-part}
use Rattle.action_censor.specs.declared.touched_table.TouchedTable.{TouchedTable}
use Rattle.action_censor.specs.Back.{back, grid_back}
use Rattle.action_censor.specs.ShownParts.{all_after, all_before, part_after, part_before, shown_with, shows}
use Rattle.action_censor.specs.Step.{Step, is_row_of, is_table_of}
use Rattle.action_censor.specs.TouchedTables.{AreTouchedTables, IsTouchedTable, kept_row, passing_rows, touched_id}
use Rattle.action_censor.proofs.BackLemmas.{IsLaidOut-back, find-back}

got : {X : Type 0} (xs : List X) (i : ℕ) (x : X) → i < length xs → x ≡ get_or xs i x → slice_get xs i ≡ Some x
got [] i x lt is = absurd (omega (arith, lt))
got (y ∷ xs) zero x lt is = ap (λ z. let o : Option _ = Some z in o) (sym is)
got (y ∷ xs) (suc i) x lt is = got xs i x (omega (arith, lt)) is

-- ---- touched tables that are put in their places, each with some rows

module _ (x : List ℕ → Readable) (s : Document) (rows : TouchedTable → List RuleRow) where
  abbrev as_part : TouchedTable → ViewTable
  as_part t = shown_with x s t (rows t)

  abbrev pub all_parts : List TouchedTable → List ViewTable
  all_parts ts = by_id shown_table_id (map as_part (filter (shows x s) ts))

  module _ (ts : List TouchedTable) (distinct : AreDistinct touched_id ts) (i : ℕ) (t : TouchedTable) (lt : i < length ts) (is : t ≡ get_or ts i t) (ys : List ViewTable) (so : ys ≡ all_parts (take i ts)) where
    abbrev before : List TouchedTable
    before = filter (shows x s) (take i ts)

    absent : has_id shown_table_id (map as_part before) t.id ≡ false
    absent =
        has_id-map shown_table_id as_part before t.id
        ∙ absent-filter touched_id (shows x s) (take i ts) t.id (absent_before touched_id ts i t distinct (got ts i t lt is))

    pub part_new : has_id shown_table_id ys t.id ≡ false
    part_new = ap (λ l. has_id shown_table_id l t.id) so ∙ has_id-by_id shown_table_id (map as_part before) t.id ∙ absent

    pub parts_next : (zs : List ViewTable) → zs ≡ cond (shows x s t) (put_by_id shown_table_id (as_part t) ys) ys → zs ≡ all_parts (take (i + 1) ts)
    parts_next zs made =
        made ∙ ap (λ l. cond (shows x s t) (put_by_id shown_table_id (as_part t) l) l) so
        ∙ elim (shows x s t) as (λ b. cond b (put_by_id shown_table_id (as_part t) (all_parts (take i ts))) (all_parts (take i ts)) ≡ by_id shown_table_id (map as_part (before ++ cond b (t ∷ []) []))) [
          | true ↦ sym (by_id-last shown_table_id (map as_part before) (as_part t) absent) ∙ ap (by_id shown_table_id) (sym (map-append as_part before (t ∷ [])))
          | false ↦ ap (λ l. by_id shown_table_id (map as_part l)) (sym (append-nil before))
        ]
        ∙ ap (λ l. by_id shown_table_id (map as_part l)) (sym (filter-append (shows x s) (take i ts) (t ∷ [])))
        ∙ ap all_parts (sym (take_more ts i t lt ∙ ap (λ z. take i ts ++ z ∷ []) (sym is)))

  -- what an id finds among them
  abbrev found_part : Option TouchedTable → Option ViewTable
  found_part None = None
  found_part (Some t) = cond (shows x s t) (Some (as_part t)) None

  mapped_kept : (o : Option TouchedTable) → option_map as_part (keep (shows x s) o) ≡ found_part o
  mapped_kept None = refl
  mapped_kept (Some t) = elim (shows x s t) as (λ b. option_map as_part (cond b (Some t) None) ≡ cond b (Some (as_part t)) None) [ true ↦ refl | false ↦ refl ]

  find-parts : (ts : List TouchedTable) → AreDistinct touched_id ts → (c : List ℕ) → find_id shown_table_id c (all_parts ts) ≡ found_part (find_id touched_id c ts)
  find-parts ts distinct c =
      find-by_id shown_table_id c (map as_part (filter (shows x s) ts))
      ∙ find-mapped touched_id shown_table_id as_part (λ t. refl) c (filter (shows x s) ts)
      ∙ ap (option_map as_part) (find-filtered touched_id (shows x s) c ts distinct)
      ∙ mapped_kept (find_id touched_id c ts)

-- ---- what an id finds in a part of a view

-- what is seen of a table that may be there, in a part
abbrev seen_in : (affected : List ℕ → Bool) (test : List ℕ → ℕ → Bool) (x : List ℕ → Readable) (c : List ℕ) → Option Table → Option ViewTable
seen_in affected test x c None = None
seen_in affected test x c (Some t) =
    cond (affected c && is_shown (x c) t.grid.columns) (Some (shown_rows (x c) c (shown_columns (x c) t.grid.columns) (passing_rows (test c) t.grid))) None

module _ (affected : List ℕ → Bool) (test : List ℕ → ℕ → Bool) (x : List ℕ → Readable) where
  abbrev passes : Table → Bool
  passes t = affected t.id && is_shown (x t.id) t.grid.columns

  abbrev as_shown : Table → ViewTable
  as_shown t = shown_part (test t.id) (x t.id) t

  kept : (c : List ℕ) (o : Option Table) → ((t : Table) → o ≡ Some t → t.id ≡ c) → option_map as_shown (keep passes o) ≡ seen_in affected test x c o
  kept c None named = refl
  kept c (Some t) named =
      elim (passes t) as (λ b. option_map as_shown (cond b (Some t) None) ≡ cond b (Some (as_shown t)) None) [ true ↦ refl | false ↦ refl ]
      ∙ ap (λ n. seen_in affected test x n (Some t)) (named t refl)

  find-part : (s : Document) → IsLaidOut s → (c : List ℕ) → find_id shown_table_id c (part affected test x s) ≡ seen_in affected test x c (find_id table_id c s)
  find-part s laid c =
      find-by_id shown_table_id c (map as_shown (filter passes s))
      ∙ find-mapped table_id shown_table_id as_shown (λ t. refl) c (filter passes s)
      ∙ ap (option_map as_shown) (find-filtered table_id passes c s laid.distinct)
      ∙ kept c (find_id table_id c s) (λ t found. found_id table_id c s t found)

-- ---- both are the same

module _ (ks : List Step) (x : List ℕ → Readable) (s : Document) (ts : List TouchedTable) (are : AreTouchedTables ks s ts) where
  -- of a table that is not touched nothing is seen
  unseen : (c : List ℕ) (o : Option Table) → (is_table_of ks c ≡ true → is_some o ≡ true → ⊥) → None ≡ seen_in (is_table_of ks) (is_row_of ks) x c o
  unseen c None nothing = refl
  unseen c (Some t) nothing =
      elim (is_table_of ks c) as (λ b. is_table_of ks c ≡ b → None ≡ cond (b && is_shown (x c) t.grid.columns) (Some (shown_rows (x c) c (shown_columns (x c) t.grid.columns) (passing_rows (is_row_of ks c) t.grid))) None) [
        | true ↦ λ about. absurd (nothing about refl)
        | false ↦ λ _. refl
      ] refl

  not_both : (c : List ℕ) → find_id touched_id c ts ≡ None → is_table_of ks c ≡ true → is_some (find_id table_id c s) ≡ true → ⊥
  not_both c none about there =
      false≢true (sym (has_id-find touched_id c ts ∙ ap is_some none) ∙ are.all c about (has_id-find table_id c s ∙ there))

  some_back : (c : List ℕ) (o : Option Table) → is_some (option_map (on_grid (grid_back ks c)) o) ≡ is_some o
  some_back c None = refl
  some_back c (Some t) = refl

  -- a touched table, where g is the table and h the one whose rows are shown, under the same columns
  seen_touched : (t : TouchedTable) (u : Table) → grid_at s t.id ≡ u.grid → is_table_of ks t.id ≡ true → (h : Grid ColDef) → h.columns ≡ u.grid.columns → (rows : List RuleRow) → rows ≡ passing_rows (is_row_of ks t.id) h
      → cond (shows x s t) (Some (shown_with x s t rows)) None ≡ seen_in (is_table_of ks) (is_row_of ks) x t.id (Some (record { id = u.id; row = u.row; grid = h }))
  seen_touched t u its about h columns rows is =
      ap (λ (ds : List ColDef). cond (is_shown (x t.id) ds) (Some (shown_rows (x t.id) t.id (shown_columns (x t.id) ds) rows)) None) (ap (λ (g : Grid ColDef). g.columns) its ∙ sym columns)
      ∙ ap (λ l. cond (is_shown (x t.id) h.columns) (Some (shown_rows (x t.id) t.id (shown_columns (x t.id) h.columns) l)) None) is
      ∙ ap (λ b. cond (b && is_shown (x t.id) h.columns) (Some (shown_rows (x t.id) t.id (shown_columns (x t.id) h.columns) (passing_rows (is_row_of ks t.id) h))) None) (sym about)

  its_grid : (c : List ℕ) (u : Table) → find_id table_id c s ≡ Some u → grid_at s c ≡ u.grid
  its_grid c u found = ap (λ (o : Option Table). elim o as (λ _. Grid ColDef) [ None ↦ no_grid | Some t ↦ t.grid ]) found

  after_here : (t : TouchedTable) → IsTouchedTable ks s t → cond (shows x s t) (Some (part_after x s t)) None ≡ seen_in (is_table_of ks) (is_row_of ks) x t.id (find_id table_id t.id s)
  after_here t made =
      let u : (u : Table) × (find_id table_id t.id s ≡ Some u) = found_has table_id t.id s made.there in
      let its : grid_at s t.id ≡ u.0.grid = its_grid t.id u.0 u.1 in
      seen_touched t u.0 its made.about u.0.grid refl (rows_at s t.id t.after.items)
      (ap (rows_at s t.id) made.after ∙ ap (passing_rows (is_row_of ks t.id)) its)
      ∙ ap (seen_in (is_table_of ks) (is_row_of ks) x t.id) (sym u.1)

  before_here : (t : TouchedTable) → IsTouchedTable ks s t → cond (shows x s t) (Some (part_before x s t)) None ≡ seen_in (is_table_of ks) (is_row_of ks) x t.id (option_map (on_grid (grid_back ks t.id)) (find_id table_id t.id s))
  before_here t made =
      let u : (u : Table) × (find_id table_id t.id s ≡ Some u) = found_has table_id t.id s made.there in
      let its : grid_at s t.id ≡ u.0.grid = its_grid t.id u.0 u.1 in
      seen_touched t u.0 its made.about (grid_back ks t.id u.0.grid) refl (map kept_row t.before.items)
      (made.before ∙ ap (λ g. passing_rows (is_row_of ks t.id) (grid_back ks t.id g)) its)
      ∙ ap (λ o. seen_in (is_table_of ks) (is_row_of ks) x t.id (option_map (on_grid (grid_back ks t.id)) o)) (sym u.1)

  found_after : (c : List ℕ) (o : Option TouchedTable) → find_id touched_id c ts ≡ o → found_part x s (λ t. rows_at s t.id t.after.items) o ≡ seen_in (is_table_of ks) (is_row_of ks) x c (find_id table_id c s)
  found_after c None none = unseen c (find_id table_id c s) (not_both c none)
  found_after c (Some t) found =
      after_here t (found_all touched_id (IsTouchedTable ks s) c ts t are.each found)
      ∙ ap (λ n. seen_in (is_table_of ks) (is_row_of ks) x n (find_id table_id n s)) (found_id touched_id c ts t found)

  found_before : (c : List ℕ) (o : Option TouchedTable) → find_id touched_id c ts ≡ o → found_part x s (λ t. map kept_row t.before.items) o ≡ seen_in (is_table_of ks) (is_row_of ks) x c (option_map (on_grid (grid_back ks c)) (find_id table_id c s))
  found_before c None none =
      unseen c (option_map (on_grid (grid_back ks c)) (find_id table_id c s)) (λ about there. not_both c none about (sym (some_back c (find_id table_id c s)) ∙ there))
  found_before c (Some t) found =
      before_here t (found_all touched_id (IsTouchedTable ks s) c ts t are.each found)
      ∙ ap (λ n. seen_in (is_table_of ks) (is_row_of ks) x n (option_map (on_grid (grid_back ks n)) (find_id table_id n s))) (found_id touched_id c ts t found)

  module _ (laid : IsLaidOut s) where
    pub after_part : all_after x s ts ≡ part (is_table_of ks) (is_row_of ks) x s
    after_part =
        same_by_ids shown_table_id (all_after x s ts) (part (is_table_of ks) (is_row_of ks) x s)
        (IsByIds-by_id shown_table_id (map (part_after x s) (filter (shows x s) ts))) (IsView-part x s laid (is_table_of ks) (is_row_of ks)).by_ids
        (λ c. find-parts x s (λ t. rows_at s t.id t.after.items) ts are.distinct c
        ∙ found_after c (find_id touched_id c ts) refl
        ∙ sym (find-part (is_table_of ks) (is_row_of ks) x s laid c))

    pub before_part : all_before x s ts ≡ part (is_table_of ks) (is_row_of ks) x (back ks s)
    before_part =
        same_by_ids shown_table_id (all_before x s ts) (part (is_table_of ks) (is_row_of ks) x (back ks s))
        (IsByIds-by_id shown_table_id (map (part_before x s) (filter (shows x s) ts))) (IsView-part x (back ks s) (IsLaidOut-back ks s laid) (is_table_of ks) (is_row_of ks)).by_ids
        (λ c. find-parts x s (λ t. map kept_row t.before.items) ts are.distinct c
        ∙ found_before c (find_id touched_id c ts) refl
        ∙ ap (seen_in (is_table_of ks) (is_row_of ks) x c) (sym (find-back ks s c))
        ∙ sym (find-part (is_table_of ks) (is_row_of ks) x (back ks s) (IsLaidOut-back ks s laid) c))

    pub after_is_view : IsView (all_after x s ts)
    after_is_view = subst IsView (sym after_part) (IsView-part x s laid (is_table_of ks) (is_row_of ks))

    pub before_is_view : IsView (all_before x s ts)
    before_is_view = subst IsView (sym before_part) (IsView-part x (back ks s) (IsLaidOut-back ks s laid) (is_table_of ks) (is_row_of ks))
