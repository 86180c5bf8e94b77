-- Walks over the tables of a document, and tables put in their places.
use Rattle.std.proofs.Common.{ℕ, ◌+◌, Bool, true, false, cond, ◌&&◌, List, [], ◌∷◌, ◌++◌, append-nil, map, filter, take, slice_get, ◌≡◌, refl, sym, ap, subst, ◌∙◌, Option, Some, None}
use Rattle.std.proofs.lemmas.List.{map-append}
use Rattle.std.proofs.lemmas.List.Elements.{filter-append}
use Rattle.std.specs.Option.{option_map, IfSome}
use Rattle.doc_model.specs.declared.column.ColDef.{ColDef}
use Rattle.doc_model.specs.declared.view.ViewTable.{ViewTable}
use Rattle.doc_model.specs.ByIds.{by_id, find_id, has_id, put_by_id}
use Rattle.doc_model.specs.Changes.{shown_table_id}
use Rattle.doc_model.specs.Document.{Document, Table, table_id}
use Rattle.doc_model.specs.Grid.{Grid}
use Rattle.doc_model.specs.LaidOut.{IsLaidOut}
use Rattle.doc_model.specs.Readers.{table_at}
use Rattle.doc_model.specs.Schema.{no_grid}
use Rattle.doc_model.proofs.ByIdsLaws.{find_absent, found_has, has_id-by_id, has_id-map}
use Rattle.doc_model.proofs.Choices.{cond_false, cond_true}
use Rattle.doc_readers.specs.Parts.{grid_at}
use Rattle.censored_view.specs.Parts.{part, seen_part, shown_part, with_seen}
use Rattle.censored_view.specs.Readable.{Readable, row_of}
use Rattle.censored_view.specs.Rows.{rows_at}
use Rattle.censored_view.specs.View.{is_shown, shown_columns, shown_rows}
use Rattle.censored_view.proofs.PlacedLemmas.{absent-filter, absent_before, all_taken, by_id-last, found_at, take_next}

-- ---- the ids of the tables

pub table_read : (s : Document) (i : ℕ) (id : List ℕ) → table_at s i ≡ Some id → (t : Table) × (slice_get s i ≡ Some t) × (id ≡ t.id)
table_read s i id h = elim (slice_get s i) as (λ o. slice_get s i ≡ o → option_map table_id o ≡ Some id → (t : Table) × (slice_get s i ≡ Some t) × (id ≡ t.id)) [
  | None ↦ λ is e. absurd (cc)
  | Some t ↦ λ is e. (t, is, cc)
] refl h

pub table_past : (s : Document) (i : ℕ) → table_at s i ≡ None → slice_get s i ≡ None
table_past s i h = elim (slice_get s i) as (λ o. slice_get s i ≡ o → option_map table_id o ≡ None → slice_get s i ≡ None) [
  | None ↦ λ is e. is
  | Some t ↦ λ is e. absurd (cc)
] refl h

-- ---- what is seen of one table

its : (o : Option Table) (t : Table) → o ≡ Some t → (elim o as (λ _. Grid ColDef) [ None ↦ no_grid | Some t ↦ t.grid ]) ≡ t.grid
its o t found = ap (λ (o : Option Table). elim o as (λ _. Grid ColDef) [ None ↦ no_grid | Some t ↦ t.grid ]) found

module _ (x : Readable) (s : Document) (id rows : List ℕ) where
  pub seen_absent : has_id table_id s id ≡ false → None ≡ seen_part x id (find_id table_id id s) rows
  seen_absent none = ap (λ o. seen_part x id o rows) (sym (find_absent table_id id s none))

  module _ (there : has_id table_id s id ≡ true) where
    here : (t : Table) × (find_id table_id id s ≡ Some t)
    here = found_has table_id id s there

    grid_here : grid_at s id ≡ here.0.grid
    grid_here = its (find_id table_id id s) here.0 here.1

    pub seen_hidden : is_shown x (grid_at s id).columns ≡ false → None ≡ seen_part x id (find_id table_id id s) rows
    seen_hidden isnt =
        let t : Table = here.0 in
        sym (ap (λ o. seen_part x id o rows) here.1
        ∙ cond_false (is_shown x t.grid.columns) (Some (shown_rows x id (shown_columns x t.grid.columns) (map (row_of t.grid) rows))) None
        (ap (λ (g : Grid ColDef). is_shown x g.columns) (sym grid_here) ∙ isnt))

    pub seen_made : (shown : ViewTable) → is_shown x (grid_at s id).columns ≡ true → shown ≡ shown_rows x id (shown_columns x (grid_at s id).columns) (rows_at s id rows) → Some shown ≡ seen_part x id (find_id table_id id s) rows
    seen_made shown is made =
        let t : Table = here.0 in
        ap (λ v. let o : Option ViewTable = Some v in o) (made ∙ ap (λ (g : Grid ColDef). shown_rows x id (shown_columns x g.columns) (map (row_of g) rows)) grid_here)
        ∙ sym (ap (λ o. seen_part x id o rows) here.1
        ∙ cond_true (is_shown x t.grid.columns) (Some (shown_rows x id (shown_columns x t.grid.columns) (map (row_of t.grid) rows))) None
        (ap (λ (g : Grid ColDef). is_shown x g.columns) (sym grid_here) ∙ is))

chosen_named : (b : Bool) (t : ViewTable) (id : List ℕ) (P : List ℕ → Type 0) → t.id ≡ id → P id → IfSome (cond b (Some t) None) (λ (u : ViewTable). P u.id)
chosen_named true t id P named p = subst P (sym named) p
chosen_named false t id P named p = tt

-- it has the id that was asked for
pub seen_named : (x : Readable) (id rows : List ℕ) (o : Option Table) (P : List ℕ → Type 0) → P id → IfSome (seen_part x id o rows) (λ (u : ViewTable). P u.id)
seen_named x id rows None P p = tt
seen_named x id rows (Some t) P p =
    chosen_named (is_shown x t.grid.columns) (shown_rows x id (shown_columns x t.grid.columns) (map (row_of t.grid) rows)) id P refl p

-- ---- tables put in their places

with_chosen : (b : Bool) (t : ViewTable) (v : List ViewTable) → with_seen (cond b (Some t) None) v ≡ cond b (put_by_id shown_table_id t v) v
with_chosen true t v = refl
with_chosen false t v = refl

and_chosen : {X : Type 0} (a b : Bool) (x y : X) → cond a (cond b x y) y ≡ cond (a && b) x y
and_chosen true b x y = refl
and_chosen false b x y = refl

module _ (affected : List ℕ → Bool) (test : List ℕ → ℕ → Bool) (x : List ℕ → Readable) (s : Document) (laid : IsLaidOut s) (n : ℕ) (t : Table) (at : slice_get s n ≡ Some t) (id : List ℕ) (named : id ≡ t.id) (ys : List ViewTable) (so : ys ≡ part affected test x (take n s)) where
  abbrev passes : Table → Bool
  passes t = affected t.id && is_shown (x t.id) t.grid.columns

  abbrev as_part : Table → ViewTable
  as_part t = shown_part (test t.id) (x t.id) t

  absent : has_id shown_table_id (map as_part (filter passes (take n s))) t.id ≡ false
  absent =
      has_id-map shown_table_id as_part (filter passes (take n s)) t.id
      ∙ absent-filter table_id passes (take n s) t.id (absent_before table_id s n t laid.distinct at)

  pub table_new : has_id shown_table_id ys id ≡ false
  table_new =
      ap (λ l. has_id shown_table_id l id) so
      ∙ ap (has_id shown_table_id (part affected test x (take n s))) named
      ∙ has_id-by_id shown_table_id (map as_part (filter passes (take n s))) t.id
      ∙ absent

  -- the rows that pass are seen, where the table is shown
  seen_here : seen_part (x id) id (find_id table_id id s) (filter (test id) (grid_at s id).rows) ≡ cond (is_shown (x t.id) t.grid.columns) (Some (as_part t)) None
  seen_here =
      let found : find_id table_id t.id s ≡ Some t = found_at table_id s n t laid.distinct at in
      ap (λ n. seen_part (x n) n (find_id table_id n s) (filter (test n) (grid_at s n).rows)) named
      ∙ ap (λ (g : Grid ColDef). seen_part (x t.id) t.id (find_id table_id t.id s) (filter (test t.id) g.rows)) (its (find_id table_id t.id s) t found)
      ∙ ap (λ o. seen_part (x t.id) t.id o (filter (test t.id) t.grid.rows)) found

  pub part_next : (zs : List ViewTable) → zs ≡ cond (affected id) (with_seen (seen_part (x id) id (find_id table_id id s) (filter (test id) (grid_at s id).rows)) ys) ys → zs ≡ part affected test x (take (n + 1) s)
  part_next zs made =
      let before : List Table = filter passes (take n s) in
      made
      ∙ ap (λ o. cond (affected id) (with_seen o ys) ys) seen_here
      ∙ ap (λ n. cond (affected n) (with_seen (cond (is_shown (x t.id) t.grid.columns) (Some (as_part t)) None) ys) ys) named
      ∙ ap (λ l. cond (affected t.id) l ys) (with_chosen (is_shown (x t.id) t.grid.columns) (as_part t) ys)
      ∙ and_chosen (affected t.id) (is_shown (x t.id) t.grid.columns) (put_by_id shown_table_id (as_part t) ys) ys
      ∙ ap (λ l. cond (passes t) (put_by_id shown_table_id (as_part t) l) l) so
      ∙ elim (passes t) as (λ b. cond b (put_by_id shown_table_id (as_part t) (part affected test x (take n s))) (part affected test x (take n s)) ≡ by_id shown_table_id (map as_part (before ++ cond b (t ∷ []) []))) [
        | true ↦ sym (by_id-last shown_table_id (map as_part before) (as_part t) absent) ∙ ap (by_id shown_table_id) (sym (map-append as_part before (t ∷ [])))
        | false ↦ ap (λ l. by_id shown_table_id (map as_part l)) (sym (append-nil before))
      ]
      ∙ ap (λ l. by_id shown_table_id (map as_part l)) (sym (filter-append passes (take n s) (t ∷ [])))
      ∙ ap (part affected test x) (sym (take_next s n t at))

pub part_end : (affected : List ℕ → Bool) (test : List ℕ → ℕ → Bool) (x : List ℕ → Readable) (s : Document) (n : ℕ) (ys : List ViewTable) → slice_get s n ≡ None → ys ≡ part affected test x (take n s) → ys ≡ part affected test x s
part_end affected test x s n ys past so = so ∙ ap (part affected test x) (all_taken s n past)
