-- Walks over the columns of a table by their indexes.
use Rattle.std.proofs.Common.{ℕ, zero, suc, ◌+◌, ◌-◌, ◌<◌, Bool, true, false, cond, ◌||◌, List, [], ◌∷◌, ◌++◌, append-nil, map, filter, take, drop, length, slice_get, ◌≡◌, refl, sym, ap, ◌∙◌, Option, Some, None, arith}
use Rattle.std.proofs.lemmas.List.{map-append}
use Rattle.std.proofs.lemmas.List.Elements.{filter-append}
use Rattle.std.proofs.lemmas.Option.{slice_get_within}
use Rattle.std.specs.List.{list_any}
use Rattle.doc_model.specs.declared.column.ColDef.{ColDef}
use Rattle.doc_model.specs.declared.view.ViewCol.{ViewCol}
use Rattle.doc_model.specs.ByIds.{AreDistinct, by_id, find_id, has_id, put_by_id}
use Rattle.doc_model.specs.Column.{column_id}
use Rattle.doc_model.specs.Document.{Document, Table, table_id}
use Rattle.doc_model.specs.Grid.{Grid, IsGrid}
use Rattle.doc_model.specs.LaidOut.{IsLaidOut}
use Rattle.doc_model.specs.Schema.{no_grid}
use Rattle.doc_model.specs.ViewEdits.{shown_id}
use Rattle.doc_model.proofs.ByIdsLaws.{found_all, has_id-by_id, has_id-map}
use Rattle.doc_readers.specs.Parts.{grid_at}
use Rattle.censored_view.specs.Readable.{Readable}
use Rattle.censored_view.specs.View.{is_shown, shown_column, shown_columns}
use Rattle.censored_view.proofs.PlacedLemmas.{absent-filter, absent_before, all_taken, by_id-last, take_next}

-- no two columns of a table have one id
pub distinct_columns : (s : Document) → IsLaidOut s → (c : List ℕ) → AreDistinct column_id (grid_at s c).columns
distinct_columns s laid c =
    elim (find_id table_id c s) as (λ (o : Option Table). find_id table_id c s ≡ o → AreDistinct column_id (elim o as (λ _. Grid ColDef) [ None ↦ no_grid | Some t ↦ t.grid ]).columns) [
      | None ↦ λ _. tt
      | Some t ↦ λ e. (found_all table_id (λ t. IsGrid column_id t.grid) c s t laid.grids e).distinct
    ] refl

-- ---- columns put in their places

module _ (x : Readable) (all : List ColDef) (n : ℕ) (d : ColDef) (distinct : AreDistinct column_id all) (at : slice_get all n ≡ Some d) where
  abbrev before : List ColDef
  before = filter (λ (e : ColDef). x.column e.id) (take n all)

  absent : has_id shown_id (map (shown_column x) before) d.id ≡ false
  absent =
      has_id-map shown_id (shown_column x) before d.id
      ∙ absent-filter column_id (λ (e : ColDef). x.column e.id) (take n all) d.id (absent_before column_id all n d distinct at)

  pub column_new : (ys : List ViewCol) → ys ≡ shown_columns x (take n all) → has_id shown_id ys d.id ≡ false
  column_new ys so = ap (λ l. has_id shown_id l d.id) so ∙ has_id-by_id shown_id (map (shown_column x) before) d.id ∙ absent

  pub columns_next : (ys zs : List ViewCol) → ys ≡ shown_columns x (take n all) → zs ≡ cond (x.column d.id) (put_by_id shown_id (shown_column x d) ys) ys → zs ≡ shown_columns x (take (n + 1) all)
  columns_next ys zs so made =
      made ∙ ap (λ l. cond (x.column d.id) (put_by_id shown_id (shown_column x d) l) l) so
      ∙ elim (x.column d.id) as (λ b. cond b (put_by_id shown_id (shown_column x d) (shown_columns x (take n all))) (shown_columns x (take n all)) ≡ by_id shown_id (map (shown_column x) (before ++ cond b (d ∷ []) []))) [
        | true ↦ sym (by_id-last shown_id (map (shown_column x) before) (shown_column x d) absent) ∙ ap (by_id shown_id) (sym (map-append (shown_column x) before (d ∷ [])))
        | false ↦ ap (λ l. by_id shown_id (map (shown_column x) l)) (sym (append-nil before))
      ]
      ∙ ap (λ l. by_id shown_id (map (shown_column x) l)) (sym (filter-append (λ (e : ColDef). x.column e.id) (take n all) (d ∷ [])))
      ∙ ap (shown_columns x) (sym (take_next all n d at))

pub columns_end : (x : Readable) (all : List ColDef) (n : ℕ) (ys : List ViewCol) → slice_get all n ≡ None → ys ≡ shown_columns x (take n all) → ys ≡ shown_columns x all
columns_end x all n ys past so = so ∙ ap (shown_columns x) (all_taken all n past)

pub columns_fewer : {X : Type 0} (all : List X) (n m : ℕ) (d : X) → slice_get all n ≡ Some d → m ≡ n + 1 → length all - m < length all - n
columns_fewer all n m d at next = let within : n < length all = slice_get_within all n d at in omega (arith, within, next)

-- ---- whether one passes

drop_at : {X : Type 0} (xs : List X) (n : ℕ) (x : X) → slice_get xs n ≡ Some x → drop n xs ≡ x ∷ drop (suc n) xs
drop_at [] zero x at = absurd (cc)
drop_at [] (suc n) x at = absurd (cc)
drop_at (y ∷ xs) zero x at = let same : y ≡ x = cc in ap (λ z. z ∷ xs) same
drop_at (y ∷ xs) (suc n) x at = drop_at xs n x at

drop_past : {X : Type 0} (xs : List X) (n : ℕ) → slice_get xs n ≡ None → drop n xs ≡ []
drop_past [] zero past = refl
drop_past [] (suc n) past = refl
drop_past (x ∷ xs) zero past = absurd (cc)
drop_past (x ∷ xs) (suc n) past = drop_past xs n past

module _ {X : Type 0} (p : X → Bool) (all : List X) (n : ℕ) (so : list_any p (drop n all) ≡ list_any p all) where
  any_at : (d : X) → slice_get all n ≡ Some d → (p d || list_any p (drop (suc n) all)) ≡ list_any p all
  any_at d at = ap (list_any p) (sym (drop_at all n d at)) ∙ so

  pub any_here : (d : X) → slice_get all n ≡ Some d → p d ≡ true → true ≡ list_any p all
  any_here d at is = sym (ap (λ b. b || list_any p (drop (suc n) all)) is) ∙ any_at d at

  pub any_next : (d : X) → slice_get all n ≡ Some d → p d ≡ false → (m : ℕ) → m ≡ n + 1 → list_any p (drop m all) ≡ list_any p all
  any_next d at isnt m next =
      let same : m ≡ suc n = omega (arith, next) in
      ap (λ k. list_any p (drop k all)) same ∙ sym (ap (λ b. b || list_any p (drop (suc n) all)) isnt) ∙ any_at d at

  pub any_end : slice_get all n ≡ None → false ≡ list_any p all
  any_end past = sym (ap (list_any p) (drop_past all n past)) ∙ so

-- ---- whether a table is shown

pub shown_bare : (x : Readable) (all : List ColDef) → slice_get all 0 ≡ None → x.bare ≡ is_shown x all
shown_bare x [] none = refl
shown_bare x (d ∷ all) none = absurd (cc)

pub shown_some : (x : Readable) (all : List ColDef) (d : ColDef) → slice_get all 0 ≡ Some d → list_any (λ (d : ColDef). x.column d.id) all ≡ is_shown x all
shown_some x [] d some = absurd (cc)
shown_some x (e ∷ all) d some = refl
