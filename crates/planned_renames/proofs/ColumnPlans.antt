-- The parts of a plan that columns of a view make.
use Rattle.std.proofs.Common.{◌≡◌, ◌∙◌, ap, refl, subst, sym, ℕ, Bool, true, false, cond, not, ◌&&◌, ◌||◌, inl, inr, List, [], ◌∷◌, ◌++◌, filter, Option, Some, None}
use Rattle.std.specs.List.{AllByRecursion}
use Rattle.std.specs.Str.{bytes_eq}
use Rattle.std.proofs.lemmas.Bool.{false≢true}
use Rattle.doc_model.specs.declared.view.ViewCol.{ViewCol}
use Rattle.doc_model.specs.declared.view.ViewTable.{ViewTable}
use Rattle.doc_model.specs.ByIds.{find_id, precedes}
use Rattle.doc_model.specs.Changes.{IsView, shown_table_id}
use Rattle.doc_model.specs.ViewEdits.{shown_id}
use Rattle.doc_model.proofs.ByIdsLaws.{AreDistinct-IsByIds, each_found}
use Rattle.doc_model.proofs.Choices.{each_both, each_filter, each_weaker}
use Rattle.doc_model.proofs.WholeLaws.{each_append}
use Rattle.formula_eval.proofs.Notes.{all_append}
use Rattle.formula_records.specs.ShownColumns.{shown_column}
use Rattle.rename_flow.specs.declared.column_parts.Place.{Place}
use Rattle.rename_flow.specs.declared.column_parts.Place.TheVariants as place
use Rattle.rename_flow.specs.ColumnParts.{column_parts, formula_part, is_at, is_renamed, parts_at, parts_each, table_parts, type_part}
use Rattle.rename_flow.specs.Parts.{Part}
use Rattle.rename_marks.specs.declared.column_rename.ColumnRename.{ColumnRename}
use Rattle.planned_renames.proofs.PlanParts.{HasSet, Sets, set_left, set_right}

-- each column of a view is found by its table and its id
abbrev pub IsThere : List ViewTable → ViewTable → ViewCol → Type 0
IsThere v w d = shown_column v w.id d.id ≡ Some d

pub all_there : (v : List ViewTable) → IsView v → AllByRecursion (λ (w : ViewTable). AllByRecursion (IsThere v w) w.columns) v
all_there v h =
    each_weaker _ (λ (w : ViewTable). AllByRecursion (IsThere v w) w.columns)
    (λ (w : ViewTable) i. each_found shown_id (IsThere v w) w.columns (AreDistinct-IsByIds shown_id w.columns i.1.by_ids) (λ d e. in_table w (find_id shown_table_id w.id v) i.0 d.id ∙ e))
    v (each_both _ _ v (each_found shown_table_id (λ (w : ViewTable). find_id shown_table_id w.id v ≡ Some w) v (AreDistinct-IsByIds shown_table_id v h.by_ids) (λ w e. e)) h.tables)
  where
    in_table : (w : ViewTable) (o : Option ViewTable) → o ≡ Some w → (c : List ℕ) → elim o [ None ↦ None | Some w ↦ find_id shown_id c w.columns ] ≡ find_id shown_id c w.columns
    in_table w o e c = ap (λ (o : Option ViewTable). elim o [ None ↦ None | Some w ↦ find_id shown_id c w.columns ]) e

module _ (v : List ViewTable) (m : ColumnRename) where
  -- a property of the parts of columns
  module _ (P : Part → Type 0) where
    abbrev pub OfColumn : ViewTable → ViewCol → Type 0
    OfColumn w d = P (formula_part v m w d) × P (type_part w d)

    each_part : (w : ViewTable) (ds : List ViewCol) → AllByRecursion (OfColumn w) ds → AllByRecursion P (parts_each v m w ds)
    each_part w [] h = tt
    each_part w (d ∷ ds) h = (h.0.0, (h.0.1, each_part w ds h.1))

    pub parts_have : (ws : List ViewTable) → AllByRecursion (λ (w : ViewTable). AllByRecursion (OfColumn w) w.columns) ws → AllByRecursion P (column_parts v m ws)
    parts_have [] h = tt
    parts_have (w ∷ ws) h =
        each_append P (table_parts v m w) (column_parts v m ws)
        (each_append P (parts_at v m w place.Before) (parts_at v m w place.Renamed ++ parts_at v m w place.Behind) (at place.Before)
        (each_append P (parts_at v m w place.Renamed) (parts_at v m w place.Behind) (at place.Renamed) (at place.Behind)))
        (parts_have ws h.1)
      where
        at : (p : Place) → AllByRecursion P (parts_at v m w p)
        at p = each_part w (filter (is_at m w p) w.columns) (each_filter (OfColumn w) (is_at m w p) w.columns h.0)

    at_place : (w : ViewTable) (p : Place) (ds : List ViewCol) → AllByRecursion P (parts_each v m w (filter (is_at m w p) ds)) → AllByRecursion (λ d. is_at m w p d ≡ true → OfColumn w d) ds
    at_place w p [] h = tt
    at_place w p (d ∷ ds) h = by (is_at m w p d) refl (at_place w p ds) h
      where
        by : (b : Bool) → is_at m w p d ≡ b → (AllByRecursion P (parts_each v m w (filter (is_at m w p) ds)) → AllByRecursion (λ d. is_at m w p d ≡ true → OfColumn w d) ds)
            → AllByRecursion P (parts_each v m w (cond b (d ∷ filter (is_at m w p) ds) (filter (is_at m w p) ds)))
            → (is_at m w p d ≡ true → OfColumn w d) × AllByRecursion (λ d. is_at m w p d ≡ true → OfColumn w d) ds
        by true e later h = (λ _. (h.0, h.1.0), later h.1.1)
        by false e later h = (λ i. absurd (false≢true (sym e ∙ i)), later h)

    three : (w : ViewTable) (d : ViewCol) → (is_at m w place.Before d ≡ true → OfColumn w d) → (is_at m w place.Renamed d ≡ true → OfColumn w d) → (is_at m w place.Behind d ≡ true → OfColumn w d) → OfColumn w d
    three w d f g h = by (is_renamed m w d) (not (bytes_eq w.id m.table) || precedes d.id m.new) f g h
      where
        by : (a b : Bool) → ((not a && b) ≡ true → OfColumn w d) → (a ≡ true → OfColumn w d) → ((not a && not b) ≡ true → OfColumn w d) → OfColumn w d
        by true b f g h = g refl
        by false true f g h = f refl
        by false false f g h = h refl

    pub have_parts : (ws : List ViewTable) → AllByRecursion P (column_parts v m ws) → AllByRecursion (λ (w : ViewTable). AllByRecursion (OfColumn w) w.columns) ws
    have_parts [] h = tt
    have_parts (w ∷ ws) h =
        let p = all_append P (table_parts v m w) (column_parts v m ws) h in
        let q = all_append P (parts_at v m w place.Before) (parts_at v m w place.Renamed ++ parts_at v m w place.Behind) p.0 in
        let r = all_append P (parts_at v m w place.Renamed) (parts_at v m w place.Behind) q.1 in
        (all_three w w.columns (at_place w place.Before w.columns q.0) (at_place w place.Renamed w.columns r.0) (at_place w place.Behind w.columns r.1), have_parts ws p.1)
      where
        all_three : (w : ViewTable) (ds : List ViewCol) → AllByRecursion (λ d. is_at m w place.Before d ≡ true → OfColumn w d) ds → AllByRecursion (λ d. is_at m w place.Renamed d ≡ true → OfColumn w d) ds
            → AllByRecursion (λ d. is_at m w place.Behind d ≡ true → OfColumn w d) ds → AllByRecursion (OfColumn w) ds
        all_three w [] f g h = tt
        all_three w (d ∷ ds) f g h = (three w d f.0 g.0 h.0, all_three w ds f.1 g.1 h.1)

  -- a column that is found has its part among them
  module _ (t n g : List ℕ) where
    set_each : (w : ViewTable) (p : Place) (c : List ℕ) (d : ViewCol) (ds : List ViewCol) → find_id shown_id c ds ≡ Some d → is_at m w p d ≡ true → Sets t n g (formula_part v m w d) → HasSet t n g (parts_each v m w (filter (is_at m w p) ds))
    set_each w p c d [] e i s = absurd (cc)
    set_each w p c d (x ∷ ds) e i s = by (bytes_eq x.id c) (is_at m w p x) refl e (λ e. set_each w p c d ds e i s)
      where
        same_column : (a b : ViewCol) → Some a ≡ Some b → a ≡ b
        same_column a b e = cc

        by : (b a : Bool) → is_at m w p x ≡ a → cond b (Some x) (find_id shown_id c ds) ≡ Some d → (find_id shown_id c ds ≡ Some d → HasSet t n g (parts_each v m w (filter (is_at m w p) ds)))
            → HasSet t n g (parts_each v m w (cond a (x ∷ filter (is_at m w p) ds) (filter (is_at m w p) ds)))
        by true true j e later = inl (subst (λ (y : ViewCol). Sets t n g (formula_part v m w y)) (sym (same_column x d e)) s)
        by true false j e later = absurd (false≢true (sym j ∙ ap (is_at m w p) (same_column x d e) ∙ i))
        by false true j e later = inr (inr (later e))
        by false false j e later = later e

    set_table : (w : ViewTable) (c : List ℕ) (d : ViewCol) → find_id shown_id c w.columns ≡ Some d → Sets t n g (formula_part v m w d) → HasSet t n g (table_parts v m w)
    set_table w c d e s = by (is_renamed m w d) (not (bytes_eq w.id m.table) || precedes d.id m.new) refl refl
      where
        here : (p : Place) → is_at m w p d ≡ true → HasSet t n g (parts_at v m w p)
        here p i = set_each w p c d w.columns e i s

        by : (a b : Bool) → is_renamed m w d ≡ a → (not (bytes_eq w.id m.table) || precedes d.id m.new) ≡ b → HasSet t n g (table_parts v m w)
        by true b i j = set_right t n g (parts_at v m w place.Before) _ (set_left t n g (parts_at v m w place.Renamed) _ (here place.Renamed i))
        by false true i j = set_left t n g (parts_at v m w place.Before) _ (here place.Before (ap (λ x. not x && (not (bytes_eq w.id m.table) || precedes d.id m.new)) i ∙ j))
        by false false i j =
            set_right t n g (parts_at v m w place.Before) _ (set_right t n g (parts_at v m w place.Renamed) _
            (here place.Behind (ap (λ x. not x && not (not (bytes_eq w.id m.table) || precedes d.id m.new)) i ∙ ap not j)))

    pub set_view : (a c : List ℕ) (w : ViewTable) (d : ViewCol) (ws : List ViewTable) → find_id shown_table_id a ws ≡ Some w → find_id shown_id c w.columns ≡ Some d → Sets t n g (formula_part v m w d) → HasSet t n g (column_parts v m ws)
    set_view a c w d [] e f s = absurd (cc)
    set_view a c w d (u ∷ ws) e f s = by (bytes_eq u.id a) e (λ e. set_view a c w d ws e f s)
      where
        same_table : (x y : ViewTable) → Some x ≡ Some y → x ≡ y
        same_table x y e = cc

        by : (b : Bool) → cond b (Some u) (find_id shown_table_id a ws) ≡ Some w → (find_id shown_table_id a ws ≡ Some w → HasSet t n g (column_parts v m ws)) → HasSet t n g (table_parts v m u ++ column_parts v m ws)
        by true e later = set_left t n g (table_parts v m u) (column_parts v m ws) (subst (λ (x : ViewTable). HasSet t n g (table_parts v m x)) (sym (same_table u w e)) (set_table w c d f s))
        by false e later = set_right t n g (table_parts v m u) (column_parts v m ws) (later e)
