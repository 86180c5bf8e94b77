-- Values are read exactly from the JSON that stands for them.
use Rattle.std.proofs.Common.{◌≡◌, ℕ, ℤ, List, true, false, Some, option_map, refl, sym, ap, ◌∙◌, subst}
use Rattle.serde_json.specs.Data.{Data, null, boolean, number, string, array, object, Items, no_items, item}
use Rattle.cell_types.specs.declared.value.CellItem.{CellItem}
use Rattle.cell_types.specs.declared.value.CellItem.TheVariants as one
use Rattle.cell_types.specs.declared.value.CellValue.{CellValue}
use Rattle.cell_types.specs.declared.value.CellValue.TheVariants as value
use Rattle.cell_types.specs.declared.value.RowRef.{RowRef}
use Rattle.cell_types.specs.declared.value.RowSet.{RowSet}
use Rattle.action_lines.specs.declared.marks.Mark.{Mark}
use Rattle.action_lines.specs.declared.marks.Mark.TheVariants as mark
use Rattle.action_lines.specs.Items.{item_text, is_last, all_from, AreAll, only_item, only_text, text_beside, given_from}
use Rattle.action_lines.specs.Numbers.{IsInt, int_from, IsRow, row_from}
use Rattle.action_lines.specs.Marks.{mark_from, error_from}
use Rattle.action_lines.specs.Values.{has_name_length, marked, IsItem, IsValue}
use Rattle.action_lines.specs.ReadValues.{name_from, date_from, ref_from, set_from, error_value_from, marked_item_from, item_from, marked_value_from, value_from}
use Rattle.action_lines.proofs.StepLemmas.{bind_some, map_some, guard_some, some_same}
use Rattle.action_lines.proofs.FieldLemmas.{item_text_takes, last_takes}
use Rattle.action_lines.proofs.ItemLemmas.{only_takes, only_text_takes, text_beside_takes, all_take, all_again, given_takes}
use Rattle.action_lines.proofs.NumberLemmas.{int_takes, int_again, int_read, row_takes, row_read}
use Rattle.action_lines.proofs.MarkLemmas.{mark_takes, error_takes, error_again}

-- what stands behind the marks of dates, rows and sets of rows
IsDateRest : ℤ → Items → Type 0
IsDateRest z ds = (seconds : Data) × IsInt z seconds × (ds ≡ item seconds no_items)

IsRefRest : RowRef → Items → Type 0
IsRefRest r ds = (row : Data) × (has_name_length r.table ≡ true) × IsRow r.row row × (ds ≡ item (string r.table) (item row no_items))

IsSetRest : RowSet → Items → Type 0
IsSetRest s ds = (rows : Items) × (has_name_length s.table ≡ true) × AreAll IsRow s.rows rows × (ds ≡ item (string s.table) (item (array rows) no_items))

date_takes : (ds : Items) (z : ℤ) → date_from ds ≡ Some z → IsDateRest z ds
unfolding date_from IsDateRest
date_takes ds z e =
    let a = bind_some (only_item ds) _ z e in
    (a.0, int_takes a.0 z a.2, only_takes ds a.0 a.1)

-- a text that is a name, in front of one more item
name_takes : (ds : Items) (text : List ℕ) (next : Data) (name : List ℕ) → text_beside ds ≡ Some (text, next) → name_from text ≡ Some name
    → (has_name_length name ≡ true) × (ds ≡ item (string name) (item next no_items))
name_takes ds text next name two named =
    let g = guard_some (has_name_length text) text name named in (
      subst (λ t. has_name_length t ≡ true) g.1 g.0,
      text_beside_takes ds text next two ∙ ap (λ x. item (string x) (item next no_items)) g.1,
    )

ref_takes : (ds : Items) (r : RowRef) → ref_from ds ≡ Some r → IsRefRest r ds
unfolding ref_from IsRefRest
ref_takes ds r e =
    let two = bind_some (text_beside ds) _ r e in
    let row = bind_some (row_from two.0.1) _ r two.2 in
    let name = bind_some (name_from two.0.0) _ r row.2 in
    let made : RowRef = record { table = name.0; row = row.0 } in
    let named = name_takes ds two.0.0 two.0.1 name.0 two.1 name.1 in
    let is : IsRefRest made ds = (two.0.1, named.0, row_takes two.0.1 row.0 row.1, named.1) in
    subst (λ x. IsRefRest x ds) (some_same made r name.2) is

set_takes : (ds : Items) (s : RowSet) → set_from ds ≡ Some s → IsSetRest s ds
unfolding set_from IsSetRest
set_takes ds s e =
    let two = bind_some (text_beside ds) _ s e in
    let name = bind_some (name_from two.0.0) _ s two.2 in
    let rows = bind_some (given_from row_from false two.0.1) _ s name.2 in
    let made : RowSet = record { table = name.0; rows = rows.0 } in
    let named = name_takes ds two.0.0 two.0.1 name.0 two.1 name.1 in
    let items = given_takes row_from IsRow row_takes false two.0.1 rows.0 rows.1 in
    let whole = named.1 ∙ ap (λ x. item (string name.0) (item x no_items)) items.2 in
    let is : IsSetRest made ds = (items.0, named.0, items.1, whole) in
    subst (λ x. IsSetRest x ds) (some_same made s rows.2) is

error_value_takes : (ds : Items) (v : CellValue) → error_value_from ds ≡ Some v → IsValue v (marked mark.Err ds)
unfolding error_value_from
error_value_takes ds v e =
    let name = bind_some (only_text ds) _ v e in
    let kind = bind_some (error_from name.0) _ v name.2 in
    let whole = only_text_takes ds name.0 name.1 ∙ ap (λ x. item (string x) no_items) (error_takes name.0 kind.0 kind.1) in
    subst (λ w. IsValue w (marked mark.Err ds)) (some_same (value.Err kind.0) v kind.2) (ap (marked mark.Err) whole)

-- ---- items of lists

marked_item_takes : (m : Mark) (ds : Items) (x : CellItem) → marked_item_from m ds ≡ Some x → IsItem x (marked m ds)
unfolding IsDateRest IsRefRest
marked_item_takes mark.Date ds x e =
    let m = map_some one.Date (date_from ds) x e in
    let is = date_takes ds m.0 m.1 in
    subst (λ y. IsItem y (marked mark.Date ds)) m.2 (is.0, is.1, ap (marked mark.Date) is.2)
marked_item_takes mark.Rec ds x e =
    let m = map_some one.Rec (ref_from ds) x e in
    let is = ref_takes ds m.0 m.1 in
    subst (λ y. IsItem y (marked mark.Rec ds)) m.2 (is.0, is.1, is.2, ap (marked mark.Rec) is.3)
marked_item_takes mark.Rows ds x e = absurd (cc)
marked_item_takes mark.List ds x e = absurd (cc)
marked_item_takes mark.Err ds x e = absurd (cc)
marked_item_takes mark.Censored ds x e = absurd (cc)

-- the array is marked
marked_whole : (ds rest : Items) (t : List ℕ) (m : Mark) → item_text ds ≡ Some (t, rest) → mark_from t ≡ Some m → array ds ≡ marked m rest
marked_whole ds rest t m e is = ap array (item_text_takes ds t rest e ∙ ap (λ s. item (string s) rest) (mark_takes t m is))

pub item_takes : (d : Data) (x : CellItem) → item_from d ≡ Some x → IsItem x d
unfolding item_from
item_takes null x e = subst (λ y. IsItem y null) (some_same one.Null x e) refl
item_takes (boolean b) x e = subst (λ y. IsItem y (boolean b)) (some_same (one.Bool b) x e) refl
item_takes (number n) x e =
    let m = map_some one.Int (int_from (number n)) x e in
    subst (λ y. IsItem y (number n)) m.2 (int_takes (number n) m.0 m.1)
item_takes (string t) x e = subst (λ y. IsItem y (string t)) (some_same (one.Text t) x e) refl
item_takes (array ds) x e =
    let name = bind_some (item_text ds) _ x e in
    let m = bind_some (mark_from name.0.0) _ x name.2 in
    subst (λ d. IsItem x d) (sym (marked_whole ds name.0.1 name.0.0 m.0 name.1 m.1)) (marked_item_takes m.0 name.0.1 x m.2)
item_takes (object ms) x e = absurd (cc)

pub item_again : (x : CellItem) (d : Data) → IsItem x d → item_from d ≡ Some x
unfolding item_from date_from ref_from text_beside
item_again one.Null d h = ap item_from h
item_again (one.Int z) d h = ap item_from h.1 ∙ ap (option_map one.Int) (int_again z h.0)
item_again (one.Bool b) d h = ap item_from h
item_again (one.Text t) d h = ap item_from h
item_again (one.Date z) d h = ap item_from h.2 ∙ ap (option_map one.Date) (int_read z h.0 h.1)
item_again (one.Rec r) d h = ap item_from h.3 ∙ rw (h.1, row_read r.row h.0 h.2) refl

-- ---- values

marked_value_takes : (m : Mark) (ds : Items) (v : CellValue) → marked_value_from m ds ≡ Some v → IsValue v (marked m ds)
unfolding IsDateRest IsRefRest IsSetRest
marked_value_takes mark.Date ds v e =
    let m = map_some value.Date (date_from ds) v e in
    let is = date_takes ds m.0 m.1 in
    subst (λ w. IsValue w (marked mark.Date ds)) m.2 (is.0, is.1, ap (marked mark.Date) is.2)
marked_value_takes mark.Rec ds v e =
    let m = map_some value.Rec (ref_from ds) v e in
    let is = ref_takes ds m.0 m.1 in
    subst (λ w. IsValue w (marked mark.Rec ds)) m.2 (is.0, is.1, is.2, ap (marked mark.Rec) is.3)
marked_value_takes mark.Rows ds v e =
    let m = map_some value.RecSet (set_from ds) v e in
    let is = set_takes ds m.0 m.1 in
    subst (λ w. IsValue w (marked mark.Rows ds)) m.2 (is.0, is.1, is.2, ap (marked mark.Rows) is.3)
marked_value_takes mark.List ds v e =
    let m = map_some value.List (all_from item_from ds) v e in
    subst (λ w. IsValue w (marked mark.List ds)) m.2 (ds, all_take item_from IsItem item_takes ds m.0 m.1, refl)
marked_value_takes mark.Err ds v e = error_value_takes ds v e
marked_value_takes mark.Censored ds v e =
    let g = guard_some (is_last ds) value.Censored v e in
    subst (λ w. IsValue w (marked mark.Censored ds)) g.1 (ap (marked mark.Censored) (last_takes ds g.0))

pub value_takes : (d : Data) (v : CellValue) → value_from d ≡ Some v → IsValue v d
unfolding value_from
value_takes null v e = subst (λ w. IsValue w null) (some_same value.Null v e) refl
value_takes (boolean b) v e = subst (λ w. IsValue w (boolean b)) (some_same (value.Bool b) v e) refl
value_takes (number n) v e =
    let m = map_some value.Int (int_from (number n)) v e in
    subst (λ w. IsValue w (number n)) m.2 (int_takes (number n) m.0 m.1)
value_takes (string t) v e = subst (λ w. IsValue w (string t)) (some_same (value.Text t) v e) refl
value_takes (array ds) v e =
    let name = bind_some (item_text ds) _ v e in
    let m = bind_some (mark_from name.0.0) _ v name.2 in
    subst (λ d. IsValue v d) (sym (marked_whole ds name.0.1 name.0.0 m.0 name.1 m.1)) (marked_value_takes m.0 name.0.1 v m.2)
value_takes (object ms) v e = absurd (cc)

pub value_again : (v : CellValue) (d : Data) → IsValue v d → value_from d ≡ Some v
unfolding value_from date_from ref_from set_from error_value_from only_text text_beside
value_again value.Null d h = ap value_from h
value_again (value.Int z) d h = ap value_from h.1 ∙ ap (option_map value.Int) (int_again z h.0)
value_again (value.Bool b) d h = ap value_from h
value_again (value.Text t) d h = ap value_from h
value_again (value.Date z) d h = ap value_from h.2 ∙ ap (option_map value.Date) (int_read z h.0 h.1)
value_again (value.Rec r) d h = ap value_from h.3 ∙ rw (h.1, row_read r.row h.0 h.2) refl
value_again (value.RecSet s) d h = ap value_from h.3 ∙ rw (h.1, all_again row_from IsRow row_read s.rows h.0 h.2) refl
value_again (value.List items) d h = ap value_from h.2 ∙ ap (option_map value.List) (all_again item_from IsItem item_again items h.0 h.1)
value_again (value.Err k) d h = ap value_from h ∙ rw (error_again k) refl
value_again value.Censored d h = ap value_from h
