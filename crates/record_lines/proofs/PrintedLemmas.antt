-- What is printed of a record stands for it.
use Rattle.std.proofs.Common.{◌≡◌, ℕ, List, [], ◌∷◌, ◌++◌, map, fold, length, Bool, true, false, ◌&&◌, nat_eq, Some, None, Ordering, refl, ap, ◌∙◌, append_assoc}
use Rattle.std.specs.declared.cmp.Ordering.TheVariants.{Less, Equal, Greater}
use Rattle.std.proofs.lemmas.Bool.{false≢true}
use Rattle.std.proofs.lemmas.Cmp.{nat_list_cmp_total}
use Rattle.std.specs.Ordering.{nat_cmp, is_lt, match_ordering, ordering_reverse}
use Rattle.std.specs.Cmp.Lexicographic.{slice_cmp}
use Rattle.std.specs.List.{list_all}
use Rattle.serde_json.specs.Data.{Data, object, no_items, item, Members, no_members, member, put}
use Rattle.serde_json.specs.View.{items_of}
use Rattle.cell_types.specs.declared.value.CellItem.{CellItem}
use Rattle.cell_types.specs.declared.value.CellItem.TheVariants as one
use Rattle.cell_types.specs.declared.value.CellValue.{CellValue}
use Rattle.cell_types.specs.declared.value.CellValue.TheVariants as value
use Rattle.doc_model.specs.declared.action.DocAction.{DocAction}
use Rattle.doc_model.specs.declared.action.DocAction.TheVariants.{BulkAdd, BulkUpdate, BulkRemove, AddTable, RemoveTable, RenameTable, AddColumn, RemoveColumn, RenameColumn, ModifyColumn}
use Rattle.doc_model.specs.declared.column.CellColumn.{CellColumn}
use Rattle.doc_model.specs.ByIds.{precedes}
use Rattle.doc_model.specs.WellFormed.{are_by_id, have_values}
use Rattle.doc_model.proofs.ByIdsLaws.{precedes_trans}
use Rattle.action_lines.specs.Columns.{AreCells, AreColumns, none, more}
use Rattle.action_lines.specs.Items.{AreAll}
use Rattle.action_lines.specs.Numbers.{int_data, is_row, row_data, IsRow}
use Rattle.action_lines.specs.Values.{has_name_length, IsItem, IsValue}
use Rattle.action_lines.proofs.StepLemmas.{both_true}
use Rattle.grist_json.specs.Actions.{put_column, columns_data}
use Rattle.grist_json.specs.Reading.{is_whole}
use Rattle.grist_json.specs.Replies.{number_data}
use Rattle.grist_json.specs.Values.{item_data, value_data, values_data, rows_data}
use Rattle.record_lines.specs.declared.records.Kept.{Kept}
use Rattle.record_lines.specs.Columns.{unnamed, is_named}
use Rattle.record_lines.specs.Infos.{is_type, is_column, IsColumn, column_data}
use Rattle.record_lines.specs.DocActions.{named_table, IsBehind, IsDocAction}
use Rattle.record_lines.specs.DocActions as doc
use Rattle.record_lines.specs.Records.{IsRecord}
use Rattle.record_lines.specs.Printable.{fits_item, fits_value, fits_column, are_cells, fits_behind, is_printable}
use Rattle.record_lines.specs.Printed.{behind_data, doc_action_data, record_data}

-- things that fit are shown as what stands for them
all_are : {X : Type 0} (fits : X → Bool) (stands : X → Data → Type 0) (shown : X → Data) → ((x : X) → fits x ≡ true → stands x (shown x)) → (xs : List X) → list_all fits xs ≡ true → AreAll stands xs (items_of (map shown xs))
all_are fits stands shown h [] e = tt
all_are fits stands shown h (x ∷ xs) e =
    let b = both_true (fits x) (list_all fits xs) e in
    (h x b.0, all_are fits stands shown h xs b.1)

rows_are : (rows : List ℕ) → list_all is_row rows ≡ true → AreAll IsRow rows (items_of (map row_data rows))
rows_are rows e = all_are is_row IsRow row_data (λ n h. (h, refl)) rows e

item_is : (x : CellItem) → fits_item x ≡ true → IsItem x (item_data x)
item_is one.Null h = refl
item_is (one.Int z) h = (h, refl)
item_is (one.Bool b) h = refl
item_is (one.Text t) h = refl
item_is (one.Date z) h = (int_data z, (h, refl), refl)
item_is (one.Rec r) h =
    let b = both_true (has_name_length r.table) (is_row r.row) h in
    (row_data r.row, b.0, (b.1, refl), refl)

value_is : (v : CellValue) → fits_value v ≡ true → IsValue v (value_data v)
value_is value.Null h = refl
value_is (value.Int z) h = (h, refl)
value_is (value.Bool b) h = refl
value_is (value.Text t) h = refl
value_is (value.Date z) h = (int_data z, (h, refl), refl)
value_is (value.Rec r) h =
    let b = both_true (has_name_length r.table) (is_row r.row) h in
    (row_data r.row, b.0, (b.1, refl), refl)
value_is (value.RecSet s) h =
    let b = both_true (has_name_length s.table) (list_all is_row s.rows) h in
    (items_of (map row_data s.rows), b.0, rows_are s.rows b.1, refl)
value_is (value.List items) h = (items_of (map item_data items), all_are fits_item IsItem item_data item_is items h, refl)
value_is (value.Err e) h = refl
value_is value.Censored h = refl

-- ---- columns, in the order of their ids

in_order : List CellColumn → Members
in_order [] = no_members
in_order (c ∷ cs) = member c.id (values_data c.values) (in_order cs)

cells_of : (count : ℕ) (c : CellColumn) → fits_column c ≡ true → nat_eq (length c.values) count ≡ true → AreCells false count c.values (values_data c.values)
cells_of count c f n =
    let b = both_true (has_name_length c.id) (list_all fits_value c.values) f in
    ((items_of (map value_data c.values), all_are fits_value IsValue value_data value_is c.values b.1, refl), n)

behind : (count : ℕ) (c : CellColumn) (cs : List CellColumn) → are_by_id (map unnamed (c ∷ cs)) ≡ true → have_values count (map unnamed cs) ≡ true → list_all fits_column cs ≡ true → AreColumns false count (Some c.id) (map unnamed cs) (in_order cs)
unfolding in_order
behind count c [] o v f = none
behind count c (d ∷ cs) o v f =
    let by = both_true (precedes c.id d.id) (are_by_id (map unnamed (d ∷ cs))) o in
    let given = both_true (nat_eq (length d.values) count) (have_values count (map unnamed cs)) v in
    let fit = both_true (fits_column d) (list_all fits_column cs) f in
    more by.0 (cells_of count d fit.0 given.0) (behind count d cs by.1 given.1 fit.1)

columns_are : (count : ℕ) (cs : List CellColumn) → are_by_id (map unnamed cs) ≡ true → have_values count (map unnamed cs) ≡ true → list_all fits_column cs ≡ true → AreColumns false count None (map unnamed cs) (in_order cs)
unfolding in_order
columns_are count [] o v f = none
columns_are count (c ∷ cs) o v f =
    let given = both_true (nat_eq (length c.values) count) (have_values count (map unnamed cs)) v in
    let fit = both_true (fits_column c) (list_all fits_column cs) f in
    more refl (cells_of count c fit.0 given.0) (behind count c cs o given.1 fit.1)

are_named : (cs : List CellColumn) → list_all fits_column cs ≡ true → list_all is_named cs ≡ true
are_named [] f = refl
are_named (c ∷ cs) f =
    let fit = both_true (fits_column c) (list_all fits_column cs) f in
    let b = both_true (has_name_length c.id) (list_all fits_value c.values) fit.0 in
    rw b.0 (are_named cs fit.1)

-- ---- columns that are put one by one

turned : (o : Ordering) → is_lt o ≡ true → ordering_reverse o ≡ Greater
turned Less e = refl
turned Equal e = absurd (false≢true e)
turned Greater e = absurd (false≢true e)

greater : (a b : List ℕ) → precedes a b ≡ true → slice_cmp nat_cmp b a ≡ Greater
greater a b e = nat_list_cmp_total.antisymm b a ∙ turned (slice_cmp nat_cmp a b) e

-- all of them stand before the column
abbrev are_before : CellColumn → List CellColumn → Bool
are_before c done = list_all (λ (d : CellColumn). precedes d.id c.id) done

put_last : (done : List CellColumn) (c : CellColumn) → are_before c done ≡ true → put c.id (values_data c.values) (in_order done) ≡ in_order (done ++ c ∷ [])
unfolding in_order
put_last [] c h = refl
put_last (d ∷ done) c h =
    let b = both_true (precedes d.id c.id) (are_before c done) h in
    let v = values_data c.values in
    let w = values_data d.values in
    ap (λ o. match_ordering o (member c.id v (member d.id w (in_order done))) (member d.id v (in_order done)) (member d.id w (put c.id v (in_order done)))) (greater d.id c.id b.0)
    ∙ ap (λ ms. member d.id w ms) (put_last done c b.1)

before_next : (done : List CellColumn) (c d : CellColumn) → are_before c done ≡ true → precedes c.id d.id ≡ true → are_before d (done ++ c ∷ []) ≡ true
before_next [] c d h p = rw p refl
before_next (x ∷ done) c d h p =
    let b = both_true (precedes x.id c.id) (are_before c done) h in
    rw (precedes_trans x.id c.id d.id b.0 p) (before_next done c d b.1 p)

put_on : (done : List CellColumn) (c : CellColumn) (cs : List CellColumn) → are_before c done ≡ true → are_by_id (map unnamed (c ∷ cs)) ≡ true → fold put_column (in_order done) (c ∷ cs) ≡ in_order (done ++ c ∷ cs)
put_on done c [] h o = put_last done c h
put_on done c (d ∷ cs) h o =
    let by = both_true (precedes c.id d.id) (are_by_id (map unnamed (d ∷ cs))) o in
    ap (λ ms. fold put_column ms (d ∷ cs)) (put_last done c h)
    ∙ put_on (done ++ c ∷ []) d cs (before_next done c d h by.0) by.1
    ∙ ap in_order (append_assoc done (c ∷ []) (d ∷ cs))

put_all : (cs : List CellColumn) → are_by_id (map unnamed cs) ≡ true → fold put_column no_members cs ≡ in_order cs
unfolding in_order
put_all [] o = refl
put_all (c ∷ cs) o = put_on [] c cs refl o

-- ---- actions and records

cells_are : (rows : List ℕ) (cs : List CellColumn) → are_cells rows cs ≡ true → doc.AreCells rows cs (item (rows_data rows) (item (columns_data cs) no_items))
cells_are rows cs h =
    let two = both_true (list_all is_row rows && list_all fits_column cs) (are_by_id (map unnamed cs) && have_values (length rows) (map unnamed cs)) h in
    let fit = both_true (list_all is_row rows) (list_all fits_column cs) two.0 in
    let stand = both_true (are_by_id (map unnamed cs)) (have_values (length rows) (map unnamed cs)) two.1 in
    record {
      ids = items_of (map row_data rows);
      members = in_order cs;
      given = rows_are rows fit.0;
      columns = record { filled = columns_are (length rows) cs stand.0 stand.1 fit.1; named = are_named cs fit.1 };
      whole = ap (λ ms. item (rows_data rows) (item (object ms) no_items)) (put_all cs stand.0);
    }

behind_is : (a : DocAction) → fits_behind a ≡ true → IsBehind a (behind_data a)
behind_is (BulkAdd t rows cs) h = cells_are rows cs h
behind_is (BulkUpdate t rows cs) h = cells_are rows cs h
behind_is (BulkRemove t rows) h = (items_of (map row_data rows), rows_are rows h, refl)
behind_is (AddTable t row cs) h =
    let b = both_true (is_row row) (list_all is_column cs) h in
    (items_of (map column_data cs), all_are is_column IsColumn column_data (λ c e. (e, refl)) cs b.1, b.0, refl)
behind_is (RemoveTable t) h = refl
behind_is (RenameTable t new) h = (h, refl)
behind_is (AddColumn t c) h = (h, refl)
behind_is (RemoveColumn t c) h = (h, refl)
behind_is (RenameColumn t c new) h =
    let b = both_true (has_name_length c) (has_name_length new) h in
    (b.0, b.1, refl)
behind_is (ModifyColumn t c info) h =
    let b = both_true (has_name_length c) (is_type info.ty) h in
    (b.0, b.1, refl)

action_is : (a : DocAction) → is_printable a ≡ true → IsDocAction a (doc_action_data a)
action_is a h =
    let b = both_true (has_name_length (named_table a)) (fits_behind a) h in
    record { rest = behind_data a; named = b.0; behind = behind_is a b.1; whole = refl }

pub record_is : (k : Kept) → is_whole k.number ≡ true → list_all is_printable k.actions ≡ true → IsRecord k (record_data k.number k.actions)
record_is k n h = record {
  items = items_of (map doc_action_data k.actions);
  version = Some (number_data 2);
  listed = all_are is_printable IsDocAction doc_action_data action_is k.actions h;
  numbered = n;
  form = refl;
  whole = refl;
}
