-- Document actions are read exactly from the JSON that stands for them.
use Rattle.std.proofs.Common.{◌≡◌, ℕ, List, true, false, length, Option, Some, refl, sym, ap, ◌∙◌, subst}
use Rattle.serde_json.specs.Data.{Data, string, array, Items, no_items, item}
use Rattle.serde_json.specs.Find.{as_array, as_str}
use Rattle.doc_model.specs.declared.action.DocAction.{DocAction}
use Rattle.doc_model.specs.declared.action.DocAction.TheVariants.{BulkAdd, BulkUpdate, BulkRemove, AddTable, RemoveTable, RenameTable, AddColumn, RemoveColumn, RenameColumn, ModifyColumn}
use Rattle.doc_model.specs.declared.column.CellColumn.{CellColumn}
use Rattle.doc_model.specs.declared.column.ColDef.{ColDef}
use Rattle.doc_model.specs.declared.column.ColInfo.{ColInfo}
use Rattle.action_lines.specs.declared.kinds.ActionKind.{ActionKind}
use Rattle.action_lines.specs.declared.kinds.ActionKind.TheVariants as kind
use Rattle.action_lines.specs.Actions.{action_data}
use Rattle.action_lines.specs.Columns.{columns_in}
use Rattle.action_lines.specs.Items.{item_text, is_last, only_item, two_items, only_text, text_beside, given_from, AreAll}
use Rattle.action_lines.specs.Kinds.{kind_text, kind_from}
use Rattle.action_lines.specs.Numbers.{IsRow, is_row, row_data, row_from}
use Rattle.action_lines.specs.ReadValues.{name_from}
use Rattle.action_lines.specs.Steps.{◌>>=◌}
use Rattle.action_lines.specs.Values.{has_name_length}
use Rattle.action_lines.proofs.StepLemmas.{bind_some, guard_some, some_same}
use Rattle.action_lines.proofs.FieldLemmas.{array_takes, text_takes, item_text_takes, last_takes}
use Rattle.action_lines.proofs.ItemLemmas.{only_takes, two_take, only_text_takes, text_beside_takes, all_again, given_takes, given_again}
use Rattle.action_lines.proofs.KindLemmas.{kind_takes}
use Rattle.action_lines.proofs.NumberLemmas.{row_takes, row_read}
use Rattle.record_lines.specs.Columns.{named_from}
use Rattle.record_lines.specs.Infos.{is_type, is_column, IsColumn, info_data, added_data, info_from, column_from}
use Rattle.record_lines.specs.DocActions.{kind_for, named_table, AreCells, IsBehind, IsDocAction}
use Rattle.record_lines.specs.Reading.{cells_from, rows_from, table_from, only_name, two_names, added_column, named_info, kind_action_from, doc_action_from}
use Rattle.record_lines.proofs.TypeLemmas.{name_takes}
use Rattle.record_lines.proofs.ColumnLemmas.{named_take, named_again}
use Rattle.record_lines.proofs.InfoLemmas.{info_takes, info_again, added_takes, added_again, column_takes, column_again, column_named}

-- ---- what stands behind the table, as it is read

cells_take : (rest : Items) (p : List ℕ × List CellColumn) → cells_from rest ≡ Some p → AreCells p.0 p.1 rest
unfolding cells_from
cells_take rest p e =
    let two = bind_some (two_items rest) _ p e in
    let rows = bind_some (given_from row_from false two.0.0) _ p two.2 in
    let us = bind_some (columns_in false (length rows.0) two.0.1) _ p rows.2 in
    let cs = bind_some (named_from us.0) _ p us.2 in
    let ids = given_takes row_from IsRow row_takes false two.0.0 rows.0 rows.1 in
    let members = named_take (length rows.0) two.0.1 us.0 cs.0 us.1 cs.1 in
    let is : AreCells rows.0 cs.0 rest = record {
      ids = ids.0;
      members = members.0;
      given = ids.1;
      columns = members.1;
      whole = two_take rest two.0.0 two.0.1 two.1 ∙ (λ i. item (ids.2 i) (item (members.2 i) no_items));
    } in
    subst (λ (q : List ℕ × List CellColumn). AreCells q.0 q.1 rest) (some_same (rows.0, cs.0) p cs.2) is

rows_take : (rest : Items) (rows : List ℕ) → rows_from rest ≡ Some rows → (ids : Items) × AreAll IsRow rows ids × (rest ≡ item (array ids) no_items)
unfolding rows_from
rows_take rest rows e =
    let one = bind_some (only_item rest) _ rows e in
    let ids = given_takes row_from IsRow row_takes false one.0 rows one.2 in
    (ids.0, ids.1, only_takes rest one.0 one.1 ∙ ap (λ x. item x no_items) ids.2)

table_takes : (rest : Items) (p : List ColDef × ℕ) → table_from rest ≡ Some p
    → (infos : Items) × AreAll IsColumn p.0 infos × (is_row p.1 ≡ true) × (rest ≡ item (array infos) (item (row_data p.1) no_items))
unfolding table_from
table_takes rest p e =
    let two = bind_some (two_items rest) _ p e in
    let cs = bind_some (given_from column_from false two.0.0) _ p two.2 in
    let row = bind_some (row_from two.0.1) _ p cs.2 in
    let infos = given_takes column_from IsColumn column_takes false two.0.0 cs.0 cs.1 in
    let place = row_takes two.0.1 row.0 row.1 in
    subst (λ (q : List ColDef × ℕ). (infos : Items) × AreAll IsColumn q.0 infos × (is_row q.1 ≡ true) × (rest ≡ item (array infos) (item (row_data q.1) no_items)))
    (some_same (cs.0, row.0) p row.2)
    (infos.0, infos.1, place.0, two_take rest two.0.0 two.0.1 two.1 ∙ (λ i. item (infos.2 i) (item (place.1 i) no_items)))

only_name_takes : (rest : Items) (n : List ℕ) → only_name rest ≡ Some n → (has_name_length n ≡ true) × (rest ≡ item (string n) no_items)
unfolding only_name
only_name_takes rest n e =
    let t = bind_some (only_text rest) _ n e in
    let is = name_takes t.0 n t.2 in
    (is.1, only_text_takes rest t.0 t.1 ∙ ap (λ x. item (string x) no_items) is.0)

two_names_take : (rest : Items) (p : List ℕ × List ℕ) → two_names rest ≡ Some p
    → (has_name_length p.0 ≡ true) × (has_name_length p.1 ≡ true) × (rest ≡ item (string p.0) (item (string p.1) no_items))
unfolding two_names
two_names_take rest p e =
    let two = bind_some (text_beside rest) _ p e in
    let first = bind_some (name_from two.0.0) _ p two.2 in
    let text = bind_some (as_str two.0.1) _ p first.2 in
    let second = bind_some (name_from text.0) _ p text.2 in
    let one = name_takes two.0.0 first.0 first.1 in
    let other = name_takes text.0 second.0 second.1 in
    let end : two.0.1 ≡ string second.0 = text_takes two.0.1 text.0 text.1 ∙ ap string other.0 in
    subst (λ (q : List ℕ × List ℕ). (has_name_length q.0 ≡ true) × (has_name_length q.1 ≡ true) × (rest ≡ item (string q.0) (item (string q.1) no_items)))
    (some_same (first.0, second.0) p second.2)
    (one.1, other.1, text_beside_takes rest two.0.0 two.0.1 two.1 ∙ (λ i. item (string (one.0 i)) (item (end i) no_items)))

added_column_takes : (rest : Items) (c : ColDef) → added_column rest ≡ Some c → (is_column c ≡ true) × (rest ≡ item (string c.id) (item (added_data c) no_items))
unfolding added_column
added_column_takes rest c e =
    let two = bind_some (text_beside rest) _ c e in
    let n = bind_some (name_from two.0.0) _ c two.2 in
    let name = name_takes two.0.0 n.0 n.1 in
    let is = added_takes n.0 two.0.1 c name.1 n.2 in
    let id : two.0.0 ≡ c.id = name.0 ∙ is.0 in
    (is.1, text_beside_takes rest two.0.0 two.0.1 two.1 ∙ (λ i. item (string (id i)) (item (is.2 i) no_items)))

named_info_takes : (rest : Items) (p : List ℕ × ColInfo) → named_info rest ≡ Some p
    → (has_name_length p.0 ≡ true) × (is_type p.1.ty ≡ true) × (rest ≡ item (string p.0) (item (info_data p.1) no_items))
unfolding named_info
named_info_takes rest p e =
    let two = bind_some (text_beside rest) _ p e in
    let n = bind_some (name_from two.0.0) _ p two.2 in
    let info = bind_some (info_from two.0.1) _ p n.2 in
    let name = name_takes two.0.0 n.0 n.1 in
    let is = info_takes two.0.1 info.0 info.1 in
    subst (λ (q : List ℕ × ColInfo). (has_name_length q.0 ≡ true) × (is_type q.1.ty ≡ true) × (rest ≡ item (string q.0) (item (info_data q.1) no_items)))
    (some_same (n.0, info.0) p info.2)
    (name.1, is.0, text_beside_takes rest two.0.0 two.0.1 two.1 ∙ (λ i. item (string (name.0 i)) (item (is.1 i) no_items)))

-- ---- actions, by the word at the front

-- of the part that was read an action is made
made : {P : Type 0} (part : Option P) (make : P → DocAction) (a : DocAction) → (part >>= λ p. Some (make p)) ≡ Some a → (p : P) × (part ≡ Some p) × (make p ≡ a)
made part make a e =
    let p = bind_some part _ a e in
    (p.0, p.1, some_same (make p.0) a p.2)

module _ (t : List ℕ) (named : has_name_length t ≡ true) (rest : Items) (a : DocAction) where
  abbrev Stands : ActionKind → Type 0
  Stands k = IsDocAction a (action_data k t rest)

  -- the action that is made stands there
  stands : (b : DocAction) → b ≡ a → named_table b ≡ t → IsBehind b rest → Stands (kind_for b)
  stands b same table behind =
      subst (λ x. IsDocAction x (action_data (kind_for b) t rest)) same (record {
        rest = rest;
        named = subst (λ (n : List ℕ). has_name_length n ≡ true) (sym table) named;
        behind = behind;
        whole = ap (λ n. action_data (kind_for b) n rest) (sym table);
      })

  kind_action_takes : (k : ActionKind) → kind_action_from k t rest ≡ Some a → Stands k
  kind_action_takes kind.BulkAddRecord e =
      let p = made (cells_from rest) (λ q. BulkAdd t q.0 q.1) a e in
      stands (BulkAdd t p.0.0 p.0.1) p.2 refl (cells_take rest p.0 p.1)
  kind_action_takes kind.BulkUpdateRecord e =
      let p = made (cells_from rest) (λ q. BulkUpdate t q.0 q.1) a e in
      stands (BulkUpdate t p.0.0 p.0.1) p.2 refl (cells_take rest p.0 p.1)
  kind_action_takes kind.BulkRemoveRecord e =
      let p = made (rows_from rest) (λ q. BulkRemove t q) a e in
      stands (BulkRemove t p.0) p.2 refl (rows_take rest p.0 p.1)
  kind_action_takes kind.AddTable e =
      let p = made (table_from rest) (λ q. AddTable t q.1 q.0) a e in
      stands (AddTable t p.0.1 p.0.0) p.2 refl (table_takes rest p.0 p.1)
  kind_action_takes kind.RemoveTable e =
      let g = guard_some (is_last rest) (RemoveTable t) a e in
      stands (RemoveTable t) g.1 refl (last_takes rest g.0)
  kind_action_takes kind.RenameTable e =
      let p = made (only_name rest) (λ q. RenameTable t q) a e in
      stands (RenameTable t p.0) p.2 refl (only_name_takes rest p.0 p.1)
  kind_action_takes kind.AddColumn e =
      let p = made (added_column rest) (λ q. AddColumn t q) a e in
      stands (AddColumn t p.0) p.2 refl (added_column_takes rest p.0 p.1)
  kind_action_takes kind.RemoveColumn e =
      let p = made (only_name rest) (λ q. RemoveColumn t q) a e in
      stands (RemoveColumn t p.0) p.2 refl (only_name_takes rest p.0 p.1)
  kind_action_takes kind.RenameColumn e =
      let p = made (two_names rest) (λ q. RenameColumn t q.0 q.1) a e in
      stands (RenameColumn t p.0.0 p.0.1) p.2 refl (two_names_take rest p.0 p.1)
  kind_action_takes kind.ModifyColumn e =
      let p = made (named_info rest) (λ q. ModifyColumn t q.0 q.1) a e in
      stands (ModifyColumn t p.0.0 p.0.1) p.2 refl (named_info_takes rest p.0 p.1)
  kind_action_takes kind.AddRecord e = absurd (cc)
  kind_action_takes kind.UpdateRecord e = absurd (cc)
  kind_action_takes kind.RemoveRecord e = absurd (cc)

pub doc_action_takes : (d : Data) (a : DocAction) → doc_action_from d ≡ Some a → IsDocAction a d
unfolding doc_action_from
doc_action_takes d a e =
    let items = bind_some (as_array d) _ a e in
    let word = bind_some (item_text items.0) _ a items.2 in
    let table = bind_some (item_text word.0.1) _ a word.2 in
    let k = bind_some (kind_from word.0.0) _ a table.2 in
    let n = bind_some (name_from table.0.0) _ a k.2 in
    let name = name_takes table.0.0 n.0 n.1 in
    let whole : d ≡ action_data k.0 n.0 table.0.1 =
    array_takes d items.0 items.1
    ∙ ap array (item_text_takes items.0 word.0.0 word.0.1 word.1
    ∙ (λ i. item (string (kind_takes word.0.0 k.0 k.1 i)) (item_text_takes word.0.1 table.0.0 table.0.1 table.1 i))
    ∙ (λ i. item (string (kind_text k.0)) (item (string (name.0 i)) table.0.1))) in
    subst (λ x. IsDocAction a x) (sym whole) (kind_action_takes n.0 name.1 table.0.1 a k.0 n.2)

-- ---- and what stands there is read again

cells_again : (rows : List ℕ) (cs : List CellColumn) (rest : Items) → AreCells rows cs rest → cells_from rest ≡ Some (rows, cs)
unfolding cells_from
cells_again rows cs rest h =
    ap cells_from h.whole
    ∙ rw (given_again row_from IsRow row_read false rows (array h.ids) (h.ids, h.given, refl), (named_again (length rows) cs h.members h.columns).0, (named_again (length rows) cs h.members h.columns).1) refl

behind_again : (a : DocAction) (rest : Items) → IsBehind a rest → kind_action_from (kind_for a) (named_table a) rest ≡ Some a
unfolding rows_from table_from only_name two_names added_column named_info only_text text_beside
behind_again (BulkAdd t rows cs) rest h = rw (cells_again rows cs rest h) refl
behind_again (BulkUpdate t rows cs) rest h = rw (cells_again rows cs rest h) refl
behind_again (BulkRemove t rows) rest h =
    ap (λ x. rows_from x >>= λ r. Some (BulkRemove t r)) h.2 ∙ rw (all_again row_from IsRow row_read rows h.0 h.1) refl
behind_again (AddTable t row cs) rest h =
    ap (λ x. table_from x >>= λ p. Some (AddTable t p.1 p.0)) h.3 ∙ rw (all_again column_from IsColumn column_again cs h.0 h.1, h.2) refl
behind_again (RemoveTable t) rest h = ap (λ x. kind_action_from kind.RemoveTable t x) h
behind_again (RenameTable t new) rest h = ap (λ x. kind_action_from kind.RenameTable t x) h.1 ∙ rw h.0 refl
behind_again (AddColumn t c) rest h =
    ap (λ x. kind_action_from kind.AddColumn t x) h.1 ∙ rw (column_named c h.0, added_again c h.0) refl
behind_again (RemoveColumn t c) rest h = ap (λ x. kind_action_from kind.RemoveColumn t x) h.1 ∙ rw h.0 refl
behind_again (RenameColumn t c new) rest h = ap (λ x. kind_action_from kind.RenameColumn t x) h.2 ∙ rw (h.0, h.1) refl
behind_again (ModifyColumn t c info) rest h =
    ap (λ x. kind_action_from kind.ModifyColumn t x) h.2 ∙ rw (h.0, info_again info h.1) refl

-- by the word at the front and the table
fronted : (a : DocAction) (rest : Items) → has_name_length (named_table a) ≡ true → doc_action_from (action_data (kind_for a) (named_table a) rest) ≡ kind_action_from (kind_for a) (named_table a) rest
unfolding doc_action_from
fronted (BulkAdd t rows cs) rest h = rw h refl
fronted (BulkUpdate t rows cs) rest h = rw h refl
fronted (BulkRemove t rows) rest h = rw h refl
fronted (AddTable t row cs) rest h = rw h refl
fronted (RemoveTable t) rest h = rw h refl
fronted (RenameTable t new) rest h = rw h refl
fronted (AddColumn t c) rest h = rw h refl
fronted (RemoveColumn t c) rest h = rw h refl
fronted (RenameColumn t c new) rest h = rw h refl
fronted (ModifyColumn t c info) rest h = rw h refl

pub doc_action_again : (a : DocAction) (d : Data) → IsDocAction a d → doc_action_from d ≡ Some a
doc_action_again a d h = ap doc_action_from h.whole ∙ fronted a h.rest h.named ∙ behind_again a h.rest h.behind
