-- Actions on records are read exactly from what stands behind their tables.
use Rattle.std.proofs.Common.{◌≡◌, ℕ, ℤ, List, Bool, true, length, Some, refl, ap, ◌∙◌, subst}
use Rattle.serde_json.specs.Data.{Items, no_items, item}
use Rattle.doc_model.specs.declared.user_action.UserAction.{UserAction}
use Rattle.doc_model.specs.declared.user_action.UserAction.TheVariants.{Add, Update, Remove}
use Rattle.doc_model.specs.declared.user_action.UserColumn.{UserColumn}
use Rattle.action_lines.specs.Items.{only_item, two_items, given_from}
use Rattle.action_lines.specs.Numbers.{int_from, IsInt, new_row_from, IsNewRow}
use Rattle.action_lines.specs.Columns.{columns_in}
use Rattle.action_lines.specs.RecordActions.{is_count, is_explicit, IsAdd, IsUpdate, IsRemove, count_from, new_rows_from, add_from, update_from, remove_from}
use Rattle.action_lines.specs.Actions.{action_data, add_kind, update_kind, remove_kind, IsAction}
use Rattle.action_lines.proofs.StepLemmas.{bind_some, guard_some, some_same}
use Rattle.action_lines.proofs.ItemLemmas.{only_takes, two_take, given_takes, given_again}
use Rattle.action_lines.proofs.NumberLemmas.{int_takes, int_read, new_row_takes, new_row_read}
use Rattle.action_lines.proofs.ColumnLemmas.{columns_in_take, columns_in_again}

pub add_takes : (single : Bool) (t : List ℕ) (rest : Items) (a : UserAction) → add_from single t rest ≡ Some a → IsAction a (action_data (add_kind single) t rest)
unfolding add_from new_rows_from
add_takes single t rest a e =
    let two = bind_some (two_items rest) _ a e in
    let rows = bind_some (new_rows_from single two.0.0) _ a two.2 in
    let ids = bind_some (given_from new_row_from single two.0.0) _ rows.0 rows.1 in
    let count = bind_some (count_from ids.0) _ rows.0 ids.2 in
    let same = some_same (count.0, is_explicit ids.0) rows.0 count.2 in
    let few = guard_some (is_count (length ids.0)) (length ids.0) count.0 count.1 in
    let counted : length ids.0 ≡ rows.0.0 = few.1 ∙ ap (λ (p : ℕ × Bool). p.0) same in
    let cs = bind_some (columns_in single rows.0.0 two.0.1) _ a rows.2 in
    let members = columns_in_take single rows.0.0 two.0.1 cs.0 cs.1 in
    let is : IsAdd single rows.0.0 rows.0.1 cs.0 rest = record {
      ids = ids.0;
      rows = two.0.0;
      members = members.0;
      given = given_takes new_row_from IsNewRow new_row_takes single two.0.0 ids.0 ids.1;
      counted = counted;
      few = subst (λ n. is_count n ≡ true) counted few.0;
      told = ap (λ (p : ℕ × Bool). p.1) same;
      filled = members.1;
      whole = two_take rest two.0.0 two.0.1 two.1 ∙ ap (λ x. item two.0.0 (item x no_items)) members.2;
    } in
    subst (λ x. IsAction x (action_data (add_kind single) t rest)) (some_same (Add t single rows.0.0 rows.0.1 cs.0) a cs.2) (rest, is, refl)

new_rows_again : (single : Bool) (count : ℕ) (has_row_ids : Bool) (cs : List UserColumn) (rest : Items) (h : IsAdd single count has_row_ids cs rest) → new_rows_from single h.rows ≡ Some (count, has_row_ids)
unfolding new_rows_from
new_rows_again single count has_row_ids cs rest h = rw (given_again new_row_from IsNewRow new_row_read single h.ids h.rows h.given, h.counted, h.few, h.told) refl

pub add_again : (single : Bool) (t : List ℕ) (count : ℕ) (has_row_ids : Bool) (cs : List UserColumn) (rest : Items) → IsAdd single count has_row_ids cs rest → add_from single t rest ≡ Some (Add t single count has_row_ids cs)
unfolding add_from
add_again single t count has_row_ids cs rest h =
    ap (add_from single t) h.whole ∙ rw (new_rows_again single count has_row_ids cs rest h, columns_in_again single count cs h.members h.filled) refl

pub update_takes : (single : Bool) (t : List ℕ) (rest : Items) (a : UserAction) → update_from single t rest ≡ Some a → IsAction a (action_data (update_kind single) t rest)
unfolding update_from
update_takes single t rest a e =
    let two = bind_some (two_items rest) _ a e in
    let ids = bind_some (given_from int_from single two.0.0) _ a two.2 in
    let cs = bind_some (columns_in single (length ids.0) two.0.1) _ a ids.2 in
    let members = columns_in_take single (length ids.0) two.0.1 cs.0 cs.1 in
    let is : IsUpdate single ids.0 cs.0 rest = record {
      rows = two.0.0;
      members = members.0;
      given = given_takes int_from IsInt int_takes single two.0.0 ids.0 ids.1;
      filled = members.1;
      whole = two_take rest two.0.0 two.0.1 two.1 ∙ ap (λ x. item two.0.0 (item x no_items)) members.2;
    } in
    subst (λ x. IsAction x (action_data (update_kind single) t rest)) (some_same (Update t single ids.0 cs.0) a cs.2) (rest, is, refl)

pub update_again : (single : Bool) (t : List ℕ) (ids : List ℤ) (cs : List UserColumn) (rest : Items) → IsUpdate single ids cs rest → update_from single t rest ≡ Some (Update t single ids cs)
unfolding update_from
update_again single t ids cs rest h =
    ap (update_from single t) h.whole
    ∙ rw (given_again int_from IsInt int_read single ids h.rows h.given, columns_in_again single (length ids) cs h.members h.filled) refl

pub remove_takes : (single : Bool) (t : List ℕ) (rest : Items) (a : UserAction) → remove_from single t rest ≡ Some a → IsAction a (action_data (remove_kind single) t rest)
unfolding remove_from
remove_takes single t rest a e =
    let rows = bind_some (only_item rest) _ a e in
    let ids = bind_some (given_from int_from single rows.0) _ a rows.2 in
    let is : IsRemove single ids.0 rest = record {
      rows = rows.0;
      given = given_takes int_from IsInt int_takes single rows.0 ids.0 ids.1;
      whole = only_takes rest rows.0 rows.1;
    } in
    subst (λ x. IsAction x (action_data (remove_kind single) t rest)) (some_same (Remove t single ids.0) a ids.2) (rest, is, refl)

pub remove_again : (single : Bool) (t : List ℕ) (ids : List ℤ) (rest : Items) → IsRemove single ids rest → remove_from single t rest ≡ Some (Remove t single ids)
unfolding remove_from
remove_again single t ids rest h = ap (remove_from single t) h.whole ∙ rw (given_again int_from IsInt int_read single ids h.rows h.given) refl
