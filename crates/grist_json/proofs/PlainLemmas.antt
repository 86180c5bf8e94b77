-- What is printed has no float, and does not nest deep.
use Rattle.std.proofs.Common.{◌≡◌, ℕ, ◌≤◌, ℤ, pos, negsuc, List, [], ◌∷◌, map, fold, Bool, true, false, ◌||◌, Option, Some, None, Ordering, Less, Equal, Greater, refl, arith}
use Rattle.std.specs.Ordering.{nat_cmp, match_ordering}
use Rattle.std.specs.Cmp.Lexicographic.{slice_cmp}
use Rattle.serde_json.specs.Data.{Data, Items, Members, no_members, member, put, depth, items_depth, members_depth}
use Rattle.serde_json.specs.View.{items_of}
use Rattle.serde_json.specs.Written.{has_float, items_have_float, members_have_float}
use Rattle.cell_types.specs.declared.value.CellItem.{CellItem}
use Rattle.cell_types.specs.declared.value.CellItem.TheVariants as one
use Rattle.cell_types.specs.declared.value.CellValue.{CellValue}
use Rattle.cell_types.specs.declared.value.CellValue.TheVariants as value
use Rattle.doc_model.specs.declared.column.CellColumn.{CellColumn}
use Rattle.doc_model.specs.declared.verdict.RetValue.{RetValue}
use Rattle.doc_model.specs.declared.verdict.RetValue.TheVariants as ret
use Rattle.doc_model.specs.declared.verdict.Verdict.{Verdict}
use Rattle.doc_model.specs.declared.verdict.Verdict.TheVariants.{Done, Changes, Bundle, Undone, Refused, Limited, Unresolved, Denied}
use Rattle.doc_model.specs.declared.view.ViewCol.{ViewCol}
use Rattle.doc_model.specs.declared.view.ViewAction.{ViewAction}
use Rattle.doc_model.specs.declared.view.ViewAction.TheVariants as action
use Rattle.action_lines.specs.Numbers.{int_data, row_data}
use Rattle.grist_json.specs.Values.{item_data, value_data, values_data}
use Rattle.grist_json.specs.Actions.{formula_data, column_data, info_data, put_column, columns_data, action_data, actions_data}
use Rattle.grist_json.specs.Replies.{id_data, ret_data, verdict_data}
use Rattle.grist_json.specs.Lines.{stream_data}

pub put_same : {k l : List ℕ} {d e : Data} {ms ns : Members} → k ≡ l → d ≡ e → ms ≡ ns → put k d ms ≡ put l e ns
put_same p q r = λ i. put (p i) (q i) (r i)

-- no float, and at most so deep
pub record IsFlat (n : ℕ) (d : Data) : Type 0 where
  pub whole : has_float d ≡ false
  pub low : depth d ≤ n

pub record AreFlat (n : ℕ) (ds : Items) : Type 0 where
  pub whole : items_have_float ds ≡ false
  pub low : items_depth ds ≤ n

pub record MembersFlat (n : ℕ) (ms : Members) : Type 0 where
  pub whole : members_have_float ms ≡ false
  pub low : members_depth ms ≤ n

pub all_flat : {X : Type 0} (shown : X → Data) (n : ℕ) → ((x : X) → IsFlat n (shown x)) → (xs : List X) → AreFlat n (items_of (map shown xs))
all_flat shown n h [] = record { whole = refl; low = omega arith }
all_flat shown n h (x ∷ xs) =
    let here = h x in
    let rest = all_flat shown n h xs in
    record { whole = rw here.whole rest.whole; low = omega (arith, here.low, rest.low) }

int_flat : (z : ℤ) → IsFlat 0 (int_data z)
int_flat (pos n) = record { whole = refl; low = omega arith }
int_flat (negsuc n) = record { whole = refl; low = omega arith }

pub row_flat : (n : ℕ) → IsFlat 0 (row_data n)
row_flat n = record { whole = refl; low = omega arith }

item_flat : (x : CellItem) → IsFlat 1 (item_data x)
item_flat one.Null = record { whole = refl; low = omega arith }
item_flat (one.Int n) = record { whole = (int_flat n).whole; low = omega (arith, (int_flat n).low) }
item_flat (one.Bool b) = record { whole = refl; low = omega arith }
item_flat (one.Text t) = record { whole = refl; low = omega arith }
item_flat (one.Date n) = record { whole = rw (int_flat n).whole refl; low = omega (arith, (int_flat n).low) }
item_flat (one.Rec r) = record { whole = refl; low = omega arith }

value_flat : (v : CellValue) → IsFlat 2 (value_data v)
value_flat value.Null = record { whole = refl; low = omega arith }
value_flat (value.Int n) = record { whole = (int_flat n).whole; low = omega (arith, (int_flat n).low) }
value_flat (value.Bool b) = record { whole = refl; low = omega arith }
value_flat (value.Text t) = record { whole = refl; low = omega arith }
value_flat (value.Date n) = record { whole = rw (int_flat n).whole refl; low = omega (arith, (int_flat n).low) }
value_flat (value.Rec r) = record { whole = refl; low = omega arith }
value_flat (value.RecSet s) =
    let rows = all_flat row_data 0 row_flat s.rows in
    record { whole = rw rows.whole refl; low = omega (arith, rows.low) }
value_flat (value.List items) =
    let all = all_flat item_data 1 item_flat items in
    record { whole = all.whole; low = omega (arith, all.low) }
value_flat (value.Err e) = record { whole = refl; low = omega arith }
value_flat value.Censored = record { whole = refl; low = omega arith }

values_flat : (vs : List CellValue) → IsFlat 3 (values_data vs)
values_flat vs =
    let all = all_flat value_data 2 value_flat vs in
    record { whole = all.whole; low = omega (arith, all.low) }

match_flat : (n : ℕ) (o : Ordering) (a b c : Members) → MembersFlat n a → MembersFlat n b → MembersFlat n c → MembersFlat n (match_ordering o a b c)
match_flat n Less a b c p q r = p
match_flat n Equal a b c p q r = q
match_flat n Greater a b c p q r = r

member_flat : (n : ℕ) (k : List ℕ) (d : Data) (ms : Members) → IsFlat n d → MembersFlat n ms → MembersFlat n (member k d ms)
member_flat n k d ms p q = record { whole = rw p.whole q.whole; low = omega (arith, p.low, q.low) }

either_false : (a b : Bool) → (a || b) ≡ false → (a ≡ false) × (b ≡ false)
either_false true b e = absurd (cc)
either_false false b e = (refl, e)

head_flat : (n : ℕ) (k : List ℕ) (d : Data) (ms : Members) → MembersFlat n (member k d ms) → IsFlat n d
head_flat n k d ms p = record { whole = (either_false (has_float d) (members_have_float ms) p.whole).0; low = omega (arith, p.low) }

tail_flat : (n : ℕ) (k : List ℕ) (d : Data) (ms : Members) → MembersFlat n (member k d ms) → MembersFlat n ms
tail_flat n k d ms p = record { whole = (either_false (has_float d) (members_have_float ms) p.whole).1; low = omega (arith, p.low) }

put_flat : (n : ℕ) (k : List ℕ) (d : Data) (ms : Members) → IsFlat n d → MembersFlat n ms → MembersFlat n (put k d ms)
put_flat n k d no_members p q = member_flat n k d no_members p q
put_flat n k d (member l e ms) p q =
    let rest = tail_flat n l e ms q in
    match_flat n (slice_cmp nat_cmp k l) (member k d (member l e ms)) (member l d ms) (member l e (put k d ms))
    (member_flat n k d (member l e ms) p q) (member_flat n l d ms p rest) (member_flat n l e (put k d ms) (head_flat n l e ms q) (put_flat n k d ms p rest))

fold_flat : (cs : List CellColumn) (ms : Members) → MembersFlat 3 ms → MembersFlat 3 (fold put_column ms cs)
fold_flat [] ms p = p
fold_flat (c ∷ cs) ms p = fold_flat cs (put_column ms c) (put_flat 3 c.id (values_data c.values) ms (values_flat c.values) p)

pub columns_flat : (cs : List CellColumn) → IsFlat 4 (columns_data cs)
columns_flat cs =
    let all = fold_flat cs no_members (record { whole = refl; low = omega arith }) in
    record { whole = all.whole; low = omega (arith, all.low) }

formula_flat : (o : Option (List ℕ)) → IsFlat 0 (formula_data o)
formula_flat None = record { whole = refl; low = omega arith }
formula_flat (Some t) = record { whole = refl; low = omega arith }

column_flat : (c : ViewCol) → IsFlat 1 (column_data c)
column_flat c =
    let formula = formula_flat c.formula in
    record { whole = rw formula.whole refl; low = omega (arith, formula.low) }

info_flat : (c : ViewCol) → IsFlat 1 (info_data c)
info_flat c =
    let formula = formula_flat c.formula in
    record { whole = rw formula.whole refl; low = omega (arith, formula.low) }

action_flat : (a : ViewAction) → IsFlat 5 (action_data a)
action_flat (action.AddTable t cs) =
    let all = all_flat column_data 1 column_flat cs in
    record { whole = rw all.whole refl; low = omega (arith, all.low) }
action_flat (action.RemoveTable t) = record { whole = refl; low = omega arith }
action_flat (action.AddColumn t c) =
    let info = info_flat c in
    record { whole = rw info.whole refl; low = omega (arith, info.low) }
action_flat (action.RemoveColumn t c) = record { whole = refl; low = omega arith }
action_flat (action.ModifyColumn t c) =
    let info = info_flat c in
    record { whole = rw info.whole refl; low = omega (arith, info.low) }
action_flat (action.BulkAdd t rows cs) =
    let all = all_flat row_data 0 row_flat rows in
    let columns = columns_flat cs in
    record { whole = rw (all.whole, columns.whole) refl; low = omega (arith, all.low, columns.low) }
action_flat (action.BulkUpdate t rows cs) =
    let all = all_flat row_data 0 row_flat rows in
    let columns = columns_flat cs in
    record { whole = rw (all.whole, columns.whole) refl; low = omega (arith, all.low, columns.low) }
action_flat (action.BulkRemove t rows) =
    let all = all_flat row_data 0 row_flat rows in
    record { whole = rw all.whole refl; low = omega (arith, all.low) }

id_flat : (o : Option ℕ) → IsFlat 0 (id_data o)
id_flat None = record { whole = refl; low = omega arith }
id_flat (Some n) = record { whole = refl; low = omega arith }

ret_flat : (r : RetValue) → IsFlat 1 (ret_data r)
ret_flat ret.Null = record { whole = refl; low = omega arith }
ret_flat (ret.Id n) = record { whole = refl; low = omega arith }
ret_flat (ret.Ids ids) =
    let all = all_flat id_data 0 id_flat ids in
    record { whole = all.whole; low = omega (arith, all.low) }
ret_flat (ret.Name t) = record { whole = refl; low = omega arith }

pub verdict_flat : (v : Verdict) → IsFlat 8 (verdict_data v)
verdict_flat Done = record { whole = refl; low = omega arith }
verdict_flat (Changes actions) =
    let all = all_flat action_data 5 action_flat actions in
    record { whole = rw all.whole refl; low = omega (arith, all.low) }
verdict_flat (Bundle n values) =
    let all = all_flat ret_data 1 ret_flat values in
    record { whole = rw all.whole refl; low = omega (arith, all.low) }
verdict_flat (Undone n) = record { whole = refl; low = omega arith }
verdict_flat (Refused code None) = record { whole = refl; low = omega arith }
verdict_flat (Refused code (Some at)) = record { whole = refl; low = omega arith }
verdict_flat (Limited what bound None) = record { whole = refl; low = omega arith }
verdict_flat (Limited what bound (Some at)) = record { whole = refl; low = omega arith }
verdict_flat (Unresolved count) = record { whole = refl; low = omega arith }
verdict_flat (Denied at rule) = record { whole = refl; low = omega arith }

pub actions_flat : (actions : List ViewAction) → IsFlat 6 (actions_data actions)
actions_flat actions =
    let all = all_flat action_data 5 action_flat actions in
    record { whole = all.whole; low = omega (arith, all.low) }

pub stream_flat : (n : ℕ) (actions : List ViewAction) → IsFlat 8 (stream_data n actions)
stream_flat n actions =
    let all = all_flat action_data 5 action_flat actions in
    record { whole = rw all.whole refl; low = omega (arith, all.low) }
