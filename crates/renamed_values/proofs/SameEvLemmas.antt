-- Renamed formulas come to the same.
use Rattle.std.proofs.Common.{◌≡◌, ◌∙◌, ap, refl, subst, sym, ℕ, zero, suc, pos, Bool, true, false, cond, ◌&&◌, ◌||◌, ◌==◌, ◌+◌, List, [], ◌∷◌, Option, Some, None, Result, Ok, map, bytes_eq}
use Rattle.std.specs.Prelude.{nat_le, codes}
use Rattle.cell_types.specs.ValueText.{text_within_bound}
use Rattle.value_ops.specs.Numbers.{number_of}
use Rattle.std.specs.Bool.{⊤}
use Rattle.std.specs.Option.{is_some}
use Rattle.std.proofs.lemmas.Slice.Eq.{bytes_eq-Decides}
use Rattle.std.specs.List.{list_all}
use Rattle.cell_types.specs.declared.cell.CellId.{CellId}
use Rattle.cell_types.specs.declared.cell.KeyItem.{KeyItem}
use Rattle.cell_types.specs.declared.column_type.ColType.{ColType}
use Rattle.cell_types.specs.declared.value.CellValue.{CellValue}
use Rattle.cell_types.specs.declared.value.CellValue.TheVariants as value
use Rattle.cell_types.specs.declared.value.ErrKind.{ErrKind}
use Rattle.cell_types.specs.declared.value.ErrKind.TheVariants as err
use Rattle.cell_types.specs.declared.value.RowRef.{RowRef}
use Rattle.cell_types.specs.Reference.{row_items}
use Rattle.formula_parse.specs.declared.operator.BinaryOp.{BinaryOp}
use Rattle.formula_parse.specs.Lexemes.{is_id}
use Rattle.formula_parse.specs.Tree.{Tree, number, text, constant, dollar, binary, prefix, conditional, parentheses, list, call, attribute, every, lookup, atom, Trees, no_trees, one_more, Keys, no_keys, one_key}
use Rattle.value_ops.specs.Joined.{bounded_list}
use Rattle.value_ops.specs.Truth.{truth_of}
use Rattle.formula_eval.specs.declared.note.Note.{Note}
use Rattle.formula_eval.specs.Attribute.{as_item, attribute_of, column_runs, item_of, listed}
use Rattle.formula_eval.specs.Call.{argument, called}
use Rattle.formula_eval.specs.Eval.{count_of, contains_word, ev, ev_arguments, ev_each, ev_keys, forms_of, is_containing}
use Rattle.formula_eval.specs.Function.{extreme_of, first_of, function_of, length_of, size_of, text_or_overflow, total_of}
use Rattle.formula_eval.specs.Lookup.{agrees, columns_of, holds, in_table, is_key_column, kept_row, key_met, KeyForm, keyed, looked_up, matched, matched_in, meets, met_by, opened, row_met, scan, told_meets, value_meets, with_columns}
use Rattle.formula_eval.specs.Operator.{combined, chosen, is_decided, operated, prefixed}
use Rattle.formula_eval.specs.Reader.{Reader, Told, known, no_table, no_column, no_row, needed, cell_at}
use Rattle.formula_eval.specs.Reading.{as_read, read_cell, told_out, value_in}
use Rattle.formula_eval.specs.Run.{Out, Run, Stop, both, caught, circular, collect, done, gives, need, onward, or_else, out_of, raises, seq, stops}
use Rattle.formula_records.specs.declared.tables.RecordTables.{RecordTables}
use Rattle.formula_records.specs.RecordTables.{only}
use Rattle.formula_records.specs.Recs.{Columns, recs}
use Rattle.rename_marks.specs.declared.column_rename.ColumnRename.{ColumnRename}
use Rattle.rename_texts.specs.Renamed.{Rename, all_renamed, keys_renamed, named, renamed}
use Rattle.renamed_values.specs.HeldRecords.{IsPlain, RecordsOf}
use Rattle.renamed_values.specs.PlainNames.{AllNamePlain, KeysNamePlain, NamesPlain}
use Rattle.renamed_values.specs.RecordsLaw.{IsTyped}
use Rattle.renamed_values.specs.SameEv.{AllFit, EachFits, Fits, IsKept, IsMoved, KeysFit, SameEvLaw, SameOut, moved}
use Rattle.renamed_values.proofs.RecordLemmas.{by_choice, records_held}
use Rattle.renamed_values.proofs.RecordTableLemmas.{is_itself}

same_refl : {A : Type 0} (o : Out A) → SameOut o o
same_refl (gives v) = refl
same_refl (raises e) = refl
same_refl (stops s) = tt

same_by : {A : Type 0} (o p : Out A) → o ≡ p → SameOut o p
same_by o p e = subst (SameOut o) e (same_refl o)

module _ {A B : Type 0} where
  seq_same : (a b : Run A) (j k : A → Run B) → SameOut a.out b.out → ((v : A) → a.out ≡ gives v → SameOut (j v).out (k v).out) → SameOut (seq a j).out (seq b k).out
  seq_same a b j k g each = by a.out b.out a.notes b.notes refl g
    where
      by : (o p : Out A) (l m : List Note) → a.out ≡ o → SameOut o p → SameOut (onward o l j).out (onward p m k).out
      by (gives v) (gives w) l m e g = subst (λ (u : A). SameOut (j v).out (k u).out) g (each v e)
      by (gives v) (raises f) l m e g = absurd g
      by (gives v) (stops s) l m e g = absurd g
      by (raises f) (gives v) l m e g = absurd g
      by (raises f) (raises h) l m e g = g
      by (raises f) (stops s) l m e g = absurd g
      by (stops s) (gives v) l m e g = absurd g
      by (stops s) (raises f) l m e g = absurd g
      by (stops s) (stops t) l m e g = tt

-- a run, and then the same of what it gives
pub then_same : {A B : Type 0} (a b : Run A) (j : A → Run B) → SameOut a.out b.out → SameOut (seq a j).out (seq b j).out
then_same a b j g = seq_same a b j j g (λ v e. same_refl (j v).out)

caught_same : (o p : Out CellValue) (l m : List Note) (a b : Run CellValue) → SameOut o p → SameOut a.out b.out → SameOut (caught o l a).out (caught p m b).out
caught_same (gives v) (gives w) l m a b g h = g
caught_same (gives v) (raises f) l m a b g h = absurd g
caught_same (gives v) (stops s) l m a b g h = absurd g
caught_same (raises e) (gives w) l m a b g h = absurd g
caught_same (raises e) (raises f) l m a b g h = h
caught_same (raises e) (stops s) l m a b g h = absurd g
caught_same (stops s) (gives w) l m a b g h = absurd g
caught_same (stops s) (raises f) l m a b g h = absurd g
caught_same (stops s) (stops t) l m a b g h = tt

abbrev AllSame : {A : Type 0} → List (Run A) → List (Run A) → Type 0
AllSame [] [] = ⊤
AllSame [] (b ∷ m) = ⊥
AllSame (a ∷ l) [] = ⊥
AllSame (a ∷ l) (b ∷ m) = SameOut a.out b.out × AllSame l m

collect_same : {A : Type 0} (l m : List (Run A)) → AllSame l m → SameOut (collect l).out (collect m).out
collect_same [] [] h = refl
collect_same [] (b ∷ m) h = absurd h
collect_same (a ∷ l) [] h = absurd h
collect_same (a ∷ l) (b ∷ m) h = seq_same a b _ _ h.0 (λ v e. then_same (collect l) (collect m) _ (collect_same l m h.1))

items_same : (l m : List (Run CellValue)) → AllSame l m → AllSame (map as_item l) (map as_item m)
items_same [] [] h = tt
items_same [] (b ∷ m) h = absurd h
items_same (a ∷ l) [] h = absurd h
items_same (a ∷ l) (b ∷ m) h = (then_same a b (λ v. done (item_of v)) h.0, items_same l m h.1)

listed_same : (l m : List (Run CellValue)) → AllSame l m → SameOut (listed l).out (listed m).out
listed_same l m h = then_same (collect (map as_item l)) (collect (map as_item m)) (λ is. done (out_of (bounded_list is))) (collect_same (map as_item l) (map as_item m) (items_same l m h))

chosen_same : (t u a b c d : Run CellValue) → SameOut t.out u.out → SameOut a.out b.out → SameOut c.out d.out → SameOut (chosen t a c).out (chosen u b d).out
chosen_same t u a b c d h f g = seq_same t u _ _ h (λ v e. elim (truth_of v) as (λ q. SameOut (cond q a c).out (cond q b d).out) [ true ↦ f | false ↦ g ])

combined_same : (o : BinaryOp) (a b c d : Run CellValue) → SameOut a.out b.out → SameOut c.out d.out → SameOut (combined o a c).out (combined o b d).out
combined_same o a b c d f g =
    seq_same a b _ _ f (λ v e. elim (is_decided o v) as (λ q. SameOut (cond q (done (gives v)) (seq c (λ w. done (operated o v w)))).out (cond q (done (gives v)) (seq d (λ w. done (operated o v w)))).out)
    [ true ↦ refl | false ↦ then_same c d (λ w. done (operated o v w)) g ])

argument_same : (l m : List (Run CellValue)) (i : ℕ) → AllSame l m → SameOut (argument l i).out (argument m i).out
argument_same [] [] i h = refl
argument_same [] (b ∷ m) i h = absurd h
argument_same (a ∷ l) [] i h = absurd h
argument_same (a ∷ l) (b ∷ m) zero h = h.0
argument_same (a ∷ l) (b ∷ m) (suc i) h = argument_same l m i h.1

-- a function that evaluates all its arguments
bare_same : (takes : Bool) (f : List CellValue → Result CellValue ErrKind) (l m : List (Run CellValue)) → AllSame l m
    → SameOut (cond takes (seq (collect l) (λ vs. done (out_of (f vs)))) (done (raises err.WrongType))).out (cond takes (seq (collect m) (λ vs. done (out_of (f vs)))) (done (raises err.WrongType))).out
bare_same true f l m h = then_same (collect l) (collect m) (λ vs. done (out_of (f vs))) (collect_same l m h)
bare_same false f l m h = refl

counted_same : (takes : Bool) (a b : Run CellValue) → SameOut a.out b.out → SameOut (cond takes a (done (raises err.WrongType))).out (cond takes b (done (raises err.WrongType))).out
counted_same true a b h = h
counted_same false a b h = refl

called_same : (n : List ℕ) (c : ℕ) (l m : List (Run CellValue)) → AllSame l m → SameOut (called (function_of n) c l).out (called (function_of n) c m).out
unfolding function_of
called_same n c l m h =
    by_choice (bytes_eq n (codes "IF")) _ _ (λ b o. SameOut (called o c l).out (called o c m).out)
    (counted_same (c == 3) (chosen (argument l 0) (argument l 1) (argument l 2)) (chosen (argument m 0) (argument m 1) (argument m 2))
    (chosen_same (argument l 0) (argument m 0) (argument l 1) (argument m 1) (argument l 2) (argument m 2) (argument_same l m 0 h) (argument_same l m 1 h) (argument_same l m 2 h)))
    (by_choice (bytes_eq n (codes "IFERROR")) _ _ (λ b o. SameOut (called o c l).out (called o c m).out)
    (counted_same (nat_le 1 c && nat_le c 2) (or_else (argument l 0) (argument l 1)) (or_else (argument m 0) (argument m 1))
    (caught_same (argument l 0).out (argument m 0).out (argument l 0).notes (argument m 0).notes (argument l 1) (argument m 1) (argument_same l m 0 h) (argument_same l m 1 h)))
    (by_choice (bytes_eq n (codes "SUM")) _ _ (λ b o. SameOut (called o c l).out (called o c m).out) (bare_same (nat_le 1 c) total_of l m h)
    (by_choice (bytes_eq n (codes "MIN")) _ _ (λ b o. SameOut (called o c l).out (called o c m).out) (bare_same (nat_le 1 c) (extreme_of false) l m h)
    (by_choice (bytes_eq n (codes "MAX")) _ _ (λ b o. SameOut (called o c l).out (called o c m).out) (bare_same (nat_le 1 c) (extreme_of true) l m h)
    (by_choice (bytes_eq n (codes "len")) _ _ (λ b o. SameOut (called o c l).out (called o c m).out) (bare_same (c == 1) (λ vs. length_of (first_of vs)) l m h)
    (by_choice (bytes_eq n (codes "abs")) _ _ (λ b o. SameOut (called o c l).out (called o c m).out) (bare_same (c == 1) (λ vs. size_of (number_of (first_of vs))) l m h)
    (by_choice (bytes_eq n (codes "str")) _ _ (λ b o. SameOut (called o c l).out (called o c m).out) (bare_same (c == 1) (λ vs. text_or_overflow (text_within_bound (first_of vs))) l m h)
    (by_choice (bytes_eq n (codes "bool")) _ _ (λ b o. SameOut (called o c l).out (called o c m).out) (bare_same (c == 1) (λ vs. Ok (value.Bool (truth_of (first_of vs)))) l m h) refl))))))))

told_same : (c d : CellId) (o : Told) → SameOut (told_out c o) (told_out d o)
told_same c d (known value.Null) = refl
told_same c d (known (value.Int n)) = refl
told_same c d (known (value.Bool b)) = refl
told_same c d (known (value.Text t)) = refl
told_same c d (known (value.Date n)) = refl
told_same c d (known (value.Rec r)) = refl
told_same c d (known (value.RecSet s)) = refl
told_same c d (known (value.List is)) = refl
told_same c d (known (value.Err err.Circular)) = tt
told_same c d (known (value.Err err.ZeroDivision)) = refl
told_same c d (known (value.Err err.WrongType)) = refl
told_same c d (known (value.Err err.Attribute)) = refl
told_same c d (known (value.Err err.Key)) = refl
told_same c d (known (value.Err err.Name)) = refl
told_same c d (known (value.Err err.Overflow)) = refl
told_same c d (known (value.Err err.Syntax)) = refl
told_same c d (known value.Censored) = refl
told_same c d no_table = refl
told_same c d no_column = refl
told_same c d no_row = refl
told_same c d needed = tt

-- ---- outcomes that are both looked at

abbrev IsStop : {A : Type 0} → Out A → Type 0
IsStop (stops s) = ⊤
IsStop o = ⊥

both_stop : {A : Type 0} (o p : Out A) → IsStop o → IsStop p → SameOut o p
both_stop (stops s) (stops t) h g = tt
both_stop (gives v) p h g = absurd h
both_stop (raises e) p h g = absurd h
both_stop (stops s) (gives v) h g = absurd g
both_stop (stops s) (raises e) h g = absurd g

module _ {A B C : Type 0} (f : A → B → C) where
  stops_first : (s : Stop) (p : Out B) → IsStop (both f (stops s) p)
  stops_first circular p = tt
  stops_first (need cs) (gives b) = tt
  stops_first (need cs) (raises e) = tt
  stops_first (need cs) (stops circular) = tt
  stops_first (need cs) (stops (need ds)) = tt

  both_same : (o o' : Out A) (p p' : Out B) → SameOut o o' → SameOut p p' → SameOut (both f o p) (both f o' p')
  both_same (gives a) (gives b) (gives c) (gives d) g h = ap (λ z. f z c) g ∙ ap (f b) h
  both_same (gives a) (gives b) (gives c) (raises e) g h = absurd h
  both_same (gives a) (gives b) (gives c) (stops s) g h = absurd h
  both_same (gives a) (gives b) (raises e) (gives d) g h = absurd h
  both_same (gives a) (gives b) (raises e) (raises e') g h = h
  both_same (gives a) (gives b) (raises e) (stops s) g h = absurd h
  both_same (gives a) (gives b) (stops s) (gives d) g h = absurd h
  both_same (gives a) (gives b) (stops s) (raises e) g h = absurd h
  both_same (gives a) (gives b) (stops s) (stops t) g h = tt
  both_same (gives a) (raises e) p p' g h = absurd g
  both_same (gives a) (stops s) p p' g h = absurd g
  both_same (raises e) (gives b) p p' g h = absurd g
  both_same (raises e) (stops s) p p' g h = absurd g
  both_same (raises e) (raises e') (gives c) (gives d) g h = g
  both_same (raises e) (raises e') (gives c) (raises d) g h = absurd h
  both_same (raises e) (raises e') (gives c) (stops s) g h = absurd h
  both_same (raises e) (raises e') (raises c) (gives d) g h = absurd h
  both_same (raises e) (raises e') (raises c) (raises d) g h = g
  both_same (raises e) (raises e') (raises c) (stops s) g h = absurd h
  both_same (raises e) (raises e') (stops s) (gives d) g h = absurd h
  both_same (raises e) (raises e') (stops s) (raises d) g h = absurd h
  both_same (raises e) (raises e') (stops s) (stops t) g h = tt
  both_same (stops s) (gives b) p p' g h = absurd g
  both_same (stops s) (raises e) p p' g h = absurd g
  both_same (stops s) (stops t) p p' g h = both_stop (both f (stops s) p) (both f (stops t) p') (stops_first s p) (stops_first t p')

-- ---- renaming leaves what keys look for

count_same : (r : Rename) (ts : Trees) → count_of (all_renamed r ts) ≡ count_of ts
count_same r no_trees = refl
count_same r (one_more t ts) = ap (λ (n : ℕ). n + 1) (count_same r ts)

containing_same : (r : Rename) (t : Tree) → is_containing (renamed r t) ≡ is_containing t
containing_same r (number n) = refl
containing_same r (text s) = refl
containing_same r (constant c) = refl
containing_same r (dollar n) = refl
containing_same r (binary o a b) = refl
containing_same r (prefix o a) = refl
containing_same r (conditional a c b) = refl
containing_same r (parentheses a) = refl
containing_same r (list ts) = refl
containing_same r (call n ts) = ap (λ (c : ℕ). bytes_eq n contains_word && (c == 1)) (count_same r ts)
containing_same r (attribute a n) = refl
containing_same r (every n) = refl
containing_same r (lookup k n ks) = refl
containing_same r (atom a) = refl

-- ---- two readers

module _ (m : ColumnRename) (r : Rename) (k : Columns) (x y : Reader) (typed : IsTyped k x) (same : IsMoved m x y) where
  id_same : (t n : List ℕ) → is_id (moved m t n) ≡ is_id n
  id_same t n = by (bytes_eq t m.table) (bytes_eq n m.old) refl
    where
      by : (a b : Bool) → bytes_eq n m.old ≡ b → is_id (cond (a && b) m.new n) ≡ is_id n
      by true true e = same.new ∙ sym same.old ∙ sym (ap is_id ((bytes_eq-Decides n m.old).0 e))
      by true false e = refl
      by false b e = refl

  read_same : (t : List ℕ) → IsPlain t → (n n' : List ℕ) (row : ℕ) → IsKept m t n → moved m t n ≡ n' → SameOut (read_cell x (cell_at t n row)).out (read_cell y (cell_at t n' row)).out
  read_same t p n n' row kept is =
      subst (λ (w : List ℕ). SameOut (read_cell x (cell_at t n row)).out (read_cell y (cell_at t w row)).out) is
      (seq_same (done (told_out (cell_at t n row) (x.cell (cell_at t n row)))) (done (told_out (cell_at t (moved m t n) row) (y.cell (cell_at t (moved m t n) row)))) _ _
      (subst (λ (o : Told). SameOut (told_out (cell_at t n row) (x.cell (cell_at t n row))) (told_out (cell_at t (moved m t n) row) o)) (sym (same.cell t n row p kept)) (told_same (cell_at t n row) (cell_at t (moved m t n) row) (x.cell (cell_at t n row))))
      (λ o e. same_by (value_in (x.kind t n) o) (value_in (y.kind t (moved m t n)) o) (ap (λ (i : Option ColType). value_in i o) (sym (same.kind t n p kept)))))

  column_same : (t : List ℕ) → IsPlain t → (n n' : List ℕ) (rows : List ℕ) → IsKept m t n → moved m t n ≡ n' → AllSame (column_runs x t n rows) (column_runs y t n' rows)
  column_same t p n n' [] kept is = tt
  column_same t p n n' (row ∷ rows) kept is = (read_same t p n n' row kept is, column_same t p n n' rows kept is)

  id_of : (t n n' : List ℕ) → moved m t n ≡ n' → is_id n' ≡ is_id n
  id_of t n n' is = ap is_id (sym is) ∙ id_same t n

  attribute_same : (q : RecordTables) (n n' : List ℕ) (v : CellValue) → Fits m q n n' → RecordsOf q v → SameOut (attribute_of x n v).out (attribute_of y n' v).out
  attribute_same q n n' value.Null f h = refl
  attribute_same q n n' (value.Int i) f h = refl
  attribute_same q n n' (value.Bool b) f h = refl
  attribute_same q n n' (value.Text t) f h = refl
  attribute_same q n n' (value.Date d) f h = refl
  attribute_same q n n' (value.Rec s) f h =
      let fit = f s.table h.1 in
      subst (λ (b : Bool). SameOut (cond (is_id n) (done (gives (value.Int (pos s.row)))) (read_cell x (cell_at s.table n s.row))).out (cond b (done (gives (value.Int (pos s.row)))) (read_cell y (cell_at s.table n' s.row))).out) (sym (id_of s.table n n' fit.1))
      (elim (is_id n) as (λ (b : Bool). SameOut (cond b (done (gives (value.Int (pos s.row)))) (read_cell x (cell_at s.table n s.row))).out (cond b (done (gives (value.Int (pos s.row)))) (read_cell y (cell_at s.table n' s.row))).out) [
        | true ↦ refl
        | false ↦ read_same s.table h.0 n n' s.row fit.0 fit.1
      ])
  attribute_same q n n' (value.RecSet s) f h =
      let fit = f s.table h.1 in
      subst (λ (b : Bool). SameOut (cond (is_id n) (done (out_of (bounded_list (row_items s.rows)))) (listed (column_runs x s.table n s.rows))).out (cond b (done (out_of (bounded_list (row_items s.rows)))) (listed (column_runs y s.table n' s.rows))).out) (sym (id_of s.table n n' fit.1))
      (elim (is_id n) as (λ (b : Bool). SameOut (cond b (done (out_of (bounded_list (row_items s.rows)))) (listed (column_runs x s.table n s.rows))).out (cond b (done (out_of (bounded_list (row_items s.rows)))) (listed (column_runs y s.table n' s.rows))).out) [
        | true ↦ same_refl (out_of (bounded_list (row_items s.rows)))
        | false ↦ listed_same (column_runs x s.table n s.rows) (column_runs y s.table n' s.rows) (column_same s.table h.0 n n' s.rows fit.0 fit.1)
      ])
  attribute_same q n n' (value.List is) f h = refl
  attribute_same q n n' (value.Err e) f h = refl
  attribute_same q n n' value.Censored f h = refl

  -- ---- lookups

  key_column_same : (t : List ℕ) → IsPlain t → (n n' : List ℕ) → IsKept m t n → moved m t n ≡ n' → is_key_column y t n' ≡ is_key_column x t n
  key_column_same t p n n' kept is =
      subst (λ (w : List ℕ). is_key_column y t w ≡ is_key_column x t n) is
      (ap (λ (b : Bool). b || is_some (y.kind t (moved m t n))) (id_same t n) ∙ ap (λ (i : Option ColType). is_id n || is_some i) (same.kind t n p kept))

  -- what is known of keys, before and after
  abbrev FormsSame : List ℕ → List KeyForm → List KeyForm → Type 0
  FormsSame t [] [] = ⊤
  FormsSame t [] (g ∷ gs) = ⊥
  FormsSame t (f ∷ fs) [] = ⊥
  FormsSame t (f ∷ fs) (g ∷ gs) = IsKept m t f.column × (moved m t f.column ≡ g.column) × (g.contains ≡ f.contains) × FormsSame t fs gs

  abbrev KeysSame : List ℕ → List KeyItem → List KeyItem → Type 0
  KeysSame t [] [] = ⊤
  KeysSame t [] (g ∷ gs) = ⊥
  KeysSame t (f ∷ fs) [] = ⊥
  KeysSame t (f ∷ fs) (g ∷ gs) = IsKept m t f.column × (moved m t f.column ≡ g.column) × (g.contains ≡ f.contains) × (g.value ≡ f.value) × KeysSame t fs gs

  keyed_same : (t : List ℕ) (fs gs : List KeyForm) (vs : List CellValue) → FormsSame t fs gs → KeysSame t (keyed fs vs) (keyed gs vs)
  keyed_same t [] [] vs h = tt
  keyed_same t [] (g ∷ gs) vs h = absurd h
  keyed_same t (f ∷ fs) [] vs h = absurd h
  keyed_same t (f ∷ fs) (g ∷ gs) [] h = tt
  keyed_same t (f ∷ fs) (g ∷ gs) (v ∷ vs) h = (h.0, h.1, h.2, refl, keyed_same t fs gs vs h.3)

  columns_same : (t : List ℕ) → IsPlain t → (fs gs : List KeyForm) → FormsSame t fs gs → list_all (λ c. is_key_column x t c) (columns_of fs) ≡ list_all (λ c. is_key_column y t c) (columns_of gs)
  columns_same t p [] [] h = refl
  columns_same t p [] (g ∷ gs) h = absurd h
  columns_same t p (f ∷ fs) [] h = absurd h
  columns_same t p (f ∷ fs) (g ∷ gs) h =
      ap (λ (b : Bool). b && list_all (λ c. is_key_column x t c) (columns_of fs)) (sym (key_column_same t p f.column g.column h.0 h.1))
      ∙ ap (λ (b : Bool). is_key_column y t g.column && b) (columns_same t p fs gs h.3)

  item_columns_same : (t : List ℕ) → IsPlain t → (fs gs : List KeyItem) → KeysSame t fs gs → list_all (λ c. is_key_column x t c.column) fs ≡ list_all (λ c. is_key_column y t c.column) gs
  item_columns_same t p [] [] h = refl
  item_columns_same t p [] (g ∷ gs) h = absurd h
  item_columns_same t p (f ∷ fs) [] h = absurd h
  item_columns_same t p (f ∷ fs) (g ∷ gs) h =
      ap (λ (b : Bool). b && list_all (λ c. is_key_column x t c.column) fs) (sym (key_column_same t p f.column g.column h.0 h.1))
      ∙ ap (λ (b : Bool). is_key_column y t g.column && b) (item_columns_same t p fs gs h.4)

  meets_same : (f g : KeyItem) → g.contains ≡ f.contains → g.value ≡ f.value → (v : CellValue) → meets f v ≡ meets g v
  meets_same f g c e v = ap (λ (b : Bool). cond b (holds v f.value) (agrees v f.value)) (sym c) ∙ ap (λ (w : CellValue). cond g.contains (holds v w) (agrees v w)) (sym e)

  value_meets_same : (f g : KeyItem) → g.contains ≡ f.contains → g.value ≡ f.value → (v : CellValue) → value_meets f v ≡ value_meets g v
  value_meets_same f g c e value.Null = meets_same f g c e value.Null
  value_meets_same f g c e (value.Int n) = meets_same f g c e (value.Int n)
  value_meets_same f g c e (value.Bool b) = meets_same f g c e (value.Bool b)
  value_meets_same f g c e (value.Text t) = meets_same f g c e (value.Text t)
  value_meets_same f g c e (value.Date d) = meets_same f g c e (value.Date d)
  value_meets_same f g c e (value.Rec s) = meets_same f g c e (value.Rec s)
  value_meets_same f g c e (value.RecSet s) = meets_same f g c e (value.RecSet s)
  value_meets_same f g c e (value.List is) = meets_same f g c e (value.List is)
  value_meets_same f g c e (value.Err h) = refl
  value_meets_same f g c e value.Censored = meets_same f g c e value.Censored

  told_meets_same : (f g : KeyItem) → g.contains ≡ f.contains → g.value ≡ f.value → (i : Option ColType) (o : Told) → told_meets f i o ≡ told_meets g i o
  told_meets_same f g c e None o = refl
  told_meets_same f g c e (Some u) (known w) = value_meets_same f g c e (as_read u w)
  told_meets_same f g c e (Some u) no_table = refl
  told_meets_same f g c e (Some u) no_column = refl
  told_meets_same f g c e (Some u) no_row = refl
  told_meets_same f g c e (Some u) needed = refl

  met_by_same : (f g : KeyItem) → g.contains ≡ f.contains → g.value ≡ f.value → (i : Option ColType) (o p : Out Told) → SameOut o p → SameOut (met_by f i o) (met_by g i p)
  met_by_same f g c e i (gives o) (gives p) h = told_meets_same f g c e i o ∙ ap (told_meets g i) h
  met_by_same f g c e i (gives o) (raises q) h = absurd h
  met_by_same f g c e i (gives o) (stops q) h = absurd h
  met_by_same f g c e i (raises o) (gives p) h = absurd h
  met_by_same f g c e i (raises o) (raises q) h = h
  met_by_same f g c e i (raises o) (stops q) h = absurd h
  met_by_same f g c e i (stops o) (gives p) h = absurd h
  met_by_same f g c e i (stops o) (raises q) h = absurd h
  met_by_same f g c e i (stops o) (stops q) h = tt

  key_same : (t : List ℕ) → IsPlain t → (row : ℕ) (f g : KeyItem) → IsKept m t f.column → moved m t f.column ≡ g.column → g.contains ≡ f.contains → g.value ≡ f.value → SameOut (key_met x t row f) (key_met y t row g)
  key_same t p row f g kept is c e =
      subst (λ (b : Bool). SameOut (cond (is_id f.column) (gives (meets f (value.Int (pos row)))) (old_met f)) (cond b (gives (meets g (value.Int (pos row)))) (new_met g))) (sym (id_of t f.column g.column is))
      (elim (is_id f.column) as (λ (b : Bool). SameOut (cond b (gives (meets f (value.Int (pos row)))) (old_met f)) (cond b (gives (meets g (value.Int (pos row)))) (new_met g))) [
        | true ↦ meets_same f g c e (value.Int (pos row))
        | false ↦ subst (λ (w : List ℕ). SameOut (old_met f) (met_by g (y.kind t w) (told_out (cell_at t w row) (y.cell (cell_at t w row))))) is
            (subst (λ (i : Option ColType). SameOut (old_met f) (met_by g i (told_out (cell_at t (moved m t f.column) row) (y.cell (cell_at t (moved m t f.column) row))))) (sym (same.kind t f.column p kept))
            (met_by_same f g c e (x.kind t f.column) (told_out (cell_at t f.column row) (x.cell (cell_at t f.column row))) (told_out (cell_at t (moved m t f.column) row) (y.cell (cell_at t (moved m t f.column) row)))
            (subst (λ (o : Told). SameOut (told_out (cell_at t f.column row) (x.cell (cell_at t f.column row))) (told_out (cell_at t (moved m t f.column) row) o)) (sym (same.cell t f.column row p kept)) (told_same (cell_at t f.column row) (cell_at t (moved m t f.column) row) (x.cell (cell_at t f.column row))))))
      ])
    where
      old_met : KeyItem → Out Bool
      old_met h = met_by h (x.kind t h.column) (told_out (cell_at t h.column row) (x.cell (cell_at t h.column row)))

      new_met : KeyItem → Out Bool
      new_met h = met_by h (y.kind t h.column) (told_out (cell_at t h.column row) (y.cell (cell_at t h.column row)))

  row_same : (t : List ℕ) → IsPlain t → (row : ℕ) (fs gs : List KeyItem) → KeysSame t fs gs → SameOut (row_met x t row fs) (row_met y t row gs)
  row_same t p row [] [] h = refl
  row_same t p row [] (g ∷ gs) h = absurd h
  row_same t p row (f ∷ fs) [] h = absurd h
  row_same t p row (f ∷ fs) (g ∷ gs) h = both_same ◌&&◌ (key_met x t row f) (key_met y t row g) (row_met x t row fs) (row_met y t row gs) (key_same t p row f g h.0 h.1 h.2 h.3) (row_same t p row fs gs h.4)

  scan_same : (t : List ℕ) → IsPlain t → (fs gs : List KeyItem) (rows : List ℕ) → KeysSame t fs gs → SameOut (scan x t fs rows) (scan y t gs rows)
  scan_same t p fs gs [] h = refl
  scan_same t p fs gs (row ∷ rows) h = both_same (kept_row row) (row_met x t row fs) (row_met y t row gs) (scan x t fs rows) (scan y t gs rows) (row_same t p row fs gs h) (scan_same t p fs gs rows h)

  matched_in_same : (t : List ℕ) → IsPlain t → (fs gs : List KeyItem) (o : Option (List ℕ)) → KeysSame t fs gs → SameOut (matched_in x t fs o) (matched_in y t gs o)
  matched_in_same t p fs gs None h = refl
  matched_in_same t p fs gs (Some rows) h =
      subst (λ (b : Bool). SameOut (cond (list_all (λ c. is_key_column x t c.column) fs) (scan x t fs rows) (raises err.Key)) (cond b (scan y t gs rows) (raises err.Key))) (item_columns_same t p fs gs h)
      (elim (list_all (λ (c : KeyItem). is_key_column x t c.column) fs) as (λ (b : Bool). SameOut (cond b (scan x t fs rows) (raises err.Key)) (cond b (scan y t gs rows) (raises err.Key))) [ true ↦ scan_same t p fs gs rows h | false ↦ refl ])

  matched_same : (t : List ℕ) → IsPlain t → (fs gs : List KeyItem) → KeysSame t fs gs → SameOut (matched x t fs) (matched y t gs)
  matched_same t p fs gs h = subst (λ (o : Option (List ℕ)). SameOut (matched_in x t fs (x.rows t)) (matched_in y t gs o)) (sym (same.rows t p)) (matched_in_same t p fs gs (x.rows t) h)

  opened_same : (t : List ℕ) → IsPlain t → (fs gs : List KeyForm) → FormsSame t fs gs → SameOut (opened x t (columns_of fs)).out (opened y t (columns_of gs)).out
  opened_same t p fs gs h =
      seq_same (done (in_table (x.rows t))) (done (in_table (y.rows t))) _ _
      (same_by (in_table (x.rows t)) (in_table (y.rows t)) (ap in_table (sym (same.rows t p))))
      (λ rows e. same_by (with_columns x t (columns_of fs)) (with_columns y t (columns_of gs)) (ap (λ (b : Bool). cond b (gives true) (raises err.Key)) (columns_same t p fs gs h)))

  looked_same : (t : List ℕ) → IsPlain t → (fs gs : List KeyForm) (l n : List (Run CellValue)) → FormsSame t fs gs → AllSame l n → SameOut (looked_up x t fs l).out (looked_up y t gs n).out
  looked_same t p fs gs l n h i =
      seq_same (opened x t (columns_of fs)) (opened y t (columns_of gs)) _ _ (opened_same t p fs gs h)
      (λ b e. seq_same (collect l) (collect n) _ _ (collect_same l n i) (λ vs e. matched_same t p (keyed fs vs) (keyed gs vs) (keyed_same t fs gs vs h)))

  forms_same : (own t : List ℕ) (ks : Keys) → KeysFit m r k own t ks → FormsSame t (forms_of ks) (forms_of (keys_renamed r (r.table t) ks))
  forms_same own t no_keys h = tt
  forms_same own t (one_key n a ks) h = (h.0, h.1, containing_same r a, forms_same own t ks h.3)

  module _ (at : RowRef) (plain : IsPlain at.table) where
    mutual
      ev_same : (t : Tree) → NamesPlain t → AllFit m r k at.table t → SameOut (ev x at t).out (ev y at (renamed r t)).out
      ev_same (number n) i h = same_refl (ev x at (number n)).out
      ev_same (text s) i h = refl
      ev_same (constant c) i h = refl
      ev_same (dollar n) i h = attribute_same (only at.table) n (named r r.own n) (value.Rec at) h (plain, is_itself at.table)
      ev_same (binary o a b) i h = combined_same o (ev x at a) (ev y at (renamed r a)) (ev x at b) (ev y at (renamed r b)) (ev_same a i.0 h.0) (ev_same b i.1 h.1)
      ev_same (prefix o a) i h = then_same (ev x at a) (ev y at (renamed r a)) (λ v. done (prefixed o v)) (ev_same a i h)
      ev_same (conditional a c b) i h = chosen_same (ev x at c) (ev y at (renamed r c)) (ev x at a) (ev y at (renamed r a)) (ev x at b) (ev y at (renamed r b)) (ev_same c i.1 h.1) (ev_same a i.0 h.0) (ev_same b i.2 h.2)
      ev_same (parentheses a) i h = ev_same a i h
      ev_same (list ts) i h = listed_same (ev_each x at ts) (ev_each y at (all_renamed r ts)) (each_same ts i h)
      ev_same (call n ts) i h =
          subst (λ (c : ℕ). SameOut (called (function_of n) (count_of ts) (ev_each x at ts)).out (called (function_of n) c (ev_each y at (all_renamed r ts))).out) (sym (count_same r ts))
          (called_same n (count_of ts) (ev_each x at ts) (ev_each y at (all_renamed r ts)) (each_same ts i h))
      ev_same (attribute a n) i h =
          seq_same (ev x at a) (ev y at (renamed r a)) _ _ (ev_same a i h.0)
          (λ v e. attribute_same (recs k at.table a) n (named r (r.attribute a) n) v h.1 (records_held k x at a v typed plain i e))
      ev_same (every t) i h =
          seq_same (done (in_table (x.rows t))) (done (in_table (y.rows t))) _ _
          (same_by (in_table (x.rows t)) (in_table (y.rows t)) (ap in_table (sym (same.rows t i)))) (λ rs e. refl)
      ev_same (lookup l t ks) i h =
          seq_same (looked_up x t (forms_of ks) (ev_keys x at ks)) (looked_up y t (forms_of (keys_renamed r (r.table t) ks)) (ev_keys y at (keys_renamed r (r.table t) ks))) _ _
          (looked_same t i.0 (forms_of ks) (forms_of (keys_renamed r (r.table t) ks)) (ev_keys x at ks) (ev_keys y at (keys_renamed r (r.table t) ks)) (forms_same at.table t ks h) (keys_same t ks i.1 h)) (λ rs e. refl)
      ev_same (atom a) i h = refl

      each_same : (ts : Trees) → AllNamePlain ts → EachFits m r k at.table ts → AllSame (ev_each x at ts) (ev_each y at (all_renamed r ts))
      each_same no_trees i h = tt
      each_same (one_more t ts) i h = (ev_same t i.0 h.0, each_same ts i.1 h.1)

      keys_same : (t : List ℕ) (ks : Keys) → KeysNamePlain ks → KeysFit m r k at.table t ks → AllSame (ev_keys x at ks) (ev_keys y at (keys_renamed r (r.table t) ks))
      keys_same t no_keys i h = tt
      keys_same t (one_key n a ks) i h = (
        subst (λ (c : Bool). SameOut (cond (is_containing a) (argument (ev_arguments x at a) 0) (ev x at a)).out (cond c (argument (ev_arguments y at (renamed r a)) 0) (ev y at (renamed r a))).out) (sym (containing_same r a))
            (elim (is_containing a) as (λ (c : Bool). SameOut (cond c (argument (ev_arguments x at a) 0) (ev x at a)).out (cond c (argument (ev_arguments y at (renamed r a)) 0) (ev y at (renamed r a))).out) [
              | true ↦ argument_same (ev_arguments x at a) (ev_arguments y at (renamed r a)) 0 (arguments_same a i.0 h.2)
              | false ↦ ev_same a i.0 h.2
            ]),
        keys_same t ks i.1 h.3,
      )

      arguments_same : (t : Tree) → NamesPlain t → AllFit m r k at.table t → AllSame (ev_arguments x at t) (ev_arguments y at (renamed r t))
      arguments_same (number n) i h = tt
      arguments_same (text s) i h = tt
      arguments_same (constant c) i h = tt
      arguments_same (dollar n) i h = tt
      arguments_same (binary o a b) i h = tt
      arguments_same (prefix o a) i h = tt
      arguments_same (conditional a c b) i h = tt
      arguments_same (parentheses a) i h = tt
      arguments_same (list ts) i h = tt
      arguments_same (call n ts) i h = each_same ts i h
      arguments_same (attribute a n) i h = tt
      arguments_same (every t) i h = tt
      arguments_same (lookup l t ks) i h = tt
      arguments_same (atom a) i h = tt

pub same_ev : SameEvLaw
same_ev m r k x y at t typed same p i h = ev_same m r k x y typed same at p t i h
