-- What formulas give holds only records of the tables that their trees say.
use Rattle.std.proofs.Common.{◌≡◌, ◌∙◌, ap, arith, refl, subst, sym, ℕ, ℤ, suc, pos, Bool, true, false, cond, ◌++◌, List, [], ◌∷◌, Option, Some, None, Result, Ok, Err, map, length}
use Rattle.std.proofs.lemmas.Bool.{eqb-true, leb-true}
use Rattle.std.specs.Bool.{⊤}
use Rattle.std.specs.List.{AllByRecursion}
use Rattle.std.specs.Prelude.{nat_abs, nat_le, ◌+ℤ◌, ◌-ℤ◌, ◌*ℤ◌, ◌+◌, ◌≤◌, ◌==◌, ◌&&◌, codes, bytes_eq}
use Rattle.std.specs.Str.{chars}
use Rattle.cell_types.specs.ValueText.{text_within_bound}
use Rattle.value_ops.specs.Division.{floored_quotient, floored_remainder}
use Rattle.cell_types.specs.declared.cell.CellId.{CellId}
use Rattle.cell_types.specs.declared.column_type.ColType.{ColType}
use Rattle.cell_types.specs.declared.column_type.ColType.TheVariants as ty
use Rattle.cell_types.specs.declared.value.CellItem.{CellItem}
use Rattle.cell_types.specs.declared.value.CellValue.{CellValue}
use Rattle.cell_types.specs.declared.value.CellValue.TheVariants as value
use Rattle.cell_types.specs.declared.value.ErrKind.{ErrKind}
use Rattle.cell_types.specs.declared.value.ErrKind.TheVariants as err
use Rattle.cell_types.specs.declared.value.RowRef.{RowRef}
use Rattle.cell_types.specs.Conversion.{default_value}
use Rattle.cell_types.specs.TextBound.{text_bound}
use Rattle.std.specs.Ordering.{int_eq}
use Rattle.cell_types.specs.Decimal.{fits_64_bits}
use Rattle.cell_types.specs.Reference.{row_items, row_number}
use Rattle.formula_parse.specs.declared.operator.BinaryOp.{BinaryOp}
use Rattle.formula_parse.specs.declared.operator.BinaryOp.TheVariants as op
use Rattle.formula_parse.specs.declared.operator.Constant.{Constant}
use Rattle.formula_parse.specs.declared.operator.Constant.TheVariants as con
use Rattle.formula_parse.specs.declared.operator.LookupKind.{LookupKind}
use Rattle.formula_parse.specs.declared.operator.LookupKind.TheVariants as look
use Rattle.formula_parse.specs.declared.operator.PrefixOp.{PrefixOp}
use Rattle.formula_parse.specs.declared.operator.PrefixOp.TheVariants as pre
use Rattle.formula_parse.specs.Lexemes.{is_id}
use Rattle.formula_parse.specs.Tree.{Tree, number, text, constant, dollar, binary, prefix, conditional, parentheses, list, call, attribute, every, lookup, atom, Trees, no_trees, one_more}
use Rattle.value_ops.specs.Containment.{contains_of}
use Rattle.value_ops.specs.Joined.{bounded_list, bounded_text, sum_of}
use Rattle.value_ops.specs.Numbers.{divided, difference_of, in_64_bits, negation_of, number_of, on_numbers, product_of, quotient_of, remainder_of}
use Rattle.value_ops.specs.Order.{less_of}
use Rattle.value_ops.specs.Truth.{truth_of}
use Rattle.formula_eval.specs.declared.note.Note.{Note}
use Rattle.formula_eval.specs.Attribute.{as_item, attribute_of, column_runs, item_of, listed}
use Rattle.formula_eval.specs.Call.{argument, called}
use Rattle.formula_eval.specs.Eval.{count_of, ev, ev_each, ev_keys, forms_of}
use Rattle.formula_eval.specs.Function.{better, dates_in, extreme, extreme_of, first_of, folded, function_of, length_of, numbers_in, size_of, text_or_overflow, total_of}
use Rattle.formula_eval.specs.Lookup.{found, in_table, looked_up}
use Rattle.formula_eval.specs.Operator.{chosen, combined, constant_value, is_decided, operated, prefixed, tested, untested}
use Rattle.formula_eval.specs.Reader.{Reader, Told, known, no_table, no_column, no_row, needed, cell_at}
use Rattle.formula_eval.specs.Reading.{as_read, read_cell, record_or, records_or, rows_of_items, told_out, value_in}
use Rattle.formula_eval.specs.Run.{Out, Run, caught, collect, done, gives, onward, or_else, out_of, raises, seq, stops}
use Rattle.formula_records.specs.declared.tables.RecordTables.{RecordTables}
use Rattle.formula_records.specs.RecordTables.{none, only, union}
use Rattle.formula_records.specs.Recs.{Column, Columns, all_of, by_if, by_if_error, field, field_in, if_error_word, if_word, leads, read_by, recs, recs_each, stored, stored_by, called as called_recs, combined as combined_recs, constant_recs}
use Rattle.renamed_values.specs.HeldRecords.{IsPlain, ItemOf, RecordsOf}
use Rattle.renamed_values.specs.PlainNames.{AllNamePlain, IsPlainType, NamesPlain}
use Rattle.renamed_values.specs.RecordsLaw.{IsTyped, RecordsLaw}
use Rattle.renamed_values.proofs.RecordTableLemmas.{Within, in_field, in_left, in_none, in_right, is_itself, items_wider, wider}

-- what is given has the property
abbrev pub Gives : {A : Type 0} → (A → Type 0) → Out A → Type 0
Gives P (gives v) = P v
Gives P (raises e) = ⊤
Gives P (stops s) = ⊤

abbrev Whatever : {A : Type 0} → A → Type 0
Whatever v = ⊤

whatever : {A : Type 0} (o : Out A) → Gives Whatever o
whatever (gives v) = tt
whatever (raises e) = tt
whatever (stops s) = tt

module _ {A B : Type 0} where
  pub seq_gives : (P : A → Type 0) (Q : B → Type 0) (a : Run A) (k : A → Run B) → Gives P a.out → ((v : A) → P v → Gives Q (k v).out) → Gives Q (seq a k).out
  seq_gives P Q a k h each = onward_gives a.out h
    where
      onward_gives : (o : Out A) → Gives P o → Gives Q (onward o a.notes k).out
      onward_gives (gives v) g = each v g
      onward_gives (raises e) g = tt
      onward_gives (stops s) g = tt

pub gives_wider : (p q : RecordTables) → Within p q → (o : Out CellValue) → Gives (RecordsOf p) o → Gives (RecordsOf q) o
gives_wider p q w (gives v) h = wider p q w v h
gives_wider p q w (raises e) h = tt
gives_wider p q w (stops s) h = tt

-- ---- results of operators hold no records

abbrev IsBare : Result CellValue ErrKind → Type 0
IsBare (Ok v) = RecordsOf none v
IsBare (Err e) = ⊤

int_bare : (n : ℤ) → IsBare (in_64_bits n)
int_bare n = elim (fits_64_bits n) as (λ b. IsBare (cond b (Ok (value.Int n)) (Err err.Overflow))) [ true ↦ tt | false ↦ tt ]

numbers_bare : (f : ℤ → ℤ → Result CellValue ErrKind) → ((a b : ℤ) → IsBare (f a b)) → (o p : Option ℤ) → IsBare (on_numbers f o p)
numbers_bare f h None p = tt
numbers_bare f h (Some a) None = tt
numbers_bare f h (Some a) (Some b) = h a b

bare_out : (q : RecordTables) (r : Result CellValue ErrKind) → IsBare r → Gives (RecordsOf q) (out_of r)
bare_out q (Ok v) h = wider none q (in_none q) v h
bare_out q (Err e) h = tt

tested_gives : (q : RecordTables) (o : Out Bool) → Gives (RecordsOf q) (tested o)
tested_gives q (gives b) = tt
tested_gives q (raises e) = tt
tested_gives q (stops s) = tt

untested_gives : (q : RecordTables) (o : Out Bool) → Gives (RecordsOf q) (untested o)
untested_gives q (gives b) = tt
untested_gives q (raises e) = tt
untested_gives q (stops s) = tt

-- ---- cells that are read

items_of_none : (is : List CellItem) → AllByRecursion (ItemOf none) is → (q : RecordTables) → AllByRecursion (ItemOf q) is
items_of_none is h q = items_wider none q (in_none q) is h

record_holds : (t : List ℕ) → IsPlain t → (v : CellValue) (o : Option ℕ) → RecordsOf (only t) v → RecordsOf (only t) (record_or t v o)
record_holds t p v None h = h
record_holds t p v (Some r) h = (p, is_itself t)

records_hold : (t : List ℕ) → IsPlain t → (v : CellValue) (o : Option (List ℕ)) → RecordsOf (only t) v → RecordsOf (only t) (records_or t v o)
records_hold t p v None h = h
records_hold t p v (Some r) h = (p, is_itself t)

read_ref : (u : List ℕ) → IsPlain u → (v : CellValue) → RecordsOf none v → RecordsOf (only u) (as_read (ty.Ref u) v)
read_ref u p value.Null h = tt
read_ref u p (value.Int n) h = record_holds u p (value.Int n) (row_number n) tt
read_ref u p (value.Bool b) h = tt
read_ref u p (value.Text t) h = tt
read_ref u p (value.Date d) h = tt
read_ref u p (value.Rec r) h = absurd (cc)
read_ref u p (value.RecSet s) h = absurd (cc)
read_ref u p (value.List is) h = items_of_none is h (only u)
read_ref u p (value.Err e) h = tt
read_ref u p value.Censored h = tt

read_refs : (u : List ℕ) → IsPlain u → (v : CellValue) → RecordsOf none v → RecordsOf (only u) (as_read (ty.RefList u) v)
read_refs u p value.Null h = (p, is_itself u)
read_refs u p (value.Int n) h = tt
read_refs u p (value.Bool b) h = tt
read_refs u p (value.Text t) h = tt
read_refs u p (value.Date d) h = tt
read_refs u p (value.Rec r) h = absurd (cc)
read_refs u p (value.RecSet s) h = absurd (cc)
read_refs u p (value.List is) h = records_hold u p (value.List is) (rows_of_items is) (items_of_none is h (only u))
read_refs u p (value.Err e) h = tt
read_refs u p value.Censored h = tt

-- a stored value as it is read
read_holds : (k : ColType) → IsPlainType k → (f : Bool) (v : CellValue) → RecordsOf (stored_by k f) v → RecordsOf (read_by k f) (as_read k v)
read_holds ty.Any p f v h = h
read_holds ty.Text p f v h = h
read_holds ty.Int p f v h = h
read_holds ty.Bool p f v h = h
read_holds ty.Date p f v h = h
read_holds (ty.Ref u) p f v h = read_ref u p v h
read_holds (ty.RefList u) p f v h = read_refs u p v h

default_holds : (k : ColType) (q : RecordTables) → RecordsOf q (default_value k)
default_holds ty.Any q = tt
default_holds ty.Text q = tt
default_holds ty.Int q = tt
default_holds ty.Bool q = tt
default_holds ty.Date q = tt
default_holds (ty.Ref u) q = tt
default_holds (ty.RefList u) q = tt

-- what is told of a cell, in a column
abbrev IsToldOf : RecordTables → Told → Type 0
IsToldOf q (known v) = RecordsOf q v
IsToldOf q o = ⊤

told_gives : (q : RecordTables) (c : CellId) (o : Told) → IsToldOf q o → Gives (IsToldOf q) (told_out c o)
told_gives q c (known value.Null) h = tt
told_gives q c (known (value.Int n)) h = tt
told_gives q c (known (value.Bool b)) h = tt
told_gives q c (known (value.Text t)) h = tt
told_gives q c (known (value.Date d)) h = tt
told_gives q c (known (value.Rec r)) h = h
told_gives q c (known (value.RecSet s)) h = h
told_gives q c (known (value.List is)) h = h
told_gives q c (known (value.Err err.Circular)) h = tt
told_gives q c (known (value.Err err.ZeroDivision)) h = tt
told_gives q c (known (value.Err err.WrongType)) h = tt
told_gives q c (known (value.Err err.Attribute)) h = tt
told_gives q c (known (value.Err err.Key)) h = tt
told_gives q c (known (value.Err err.Name)) h = tt
told_gives q c (known (value.Err err.Overflow)) h = tt
told_gives q c (known (value.Err err.Syntax)) h = tt
told_gives q c (known value.Censored) h = tt
told_gives q c no_table h = tt
told_gives q c no_column h = tt
told_gives q c no_row h = tt
told_gives q c needed h = tt

known_gives : (k : ColType) → IsPlainType k → (f : Bool) (v : CellValue) → RecordsOf (stored_by k f) v → Gives (RecordsOf (read_by k f)) (value_in (Some k) (known v))
known_gives k p f value.Null h = read_holds k p f value.Null h
known_gives k p f (value.Int n) h = read_holds k p f (value.Int n) h
known_gives k p f (value.Bool b) h = read_holds k p f (value.Bool b) h
known_gives k p f (value.Text t) h = read_holds k p f (value.Text t) h
known_gives k p f (value.Date d) h = read_holds k p f (value.Date d) h
known_gives k p f (value.Rec r) h = read_holds k p f (value.Rec r) h
known_gives k p f (value.RecSet s) h = read_holds k p f (value.RecSet s) h
known_gives k p f (value.List is) h = read_holds k p f (value.List is) h
known_gives k p f (value.Err e) h = tt
known_gives k p f value.Censored h = read_holds k p f value.Censored h

in_column : (k : ColType) → IsPlainType k → (f : Bool) (o : Told) → IsToldOf (stored_by k f) o → Gives (RecordsOf (read_by k f)) (value_in (Some k) o)
in_column k p f (known v) h = known_gives k p f v h
in_column k p f no_table h = tt
in_column k p f no_column h = tt
in_column k p f no_row h = read_holds k p f (default_value k) (default_holds k (stored_by k f))
in_column k p f needed h = tt

-- ---- lists

item_gives : (q : RecordTables) (v : CellValue) → RecordsOf q v → Gives (ItemOf q) (item_of v)
item_gives q value.Null h = tt
item_gives q (value.Int n) h = tt
item_gives q (value.Bool b) h = tt
item_gives q (value.Text t) h = tt
item_gives q (value.Date d) h = tt
item_gives q (value.Rec r) h = h
item_gives q (value.RecSet s) h = tt
item_gives q (value.List is) h = tt
item_gives q (value.Err e) h = tt
item_gives q value.Censored h = tt

abbrev AllGive : RecordTables → List (Run CellValue) → Type 0
AllGive q [] = ⊤
AllGive q (a ∷ l) = Gives (RecordsOf q) a.out × AllGive q l

items_give : (q : RecordTables) (l : List (Run CellValue)) → AllGive q l → Gives (AllByRecursion (ItemOf q)) (collect (map as_item l)).out
items_give q [] h = tt
items_give q (a ∷ l) h =
    seq_gives (ItemOf q) (AllByRecursion (ItemOf q)) (as_item a) _ (seq_gives (RecordsOf q) (ItemOf q) a _ h.0 (λ v g. item_gives q v g))
    (λ i g. seq_gives (AllByRecursion (ItemOf q)) (AllByRecursion (ItemOf q)) (collect (map as_item l)) _ (items_give q l h.1) (λ is f. (g, f)))

bounded_gives : (q : RecordTables) (is : List CellItem) → AllByRecursion (ItemOf q) is → Gives (RecordsOf q) (out_of (bounded_list is))
bounded_gives q is h = elim (nat_le (length is) 1000000) as (λ b. Gives (RecordsOf q) (out_of (cond b (Ok (value.List is)) (Err err.Overflow)))) [ true ↦ h | false ↦ tt ]

listed_gives : (q : RecordTables) (l : List (Run CellValue)) → AllGive q l → Gives (RecordsOf q) (listed l).out
listed_gives q l h = seq_gives (AllByRecursion (ItemOf q)) (RecordsOf q) (collect (map as_item l)) _ (items_give q l h) (λ is g. bounded_gives q is g)

numbers_in_items : (q : RecordTables) (rows : List ℕ) → AllByRecursion (ItemOf q) (row_items rows)
numbers_in_items q [] = tt
numbers_in_items q (r ∷ rows) = (tt, numbers_in_items q rows)

-- ---- operators

join_items : (q : RecordTables) (is js : List CellItem) → AllByRecursion (ItemOf q) is → AllByRecursion (ItemOf q) js → AllByRecursion (ItemOf q) (is ++ js)
join_items q [] js h g = g
join_items q (i ∷ is) js h g = (h.0, join_items q is js h.1 g)

text_gives : (q : RecordTables) (t : List ℕ) → Gives (RecordsOf q) (out_of (bounded_text t))
text_gives q t = elim (nat_le (length t) text_bound) as (λ b. Gives (RecordsOf q) (out_of (cond b (Ok (value.Text t)) (Err err.Overflow)))) [ true ↦ tt | false ↦ tt ]

module _ (q : RecordTables) where
  added : (o p : Option ℤ) → Gives (RecordsOf q) (out_of (on_numbers (λ a b. in_64_bits (a +ℤ b)) o p))
  added o p = bare_out q (on_numbers (λ a b. in_64_bits (a +ℤ b)) o p) (numbers_bare (λ a b. in_64_bits (a +ℤ b)) (λ a b. int_bare (a +ℤ b)) o p)

  sum_text : (t : List ℕ) (w : CellValue) → Gives (RecordsOf q) (out_of (sum_of (value.Text t) w))
  sum_text t value.Null = added None None
  sum_text t (value.Int n) = tt
  sum_text t (value.Bool b) = tt
  sum_text t (value.Text u) = text_gives q (t ++ u)
  sum_text t (value.Date d) = tt
  sum_text t (value.Rec r) = tt
  sum_text t (value.RecSet s) = tt
  sum_text t (value.List is) = tt
  sum_text t (value.Err e) = tt
  sum_text t value.Censored = tt

  sum_list : (is : List CellItem) (w : CellValue) → AllByRecursion (ItemOf q) is → RecordsOf q w → Gives (RecordsOf q) (out_of (sum_of (value.List is) w))
  sum_list is value.Null h g = tt
  sum_list is (value.Int n) h g = tt
  sum_list is (value.Bool b) h g = tt
  sum_list is (value.Text u) h g = tt
  sum_list is (value.Date d) h g = tt
  sum_list is (value.Rec r) h g = tt
  sum_list is (value.RecSet s) h g = tt
  sum_list is (value.List js) h g = bounded_gives q (is ++ js) (join_items q is js h g)
  sum_list is (value.Err e) h g = tt
  sum_list is value.Censored h g = tt

  sum_gives : (v w : CellValue) → RecordsOf q v → RecordsOf q w → Gives (RecordsOf q) (out_of (sum_of v w))
  sum_gives value.Null w h g = tt
  sum_gives (value.Int n) w h g = added (Some n) (number_of w)
  sum_gives (value.Bool b) w h g = added (number_of (value.Bool b)) (number_of w)
  sum_gives (value.Text t) w h g = sum_text t w
  sum_gives (value.Date d) w h g = tt
  sum_gives (value.Rec r) w h g = tt
  sum_gives (value.RecSet s) w h g = tt
  sum_gives (value.List is) w h g = sum_list is w h g
  sum_gives (value.Err e) w h g = tt
  sum_gives value.Censored w h g = tt

divided_bare : (part : ℤ → ℤ → ℤ) (a b : ℤ) → IsBare (divided part a b)
divided_bare part a b = elim (int_eq b (pos 0)) as (λ z. IsBare (cond z (Err err.ZeroDivision) (in_64_bits (part a b)))) [ true ↦ tt | false ↦ int_bare (part a b) ]

operated_gives : (p q : RecordTables) (o : BinaryOp) (v w : CellValue) → RecordsOf p v → RecordsOf q w → Gives (RecordsOf (combined_recs o p q)) (operated o v w)
operated_gives p q op.Or v w h g = wider q (union p q) (in_right p q) w g
operated_gives p q op.And v w h g = wider q (union p q) (in_right p q) w g
operated_gives p q op.Equal v w h g = tt
operated_gives p q op.NotEqual v w h g = tt
operated_gives p q op.Less v w h g = tested_gives none (out_of (less_of v w))
operated_gives p q op.AtMost v w h g = untested_gives none (out_of (less_of w v))
operated_gives p q op.More v w h g = tested_gives none (out_of (less_of w v))
operated_gives p q op.AtLeast v w h g = untested_gives none (out_of (less_of v w))
operated_gives p q op.In v w h g = tested_gives none (out_of (contains_of v w))
operated_gives p q op.NotIn v w h g = untested_gives none (out_of (contains_of v w))
operated_gives p q op.Is v w h g = tt
operated_gives p q op.IsNot v w h g = tt
operated_gives p q op.Add v w h g = sum_gives (union p q) v w (wider p (union p q) (in_left p q) v h) (wider q (union p q) (in_right p q) w g)
operated_gives p q op.Subtract v w h g = bare_out none (difference_of v w) (numbers_bare (λ a b. in_64_bits (a -ℤ b)) (λ a b. int_bare (a -ℤ b)) (number_of v) (number_of w))
operated_gives p q op.Multiply v w h g = bare_out none (product_of v w) (numbers_bare (λ a b. in_64_bits (a *ℤ b)) (λ a b. int_bare (a *ℤ b)) (number_of v) (number_of w))
operated_gives p q op.Divide v w h g = bare_out none (quotient_of v w) (numbers_bare (divided floored_quotient) (divided_bare floored_quotient) (number_of v) (number_of w))
operated_gives p q op.Remainder v w h g = bare_out none (remainder_of v w) (numbers_bare (divided floored_remainder) (divided_bare floored_remainder) (number_of v) (number_of w))

decided_gives : (p q : RecordTables) (o : BinaryOp) (v : CellValue) → is_decided o v ≡ true → RecordsOf p v → RecordsOf (combined_recs o p q) v
decided_gives p q op.Or v e h = wider p (union p q) (in_left p q) v h
decided_gives p q op.And v e h = wider p (union p q) (in_left p q) v h
decided_gives p q op.Equal v e h = absurd (cc)
decided_gives p q op.NotEqual v e h = absurd (cc)
decided_gives p q op.Less v e h = absurd (cc)
decided_gives p q op.AtMost v e h = absurd (cc)
decided_gives p q op.More v e h = absurd (cc)
decided_gives p q op.AtLeast v e h = absurd (cc)
decided_gives p q op.In v e h = absurd (cc)
decided_gives p q op.NotIn v e h = absurd (cc)
decided_gives p q op.Is v e h = absurd (cc)
decided_gives p q op.IsNot v e h = absurd (cc)
decided_gives p q op.Add v e h = absurd (cc)
decided_gives p q op.Subtract v e h = absurd (cc)
decided_gives p q op.Multiply v e h = absurd (cc)
decided_gives p q op.Divide v e h = absurd (cc)
decided_gives p q op.Remainder v e h = absurd (cc)

combined_gives : (p q : RecordTables) (o : BinaryOp) (a b : Run CellValue) → Gives (RecordsOf p) a.out → Gives (RecordsOf q) b.out → Gives (RecordsOf (combined_recs o p q)) (combined o a b).out
combined_gives p q o a b h g =
    seq_gives (RecordsOf p) (RecordsOf (combined_recs o p q)) a _ h (λ v f. by v f (is_decided o v) refl)
  where
    by : (v : CellValue) → RecordsOf p v → (c : Bool) → is_decided o v ≡ c → Gives (RecordsOf (combined_recs o p q)) (cond c (done (gives v)) (seq b (λ w. done (operated o v w)))).out
    by v f true e = decided_gives p q o v e f
    by v f false e = seq_gives (RecordsOf q) (RecordsOf (combined_recs o p q)) b _ g (λ w k. operated_gives p q o v w f k)

prefixed_gives : (o : PrefixOp) (v : CellValue) → Gives (RecordsOf none) (prefixed o v)
prefixed_gives pre.Not v = tt
prefixed_gives pre.Negate v = bare_out none (negation_of v) (numbers_bare (λ a b. in_64_bits (a -ℤ b)) (λ a b. int_bare (a -ℤ b)) (Some (pos 0)) (number_of v))

chosen_gives : (p q : RecordTables) (t a b : Run CellValue) → Gives (RecordsOf p) a.out → Gives (RecordsOf q) b.out → Gives (RecordsOf (union p q)) (chosen t a b).out
chosen_gives p q t a b h g =
    seq_gives Whatever (RecordsOf (union p q)) t _ (whatever t.out)
    (λ v _. elim (truth_of v) as (λ c. Gives (RecordsOf (union p q)) (cond c a b).out) [ true ↦ gives_wider p (union p q) (in_left p q) a.out h | false ↦ gives_wider q (union p q) (in_right p q) b.out g ])

-- ---- functions

length_bare : (v : CellValue) → IsBare (length_of v)
length_bare value.Null = tt
length_bare (value.Int n) = tt
length_bare (value.Bool b) = tt
length_bare (value.Text t) = int_bare (pos (length (chars t)))
length_bare (value.Date d) = tt
length_bare (value.Rec r) = tt
length_bare (value.RecSet s) = int_bare (pos (length s.rows))
length_bare (value.List is) = int_bare (pos (length is))
length_bare (value.Err e) = tt
length_bare value.Censored = tt

size_bare : (o : Option ℤ) → IsBare (size_of o)
size_bare None = tt
size_bare (Some n) = int_bare (pos (nat_abs n))

shown_bare : (o : Option (List ℕ)) → IsBare (text_or_overflow o)
shown_bare None = tt
shown_bare (Some t) = tt

extreme_bare : (n d : Option ℤ) → IsBare (extreme n d)
extreme_bare None None = tt
extreme_bare (Some n) None = tt
extreme_bare None (Some d) = tt
extreme_bare (Some n) (Some d) = tt

-- a function that evaluates all its arguments, and gives no records
bare_gives : (takes : Bool) (f : List CellValue → Result CellValue ErrKind) → ((vs : List CellValue) → IsBare (f vs)) → (l : List (Run CellValue))
    → Gives (RecordsOf none) (cond takes (seq (collect l) (λ vs. done (out_of (f vs)))) (done (raises err.WrongType))).out
bare_gives true f h l = seq_gives Whatever (RecordsOf none) (collect l) _ (whatever (collect l).out) (λ vs _. bare_out none (f vs) (h vs))
bare_gives false f h l = tt

-- each holds records of the tables beside it
abbrev EachGives : List RecordTables → List (Run CellValue) → Type 0
EachGives [] [] = ⊤
EachGives [] (a ∷ l) = ⊥
EachGives (q ∷ qs) [] = ⊥
EachGives (q ∷ qs) (a ∷ l) = Gives (RecordsOf q) a.out × EachGives qs l

caught_gives : (q : RecordTables) (o : Out CellValue) (l : List Note) (b : Run CellValue) → Gives (RecordsOf q) o → Gives (RecordsOf q) b.out → Gives (RecordsOf q) (caught o l b).out
caught_gives q (gives v) l b h g = h
caught_gives q (raises e) l b h g = g
caught_gives q (stops s) l b h g = tt

-- four and more are not three, and three and more are over two
not_three : (n : ℕ) → (suc (suc (suc (suc n))) == 3) ≡ false
not_three n = by (suc (suc (suc (suc n))) == 3) refl
  where
    by : (b : Bool) → (suc (suc (suc (suc n))) == 3) ≡ b → (suc (suc (suc (suc n))) == 3) ≡ false
    by true e = let same : suc (suc (suc (suc n))) ≡ 3 = eqb-true (suc (suc (suc (suc n)))) 3 e in absurd (let never : ⊥ = omega arith in never)
    by false e = e

never_three : (n : ℕ) → suc (suc (suc n)) ≤ 2 → ⊥
never_three n h = omega arith

over_two : (n : ℕ) → (nat_le 1 (suc (suc (suc n))) && nat_le (suc (suc (suc n))) 2) ≡ false
over_two n = by (nat_le 1 (suc (suc (suc n)))) (nat_le (suc (suc (suc n))) 2) refl
  where
    by : (a b : Bool) → nat_le (suc (suc (suc n))) 2 ≡ b → (a && b) ≡ false
    by a true e = absurd (never_three n (leb-true (suc (suc (suc n))) 2 e))
    by true false e = refl
    by false false e = refl

if_gives : (qs : List RecordTables) (l : List (Run CellValue)) → EachGives qs l
    → Gives (RecordsOf (by_if qs)) (cond (length l == 3) (chosen (argument l 0) (argument l 1) (argument l 2)) (done (raises err.WrongType))).out
if_gives [] [] h = tt
if_gives [] (a ∷ l) h = absurd h
if_gives (p ∷ qs) [] h = absurd h
if_gives (p ∷ []) (a ∷ []) h = tt
if_gives (p ∷ []) (a ∷ (b ∷ l)) h = absurd h.1
if_gives (p ∷ (q ∷ qs)) (a ∷ []) h = absurd h.1
if_gives (p ∷ (q ∷ [])) (a ∷ (b ∷ [])) h = tt
if_gives (p ∷ (q ∷ [])) (a ∷ (b ∷ (c ∷ l))) h = absurd h.1.1
if_gives (p ∷ (q ∷ (r ∷ qs))) (a ∷ (b ∷ [])) h = absurd h.1.1
if_gives (p ∷ (q ∷ (r ∷ []))) (a ∷ (b ∷ (c ∷ []))) h = chosen_gives q r a b c h.1.0 h.1.1.0
if_gives (p ∷ (q ∷ (r ∷ []))) (a ∷ (b ∷ (c ∷ (d ∷ l)))) h = absurd h.1.1.1
if_gives (p ∷ (q ∷ (r ∷ (s ∷ qs)))) (a ∷ (b ∷ (c ∷ []))) h = absurd h.1.1.1
if_gives (p ∷ (q ∷ (r ∷ (s ∷ qs)))) (a ∷ (b ∷ (c ∷ (d ∷ l)))) h =
    subst (λ (o : Bool). Gives (RecordsOf none) (cond o (chosen a b c) (done (raises err.WrongType))).out) (sym (not_three (length l))) tt

if_error_gives : (qs : List RecordTables) (l : List (Run CellValue)) → EachGives qs l
    → Gives (RecordsOf (by_if_error qs)) (cond (nat_le 1 (length l) && nat_le (length l) 2) (or_else (argument l 0) (argument l 1)) (done (raises err.WrongType))).out
if_error_gives [] [] h = tt
if_error_gives [] (a ∷ l) h = absurd h
if_error_gives (p ∷ qs) [] h = absurd h
if_error_gives (p ∷ []) (a ∷ []) h = caught_gives p a.out a.notes (done (gives (value.Text []))) h.0 tt
if_error_gives (p ∷ []) (a ∷ (b ∷ l)) h = absurd h.1
if_error_gives (p ∷ (q ∷ qs)) (a ∷ []) h = absurd h.1
if_error_gives (p ∷ (q ∷ [])) (a ∷ (b ∷ [])) h = caught_gives (union p q) a.out a.notes b (gives_wider p (union p q) (in_left p q) a.out h.0) (gives_wider q (union p q) (in_right p q) b.out h.1.0)
if_error_gives (p ∷ (q ∷ [])) (a ∷ (b ∷ (c ∷ l))) h = absurd h.1.1
if_error_gives (p ∷ (q ∷ (r ∷ qs))) (a ∷ (b ∷ [])) h = absurd h.1.1
if_error_gives (p ∷ (q ∷ (r ∷ qs))) (a ∷ (b ∷ (c ∷ l))) h =
    subst (λ (o : Bool). Gives (RecordsOf none) (cond o (or_else a b) (done (raises err.WrongType))).out) (sym (over_two (length l))) tt

-- by a choice, and what is chosen
pub by_choice : {A : Type 0} (b : Bool) (x y : A) (P : Bool → A → Type 0) → P true x → P false y → P b (cond b x y)
by_choice true x y P h g = h
by_choice false x y P h g = g

count_gives : (n : List ℕ) (qs : List RecordTables) (l : List (Run CellValue)) → EachGives qs l → Gives (RecordsOf (called_recs n qs)) (called (function_of n) (length l) l).out
unfolding function_of if_word if_error_word
count_gives n qs l h =
    by_choice (bytes_eq n (codes "IF")) _ _ (λ b o. Gives (RecordsOf (cond b (by_if qs) (cond (bytes_eq n (codes "IFERROR")) (by_if_error qs) none))) (called o (length l) l).out) (if_gives qs l h)
    (by_choice (bytes_eq n (codes "IFERROR")) _ _ (λ b o. Gives (RecordsOf (cond b (by_if_error qs) none)) (called o (length l) l).out) (if_error_gives qs l h)
    (by_choice (bytes_eq n (codes "SUM")) _ _ (λ b o. Gives (RecordsOf none) (called o (length l) l).out) (bare_gives (nat_le 1 (length l)) total_of (λ vs. int_bare (folded ◌+ℤ◌ (pos 0) (numbers_in vs))) l)
    (by_choice (bytes_eq n (codes "MIN")) _ _ (λ b o. Gives (RecordsOf none) (called o (length l) l).out) (bare_gives (nat_le 1 (length l)) (extreme_of false) (λ vs. extreme_bare (better false None (numbers_in vs)) (better false None (dates_in vs))) l)
    (by_choice (bytes_eq n (codes "MAX")) _ _ (λ b o. Gives (RecordsOf none) (called o (length l) l).out) (bare_gives (nat_le 1 (length l)) (extreme_of true) (λ vs. extreme_bare (better true None (numbers_in vs)) (better true None (dates_in vs))) l)
    (by_choice (bytes_eq n (codes "len")) _ _ (λ b o. Gives (RecordsOf none) (called o (length l) l).out) (bare_gives (length l == 1) (λ vs. length_of (first_of vs)) (λ vs. length_bare (first_of vs)) l)
    (by_choice (bytes_eq n (codes "abs")) _ _ (λ b o. Gives (RecordsOf none) (called o (length l) l).out) (bare_gives (length l == 1) (λ vs. size_of (number_of (first_of vs))) (λ vs. size_bare (number_of (first_of vs))) l)
    (by_choice (bytes_eq n (codes "str")) _ _ (λ b o. Gives (RecordsOf none) (called o (length l) l).out) (bare_gives (length l == 1) (λ vs. text_or_overflow (text_within_bound (first_of vs))) (λ vs. shown_bare (text_within_bound (first_of vs))) l)
    (by_choice (bytes_eq n (codes "bool")) _ _ (λ b o. Gives (RecordsOf none) (called o (length l) l).out) (bare_gives (length l == 1) (λ vs. Ok (value.Bool (truth_of (first_of vs)))) (λ vs. tt) l) tt))))))))

next_is : (n : ℕ) → suc n ≡ n + 1
next_is n = omega arith

length_each : (x : Reader) (at : RowRef) (ts : Trees) → length (ev_each x at ts) ≡ count_of ts
length_each x at no_trees = refl
length_each x at (one_more t ts) = next_is (length (ev_each x at ts)) ∙ ap (λ (n : ℕ). n + 1) (length_each x at ts)

called_gives : (n : List ℕ) (x : Reader) (at : RowRef) (ts : Trees) (qs : List RecordTables) → EachGives qs (ev_each x at ts) → Gives (RecordsOf (called_recs n qs)) (called (function_of n) (count_of ts) (ev_each x at ts)).out
called_gives n x at ts qs h = subst (λ (c : ℕ). Gives (RecordsOf (called_recs n qs)) (called (function_of n) c (ev_each x at ts)).out) (length_each x at ts) (count_gives n qs (ev_each x at ts) h)

within_trans : (p q r : RecordTables) → Within p q → Within q r → Within p r
within_trans p q r f g = λ t h. g t (f t h)

-- items of a list hold records of all their tables together
list_gives : (w : RecordTables) (qs : List RecordTables) (l : List (Run CellValue)) → Within (all_of qs) w → EachGives qs l → AllGive w l
list_gives w [] [] i h = tt
list_gives w [] (a ∷ l) i h = absurd h
list_gives w (q ∷ qs) [] i h = absurd h
list_gives w (q ∷ qs) (a ∷ l) i h = (
  gives_wider q w (within_trans q (union q (all_of qs)) w (in_left q (all_of qs)) i) a.out h.0,
  list_gives w qs l (within_trans (all_of qs) (union q (all_of qs)) w (in_right q (all_of qs)) i) h.1,
)

constant_gives : (at : RowRef) → IsPlain at.table → (c : Constant) → RecordsOf (constant_recs at.table c) (constant_value at c)
constant_gives at p con.True = tt
constant_gives at p con.False = tt
constant_gives at p con.None = tt
constant_gives at p con.Rec = (p, is_itself at.table)

found_gives : (k : LookupKind) (t rs : List ℕ) → IsPlain t → RecordsOf (only t) (found k t rs)
found_gives look.Records t rs p = (p, is_itself t)
found_gives look.One t rs p = (p, is_itself t)

-- ---- formulas

module _ (k : Columns) (x : Reader) (typed : IsTyped k x) where
  told_of : (c : CellId) → IsPlain c.table → (o : Told) → x.cell c ≡ o → IsToldOf (stored (k c.table c.column)) o
  told_of c p (known v) e = typed.cell c v p e
  told_of c p no_table e = tt
  told_of c p no_column e = tt
  told_of c p no_row e = tt
  told_of c p needed e = tt

  in_known : (c : CellId) → IsPlain c.table → (o : Told) → IsToldOf (stored (k c.table c.column)) o → (i : Option ColType) → x.kind c.table c.column ≡ i → Gives (RecordsOf (leads (k c.table c.column))) (value_in i o)
  in_known c p o h None e = tt
  in_known c p o h (Some u) e =
      let d = typed.kind c.table c.column u p e in
      by d.0 d.1 d.2 d.3
    where
      by : (d : Column) → k c.table c.column ≡ Some d → d.ty ≡ u → IsPlainType u → Gives (RecordsOf (leads (k c.table c.column))) (value_in (Some u) o)
      by d f g i =
          subst (λ (q : Option Column). Gives (RecordsOf (leads q)) (value_in (Some u) o)) (sym f)
          (subst (λ (w : ColType). Gives (RecordsOf (read_by d.ty d.is_formula)) (value_in (Some w) o)) g
          (in_column d.ty (subst IsPlainType (sym g) i) d.is_formula o (subst (λ (q : Option Column). IsToldOf (stored q) o) f h)))

  read_gives : (c : CellId) → IsPlain c.table → Gives (RecordsOf (leads (k c.table c.column))) (read_cell x c).out
  read_gives c p =
      seq_gives (IsToldOf (stored (k c.table c.column))) (RecordsOf (leads (k c.table c.column))) (done (told_out c (x.cell c))) _
      (told_gives (stored (k c.table c.column)) c (x.cell c) (told_of c p (x.cell c) refl))
      (λ o h. in_known c p o h (x.kind c.table c.column) refl)

  column_gives : (t n : List ℕ) → IsPlain t → (rows : List ℕ) (q : RecordTables) → Within (leads (k t n)) q → AllGive q (column_runs x t n rows)
  column_gives t n p [] q w = tt
  column_gives t n p (r ∷ rows) q w = (gives_wider (leads (k t n)) q w (read_cell x (cell_at t n r)).out (read_gives (cell_at t n r) p), column_gives t n p rows q w)

  attribute_gives : (q : RecordTables) (n : List ℕ) (v : CellValue) → RecordsOf q v → Gives (RecordsOf (field k q n)) (attribute_of x n v).out
  attribute_gives q n value.Null h = tt
  attribute_gives q n (value.Int m) h = tt
  attribute_gives q n (value.Bool b) h = tt
  attribute_gives q n (value.Text t) h = tt
  attribute_gives q n (value.Date d) h = tt
  attribute_gives q n (value.Rec r) h =
      elim (is_id n) as (λ b. Gives (RecordsOf (cond b none (field_in k q n))) (cond b (done (gives (value.Int (pos r.row)))) (read_cell x (cell_at r.table n r.row))).out) [
        | true ↦ tt
        | false ↦ gives_wider (leads (k r.table n)) (field_in k q n) (in_field k q r.table n h.1) (read_cell x (cell_at r.table n r.row)).out (read_gives (cell_at r.table n r.row) h.0)
      ]
  attribute_gives q n (value.RecSet s) h =
      elim (is_id n) as (λ b. Gives (RecordsOf (cond b none (field_in k q n))) (cond b (done (out_of (bounded_list (row_items s.rows)))) (listed (column_runs x s.table n s.rows))).out) [
        | true ↦ bounded_gives none (row_items s.rows) (numbers_in_items none s.rows)
        | false ↦ listed_gives (field_in k q n) (column_runs x s.table n s.rows) (column_gives s.table n h.0 s.rows (field_in k q n) (in_field k q s.table n h.1))
      ]
  attribute_gives q n (value.List is) h = tt
  attribute_gives q n (value.Err e) h = tt
  attribute_gives q n value.Censored h = tt

  module _ (at : RowRef) (p : IsPlain at.table) where
    mutual
      pub formula_gives : (t : Tree) → NamesPlain t → Gives (RecordsOf (recs k at.table t)) (ev x at t).out
      formula_gives (number n) i = bare_out none (in_64_bits (pos n)) (int_bare (pos n))
      formula_gives (text s) i = tt
      formula_gives (constant c) i = constant_gives at p c
      formula_gives (dollar n) i = attribute_gives (only at.table) n (value.Rec at) (p, is_itself at.table)
      formula_gives (binary o a b) i = combined_gives (recs k at.table a) (recs k at.table b) o (ev x at a) (ev x at b) (formula_gives a i.0) (formula_gives b i.1)
      formula_gives (prefix o a) i = seq_gives Whatever (RecordsOf none) (ev x at a) _ (whatever (ev x at a).out) (λ v _. prefixed_gives o v)
      formula_gives (conditional a c b) i = chosen_gives (recs k at.table a) (recs k at.table b) (ev x at c) (ev x at a) (ev x at b) (formula_gives a i.0) (formula_gives b i.2)
      formula_gives (parentheses a) i = formula_gives a i
      formula_gives (list ts) i = listed_gives (all_of (recs_each k at.table ts)) (ev_each x at ts) (list_gives (all_of (recs_each k at.table ts)) (recs_each k at.table ts) (ev_each x at ts) (λ t h. h) (each_gives ts i))
      formula_gives (call n ts) i = called_gives n x at ts (recs_each k at.table ts) (each_gives ts i)
      formula_gives (attribute a n) i = seq_gives (RecordsOf (recs k at.table a)) (RecordsOf (field k (recs k at.table a) n)) (ev x at a) _ (formula_gives a i) (λ v h. attribute_gives (recs k at.table a) n v h)
      formula_gives (every t) i = seq_gives Whatever (RecordsOf (only t)) (done (in_table (x.rows t))) _ (whatever (in_table (x.rows t))) (λ rs _. (i, is_itself t))
      formula_gives (lookup l t ks) i = seq_gives Whatever (RecordsOf (only t)) (looked_up x t (forms_of ks) (ev_keys x at ks)) _ (whatever (looked_up x t (forms_of ks) (ev_keys x at ks)).out) (λ rs _. found_gives l t rs i.0)
      formula_gives (atom a) i = tt

      each_gives : (ts : Trees) → AllNamePlain ts → EachGives (recs_each k at.table ts) (ev_each x at ts)
      each_gives no_trees i = tt
      each_gives (one_more t ts) i = (formula_gives t i.0, each_gives ts i.1)

pub records_held : RecordsLaw
records_held k x at t v typed p i e = subst (Gives (RecordsOf (recs k at.table t))) e (formula_gives k x typed at p t i)
