-- What the evaluator never gives or raises: an error is no value, and no error is the circular one.
use Rattle.std.proofs.Common.{ℕ, ℤ, ◌+ℤ◌, nat_abs, zero, suc, pos, Bool, true, false, ◌&&◌, cond, List, [], ◌∷◌, Option, Some, None, Result, Ok, Err, map, length}
use Rattle.std.specs.List.{list_all}
use Rattle.cell_types.specs.declared.cell.CellId.{CellId}
use Rattle.cell_types.specs.declared.cell.KeyItem.{KeyItem}
use Rattle.formula_eval.specs.declared.note.Note.{Note}
use Rattle.cell_types.specs.declared.column_type.ColType.{ColType}
use Rattle.cell_types.specs.declared.value.CellValue.{CellValue}
use Rattle.cell_types.specs.declared.value.CellValue.TheVariants as value
use Rattle.cell_types.specs.declared.value.ErrKind.{ErrKind}
use Rattle.cell_types.specs.declared.value.ErrKind.TheVariants as err
use Rattle.cell_types.specs.declared.value.RowRef.{RowRef}
use Rattle.cell_types.specs.Reference.{row_items}
use Rattle.formula_parse.specs.declared.operator.BinaryOp.{BinaryOp}
use Rattle.formula_parse.specs.declared.operator.BinaryOp.TheVariants as op
use Rattle.formula_parse.specs.declared.operator.PrefixOp.{PrefixOp}
use Rattle.formula_parse.specs.declared.operator.PrefixOp.TheVariants as pre
use Rattle.formula_parse.specs.Lexemes.{is_id}
use Rattle.formula_parse.specs.Tree.{Tree, number, text, constant, dollar, binary, prefix, conditional, parentheses, list, call, attribute, every, lookup, atom, Trees, no_trees, one_more, Keys, no_keys, one_key}
use Rattle.value_ops.specs.Containment.{contains_of}
use Rattle.value_ops.specs.Joined.{bounded_list, sum_of}
use Rattle.value_ops.specs.Numbers.{in_64_bits, difference_of, product_of, quotient_of, remainder_of, negation_of}
use Rattle.value_ops.specs.Order.{less_of}
use Rattle.value_ops.specs.Truth.{truth_of}
use Rattle.formula_eval.specs.declared.function.Function.{Function}
use Rattle.formula_eval.specs.declared.function.Function.TheVariants as fn
use Rattle.formula_eval.specs.Reader.{Told, known, no_table, no_column, no_row, needed, Reader, cell_at}
use Rattle.formula_eval.specs.Run.{circular, need, Out, gives, raises, stops, Run, out_of, done, onward, seq, caught, collect, both}
use Rattle.formula_eval.specs.Reading.{told_out, value_in, read_cell}
use Rattle.formula_eval.specs.Attribute.{item_of, as_item, listed, column_runs, attribute_of}
use Rattle.formula_eval.specs.Operator.{tested, untested, is_decided, operated, combined, prefixed, chosen, constant_value}
use Rattle.formula_eval.specs.Function.{function_of, applied, folded}
use Rattle.std.specs.Str.{chars}
use Rattle.formula_eval.specs.Call.{takes, argument, run_function, called}
use Rattle.formula_eval.specs.Lookup.{meets, met_by, key_met, row_met, kept_row, scan, in_table, is_key_column, with_columns, KeyForm, columns_of, keyed, matched_in, opened, looked_up, found, all_rows}
use Rattle.formula_eval.specs.Eval.{is_containing, count_of, forms_of, ev, ev_each, ev_keys, ev_arguments, is_too_long, as_result, evaluated}
use Rattle.cell_types.specs.Conversion.{default_value}
use Rattle.cell_types.specs.Reference.{row_number}
use Rattle.cell_types.specs.ValueText.{text_within_bound}
use Rattle.cell_types.specs.declared.column_type.ColType.TheVariants as ty
use Rattle.value_ops.specs.Numbers.{number_of}
use Rattle.formula_parse.specs.declared.operator.Constant.{Constant}
use Rattle.formula_parse.specs.declared.operator.Constant.TheVariants as con
use Rattle.formula_parse.specs.declared.operator.LookupKind.{LookupKind}
use Rattle.formula_parse.specs.declared.operator.LookupKind.TheVariants as look
use Rattle.formula_eval.specs.Reading.{as_read, record_or, records_or, rows_of_items}
use Rattle.formula_eval.specs.Function.{length_of, size_of, text_or_overflow, extreme, better, numbers_in, dates_in, first_of}
use Rattle.value_ops.specs.Raising.{IsValue, IsFine, IsFineTest}
use Rattle.value_ops.proofs.RaisingLemmas.{int_fine, list_fine, operators_fine}
use Rattle.formula_eval.specs.Obeys.{IsToldValue, Obeys, IsAny}

length_fine : (v : CellValue) → IsFine (length_of v)
length_fine value.Null = tt
length_fine (value.Int n) = tt
length_fine (value.Bool b) = tt
length_fine (value.Text t) = int_fine (pos (length (chars t)))
length_fine (value.Date d) = tt
length_fine (value.Rec r) = tt
length_fine (value.RecSet s) = int_fine (pos (length s.rows))
length_fine (value.List is) = int_fine (pos (length is))
length_fine (value.Err e) = tt
length_fine value.Censored = tt

size_fine : (o : Option ℤ) → IsFine (size_of o)
size_fine None = tt
size_fine (Some n) = int_fine (pos (nat_abs n))

shown_fine : (o : Option (List ℕ)) → IsFine (text_or_overflow o)
shown_fine None = tt
shown_fine (Some t) = tt

extreme_fine : (n d : Option ℤ) → IsFine (extreme n d)
extreme_fine None None = tt
extreme_fine (Some n) None = tt
extreme_fine None (Some d) = tt
extreme_fine (Some n) (Some d) = tt

applied_fine : (f : Function) (vs : List CellValue) → IsFine (applied f vs)
applied_fine fn.If vs = tt
applied_fine fn.IfError vs = tt
applied_fine fn.Sum vs = int_fine (folded ◌+ℤ◌ (pos 0) (numbers_in vs))
applied_fine fn.Min vs = extreme_fine (better false None (numbers_in vs)) (better false None (dates_in vs))
applied_fine fn.Max vs = extreme_fine (better true None (numbers_in vs)) (better true None (dates_in vs))
applied_fine fn.Len vs = length_fine (first_of vs)
applied_fine fn.Abs vs = size_fine (number_of (first_of vs))
applied_fine fn.Str vs = shown_fine (text_within_bound (first_of vs))
applied_fine fn.Bool vs = tt

module _ {A B : Type 0} where
  seq_obeys : (P : A → Type 0) (Q : B → Type 0) (a : Run A) (k : A → Run B) → Obeys P a.out → ((v : A) → P v → Obeys Q (k v).out) → Obeys Q (seq a k).out
  seq_obeys P Q a k h each = onward_obeys a.out h
    where
      onward_obeys : (o : Out A) → Obeys P o → Obeys Q (onward o a.notes k).out
      onward_obeys (gives v) g = each v g
      onward_obeys (raises e) g = g
      onward_obeys (stops s) g = tt

caught_obeys : (o : Out CellValue) (l : List Note) (b : Run CellValue) → Obeys IsValue o → Obeys IsValue b.out → Obeys IsValue (caught o l b).out
caught_obeys (gives v) l b h g = h
caught_obeys (raises e) l b h g = g
caught_obeys (stops s) l b h g = tt

-- each of them gives a value
abbrev AllObey : List (Run CellValue) → Type 0
AllObey [] = Unit {0}
AllObey (a ∷ rest) = Obeys IsValue a.out × AllObey rest

collect_obeys : (l : List (Run CellValue)) → AllObey l → Obeys IsAny (collect l).out
collect_obeys [] h = tt
collect_obeys (a ∷ rest) h = seq_obeys IsValue IsAny a _ h.0 (λ v _. seq_obeys IsAny IsAny (collect rest) _ (collect_obeys rest h.1) (λ vs _. tt))

both_obeys : {A B C : Type 0} (f : A → B → C) (o : Out A) (p : Out B) → Obeys IsAny o → Obeys IsAny p → Obeys IsAny (both f o p)
both_obeys f (gives b) (gives rs) h g = tt
both_obeys f (gives b) (raises e) h g = g
both_obeys f (gives b) (stops s) h g = tt
both_obeys f (raises e) (gives rs) h g = h
both_obeys f (raises e) (raises d) h g = h
both_obeys f (raises e) (stops s) h g = tt
both_obeys f (stops circular) p h g = tt
both_obeys f (stops (need c)) (gives rs) h g = tt
both_obeys f (stops (need c)) (raises e) h g = tt
both_obeys f (stops (need c)) (stops circular) h g = tt
both_obeys f (stops (need c)) (stops (need d)) h g = tt

out_obeys : (r : Result CellValue ErrKind) → IsFine r → Obeys IsValue (out_of r)
out_obeys (Ok v) h = h
out_obeys (Err e) h = h

tested_obeys : (r : Result Bool ErrKind) → IsFineTest r → Obeys IsValue (tested (out_of r))
tested_obeys (Ok v) h = tt
tested_obeys (Err e) h = h

untested_obeys : (r : Result Bool ErrKind) → IsFineTest r → Obeys IsValue (untested (out_of r))
untested_obeys (Ok v) h = tt
untested_obeys (Err e) h = h

told_obeys : (c : CellId) (o : Told) → Obeys IsToldValue (told_out c o)
told_obeys c (known value.Null) = tt
told_obeys c (known (value.Int n)) = tt
told_obeys c (known (value.Bool b)) = tt
told_obeys c (known (value.Text t)) = tt
told_obeys c (known (value.Date d)) = tt
told_obeys c (known (value.Rec r)) = tt
told_obeys c (known (value.RecSet s)) = tt
told_obeys c (known (value.List is)) = tt
told_obeys c (known (value.Err err.Circular)) = tt
told_obeys c (known (value.Err err.ZeroDivision)) = tt
told_obeys c (known (value.Err err.WrongType)) = tt
told_obeys c (known (value.Err err.Attribute)) = tt
told_obeys c (known (value.Err err.Key)) = tt
told_obeys c (known (value.Err err.Name)) = tt
told_obeys c (known (value.Err err.Overflow)) = tt
told_obeys c (known (value.Err err.Syntax)) = tt
told_obeys c (known value.Censored) = tt
told_obeys c no_table = tt
told_obeys c no_column = tt
told_obeys c no_row = tt
told_obeys c needed = tt

record_value : (t : List ℕ) (v : CellValue) (o : Option ℕ) → IsValue v → IsValue (record_or t v o)
record_value t v None h = h
record_value t v (Some r) h = tt

records_value : (t : List ℕ) (v : CellValue) (o : Option (List ℕ)) → IsValue v → IsValue (records_or t v o)
records_value t v None h = h
records_value t v (Some r) h = tt

read_value : (k : ColType) (v : CellValue) → IsValue v → IsValue (as_read k v)
read_value ty.Any v h = h
read_value ty.Text v h = h
read_value ty.Int v h = h
read_value ty.Bool v h = h
read_value ty.Date v h = h
read_value (ty.Ref u) value.Null h = h
read_value (ty.Ref u) (value.Int n) h = record_value u (value.Int n) (row_number n) tt
read_value (ty.Ref u) (value.Bool b) h = h
read_value (ty.Ref u) (value.Text t) h = h
read_value (ty.Ref u) (value.Date d) h = h
read_value (ty.Ref u) (value.Rec r) h = h
read_value (ty.Ref u) (value.RecSet s) h = h
read_value (ty.Ref u) (value.List is) h = h
read_value (ty.Ref u) (value.Err e) h = h
read_value (ty.Ref u) value.Censored h = h
read_value (ty.RefList u) value.Null h = tt
read_value (ty.RefList u) (value.Int n) h = h
read_value (ty.RefList u) (value.Bool b) h = h
read_value (ty.RefList u) (value.Text t) h = h
read_value (ty.RefList u) (value.Date d) h = h
read_value (ty.RefList u) (value.Rec r) h = h
read_value (ty.RefList u) (value.RecSet s) h = h
read_value (ty.RefList u) (value.List is) h = records_value u (value.List is) (rows_of_items is) tt
read_value (ty.RefList u) (value.Err e) h = h
read_value (ty.RefList u) value.Censored h = h

default_is_value : (k : ColType) → IsValue (default_value k)
default_is_value ty.Any = tt
default_is_value ty.Text = tt
default_is_value ty.Int = tt
default_is_value ty.Bool = tt
default_is_value ty.Date = tt
default_is_value (ty.Ref u) = tt
default_is_value (ty.RefList u) = tt

value_obeys : (k : Option ColType) (o : Told) → IsToldValue o → Obeys IsValue (value_in k o)
value_obeys None o h = tt
value_obeys (Some k) (known value.Null) h = read_value k value.Null tt
value_obeys (Some k) (known (value.Int n)) h = read_value k (value.Int n) tt
value_obeys (Some k) (known (value.Bool b)) h = read_value k (value.Bool b) tt
value_obeys (Some k) (known (value.Text t)) h = read_value k (value.Text t) tt
value_obeys (Some k) (known (value.Date d)) h = read_value k (value.Date d) tt
value_obeys (Some k) (known (value.Rec r)) h = read_value k (value.Rec r) tt
value_obeys (Some k) (known (value.RecSet s)) h = read_value k (value.RecSet s) tt
value_obeys (Some k) (known (value.List is)) h = read_value k (value.List is) tt
value_obeys (Some k) (known (value.Err e)) h = h
value_obeys (Some k) (known value.Censored) h = read_value k value.Censored tt
value_obeys (Some k) no_table h = tt
value_obeys (Some k) no_column h = tt
value_obeys (Some k) no_row h = read_value k (default_value k) (default_is_value k)
value_obeys (Some k) needed h = tt

item_obeys : (v : CellValue) → Obeys IsAny (item_of v)
item_obeys value.Null = tt
item_obeys (value.Int n) = tt
item_obeys (value.Bool b) = tt
item_obeys (value.Text t) = tt
item_obeys (value.Date d) = tt
item_obeys (value.Rec r) = tt
item_obeys (value.RecSet s) = tt
item_obeys (value.List is) = tt
item_obeys (value.Err e) = tt
item_obeys value.Censored = tt

items_obey : (l : List (Run CellValue)) → AllObey l → Obeys IsAny (collect (map as_item l)).out
items_obey [] h = tt
items_obey (a ∷ l) h =
    seq_obeys IsAny IsAny (as_item a) _ (seq_obeys IsValue IsAny a _ h.0 (λ v _. item_obeys v)) (λ i _. seq_obeys IsAny IsAny (collect (map as_item l)) _ (items_obey l h.1) (λ is _. tt))

listed_obeys : (l : List (Run CellValue)) → AllObey l → Obeys IsValue (listed l).out
listed_obeys l h = seq_obeys IsAny IsValue (collect (map as_item l)) _ (items_obey l h) (λ is _. out_obeys (bounded_list is) (list_fine is))

operated_obeys : (o : BinaryOp) (v w : CellValue) → IsValue w → Obeys IsValue (operated o v w)
operated_obeys op.Or v w h = h
operated_obeys op.And v w h = h
operated_obeys op.Equal v w h = tt
operated_obeys op.NotEqual v w h = tt
operated_obeys op.Less v w h = tested_obeys (less_of v w) (operators_fine v w).less
operated_obeys op.AtMost v w h = untested_obeys (less_of w v) (operators_fine w v).less
operated_obeys op.More v w h = tested_obeys (less_of w v) (operators_fine w v).less
operated_obeys op.AtLeast v w h = untested_obeys (less_of v w) (operators_fine v w).less
operated_obeys op.In v w h = tested_obeys (contains_of v w) (operators_fine v w).contains
operated_obeys op.NotIn v w h = untested_obeys (contains_of v w) (operators_fine v w).contains
operated_obeys op.Is v w h = tt
operated_obeys op.IsNot v w h = tt
operated_obeys op.Add v w h = out_obeys (sum_of v w) (operators_fine v w).sum
operated_obeys op.Subtract v w h = out_obeys (difference_of v w) (operators_fine v w).difference
operated_obeys op.Multiply v w h = out_obeys (product_of v w) (operators_fine v w).product
operated_obeys op.Divide v w h = out_obeys (quotient_of v w) (operators_fine v w).quotient
operated_obeys op.Remainder v w h = out_obeys (remainder_of v w) (operators_fine v w).remainder

combined_obeys : (o : BinaryOp) (a b : Run CellValue) → Obeys IsValue a.out → Obeys IsValue b.out → Obeys IsValue (combined o a b).out
combined_obeys o a b h g =
    seq_obeys IsValue IsValue a _ h (λ v f. elim (is_decided o v) as (λ q. Obeys IsValue (cond q (done (gives v)) (seq b (λ w. done (operated o v w)))).out)
    [ true ↦ f | false ↦ seq_obeys IsValue IsValue b _ g (λ w k. operated_obeys o v w k) ])

prefixed_obeys : (o : PrefixOp) (v : CellValue) → Obeys IsValue (prefixed o v)
prefixed_obeys pre.Not v = tt
prefixed_obeys pre.Negate v = out_obeys (negation_of v) (operators_fine v v).negation

chosen_obeys : (t a b : Run CellValue) → Obeys IsValue t.out → Obeys IsValue a.out → Obeys IsValue b.out → Obeys IsValue (chosen t a b).out
chosen_obeys t a b h g k = seq_obeys IsValue IsValue t _ h (λ v _. elim (truth_of v) as (λ q. Obeys IsValue (cond q a b).out) [ true ↦ g | false ↦ k ])

argument_obeys : (l : List (Run CellValue)) (i : ℕ) → AllObey l → Obeys IsValue (argument l i).out
argument_obeys [] i h = tt
argument_obeys (a ∷ l) zero h = h.0
argument_obeys (a ∷ l) (suc i) h = argument_obeys l i h.1

all_obey : (f : Function) (l : List (Run CellValue)) → AllObey l → Obeys IsValue (seq (collect l) (λ vs. done (out_of (applied f vs)))).out
all_obey f l h = seq_obeys IsAny IsValue (collect l) _ (collect_obeys l h) (λ vs _. out_obeys (applied f vs) (applied_fine f vs))

function_obeys : (f : Function) (l : List (Run CellValue)) → AllObey l → Obeys IsValue (run_function f l).out
function_obeys fn.If l h = chosen_obeys (argument l 0) (argument l 1) (argument l 2) (argument_obeys l 0 h) (argument_obeys l 1 h) (argument_obeys l 2 h)
function_obeys fn.IfError l h = caught_obeys (argument l 0).out (argument l 0).notes (argument l 1) (argument_obeys l 0 h) (argument_obeys l 1 h)
function_obeys fn.Sum l h = all_obey fn.Sum l h
function_obeys fn.Min l h = all_obey fn.Min l h
function_obeys fn.Max l h = all_obey fn.Max l h
function_obeys fn.Len l h = all_obey fn.Len l h
function_obeys fn.Abs l h = all_obey fn.Abs l h
function_obeys fn.Str l h = all_obey fn.Str l h
function_obeys fn.Bool l h = all_obey fn.Bool l h

called_obeys : (f : Option Function) (n : ℕ) (l : List (Run CellValue)) → AllObey l → Obeys IsValue (called f n l).out
called_obeys None n l h = tt
called_obeys (Some f) n l h = elim (takes f n) as (λ b. Obeys IsValue (cond b (run_function f l) (done (raises err.WrongType))).out) [ true ↦ function_obeys f l h | false ↦ tt ]

constant_obeys : (at : RowRef) (c : Constant) → IsValue (constant_value at c)
constant_obeys at con.True = tt
constant_obeys at con.False = tt
constant_obeys at con.None = tt
constant_obeys at con.Rec = tt

found_obeys : (k : LookupKind) (t rs : List ℕ) → IsValue (found k t rs)
found_obeys look.Records t rs = tt
found_obeys look.One t rs = tt

met_obeys : (k : KeyItem) (u : Option ColType) (o : Out Told) → Obeys IsToldValue o → Obeys IsAny (met_by k u o)
met_obeys k u (gives o) h = tt
met_obeys k u (raises e) h = h
met_obeys k u (stops s) h = tt

table_obeys : (o : Option (List ℕ)) → Obeys IsAny (in_table o)
table_obeys None = tt
table_obeys (Some rs) = tt

module _ (x : Reader) where
  read_obeys : (c : CellId) → Obeys IsValue (read_cell x c).out
  read_obeys c = seq_obeys IsToldValue IsValue (done (told_out c (x.cell c))) (λ o. done (value_in (x.kind c.table c.column) o)) (told_obeys c (x.cell c)) (λ o h. value_obeys (x.kind c.table c.column) o h)

  column_obeys : (t c rows : List ℕ) → AllObey (column_runs x t c rows)
  column_obeys t c [] = tt
  column_obeys t c (r ∷ rows) = (read_obeys (cell_at t c r), column_obeys t c rows)

  attribute_obeys : (n : List ℕ) (v : CellValue) → Obeys IsValue (attribute_of x n v).out
  attribute_obeys n0 value.Null = tt
  attribute_obeys n0 (value.Int n) = tt
  attribute_obeys n0 (value.Bool b) = tt
  attribute_obeys n0 (value.Text t) = tt
  attribute_obeys n0 (value.Date d) = tt
  attribute_obeys n0 (value.Rec r) = elim (is_id n0) as (λ b. Obeys IsValue (cond b (done (gives (value.Int (pos r.row)))) (read_cell x (cell_at r.table n0 r.row))).out) [ true ↦ tt | false ↦ read_obeys (cell_at r.table n0 r.row) ]
  attribute_obeys n0 (value.RecSet s) = elim (is_id n0) as (λ b. Obeys IsValue (cond b (done (out_of (bounded_list (row_items s.rows)))) (listed (column_runs x s.table n0 s.rows))).out) [ true ↦ out_obeys (bounded_list (row_items s.rows)) (list_fine (row_items s.rows)) | false ↦ listed_obeys (column_runs x s.table n0 s.rows) (column_obeys s.table n0 s.rows) ]
  attribute_obeys n0 (value.List is) = tt
  attribute_obeys n0 (value.Err e) = tt
  attribute_obeys n0 value.Censored = tt

  key_obeys : (t : List ℕ) (r : ℕ) (k : KeyItem) → Obeys IsAny (key_met x t r k)
  key_obeys t r k =
      let c : CellId = cell_at t k.column r in
      elim (is_id k.column) as (λ b. Obeys IsAny (cond b (gives (meets k (value.Int (pos r)))) (met_by k (x.kind t k.column) (told_out c (x.cell c)))))
      [ true ↦ tt | false ↦ met_obeys k (x.kind t k.column) (told_out c (x.cell c)) (told_obeys c (x.cell c)) ]

  row_obeys : (t : List ℕ) (r : ℕ) (ks : List KeyItem) → Obeys IsAny (row_met x t r ks)
  row_obeys t r [] = tt
  row_obeys t r (k ∷ ks) = both_obeys ◌&&◌ (key_met x t r k) (row_met x t r ks) (key_obeys t r k) (row_obeys t r ks)

  scan_obeys : (t : List ℕ) (ks : List KeyItem) (rows : List ℕ) → Obeys IsAny (scan x t ks rows)
  scan_obeys t ks [] = tt
  scan_obeys t ks (r ∷ rows) = both_obeys (kept_row r) (row_met x t r ks) (scan x t ks rows) (row_obeys t r ks) (scan_obeys t ks rows)

  columns_obey : (t : List ℕ) (cs : List (List ℕ)) → Obeys IsAny (with_columns x t cs)
  columns_obey t cs = elim (list_all (λ c. is_key_column x t c) cs) as (λ b. Obeys IsAny (cond b (gives true) (raises err.Key))) [ true ↦ tt | false ↦ tt ]

  matched_obeys : (t : List ℕ) (ks : List KeyItem) (o : Option (List ℕ)) → Obeys IsAny (matched_in x t ks o)
  matched_obeys t ks None = tt
  matched_obeys t ks (Some rs) =
      elim (list_all (λ k. is_key_column x t k.column) ks) as (λ b. Obeys IsAny (cond b (scan x t ks rs) (raises err.Key))) [ true ↦ scan_obeys t ks rs | false ↦ tt ]

  opened_obeys : (t : List ℕ) (cs : List (List ℕ)) → Obeys IsAny (opened x t cs).out
  opened_obeys t cs = seq_obeys IsAny IsAny (done (in_table (x.rows t))) _ (table_obeys (x.rows t)) (λ rs _. columns_obey t cs)

  looked_up_obeys : (t : List ℕ) (fs : List KeyForm) (l : List (Run CellValue)) → AllObey l → Obeys IsAny (looked_up x t fs l).out
  looked_up_obeys t fs l h =
      seq_obeys IsAny IsAny (opened x t (columns_of fs)) _ (opened_obeys t (columns_of fs))
      (λ b _. seq_obeys IsAny IsAny (collect l) _ (collect_obeys l h) (λ vs _. matched_obeys t (keyed fs vs) (x.rows t)))

  all_rows_obeys : (t : List ℕ) → Obeys IsValue (all_rows x t).out
  all_rows_obeys t = seq_obeys IsAny IsValue (done (in_table (x.rows t))) _ (table_obeys (x.rows t)) (λ rs _. tt)

  mutual
    -- a formula gives no error as a value, and raises no circular error
    pub ev_obeys : (at : RowRef) (f : Tree) → Obeys IsValue (ev x at f).out
    ev_obeys at (number n) = out_obeys (in_64_bits (pos n)) (int_fine (pos n))
    ev_obeys at (text s) = tt
    ev_obeys at (constant c) = constant_obeys at c
    ev_obeys at (dollar n) = attribute_obeys n (value.Rec at)
    ev_obeys at (binary o a b) = combined_obeys o (ev x at a) (ev x at b) (ev_obeys at a) (ev_obeys at b)
    ev_obeys at (prefix o a) = seq_obeys IsValue IsValue (ev x at a) _ (ev_obeys at a) (λ v _. prefixed_obeys o v)
    ev_obeys at (conditional a c b) = chosen_obeys (ev x at c) (ev x at a) (ev x at b) (ev_obeys at c) (ev_obeys at a) (ev_obeys at b)
    ev_obeys at (parentheses a) = ev_obeys at a
    ev_obeys at (list ts) = listed_obeys (ev_each x at ts) (each_obeys at ts)
    ev_obeys at (call n ts) = called_obeys (function_of n) (count_of ts) (ev_each x at ts) (each_obeys at ts)
    ev_obeys at (attribute a n) = seq_obeys IsValue IsValue (ev x at a) _ (ev_obeys at a) (λ v _. attribute_obeys n v)
    ev_obeys at (every t) = all_rows_obeys t
    ev_obeys at (lookup k t ks) = seq_obeys IsAny IsValue (looked_up x t (forms_of ks) (ev_keys x at ks)) _ (looked_up_obeys t (forms_of ks) (ev_keys x at ks) (keys_obey at ks)) (λ rs _. found_obeys k t rs)
    ev_obeys at (atom a) = tt

    each_obeys : (at : RowRef) (ts : Trees) → AllObey (ev_each x at ts)
    each_obeys at no_trees = tt
    each_obeys at (one_more t ts) = (ev_obeys at t, each_obeys at ts)

    keys_obey : (at : RowRef) (ks : Keys) → AllObey (ev_keys x at ks)
    keys_obey at no_keys = tt
    keys_obey at (one_key n t ks) =
        (elim (is_containing t) as (λ b. Obeys IsValue (cond b (argument (ev_arguments x at t) 0) (ev x at t)).out) [ true ↦ argument_obeys (ev_arguments x at t) 0 (arguments_obey at t) | false ↦ ev_obeys at t ], keys_obey at ks)

    arguments_obey : (at : RowRef) (t : Tree) → AllObey (ev_arguments x at t)
    arguments_obey at (number n) = tt
    arguments_obey at (text s) = tt
    arguments_obey at (constant c) = tt
    arguments_obey at (dollar n) = tt
    arguments_obey at (binary o a b) = tt
    arguments_obey at (prefix o a) = tt
    arguments_obey at (conditional a c b) = tt
    arguments_obey at (parentheses a) = tt
    arguments_obey at (list ts) = tt
    arguments_obey at (call n ts) = each_obeys at ts
    arguments_obey at (attribute a n) = tt
    arguments_obey at (every t) = tt
    arguments_obey at (lookup k t ks) = tt
    arguments_obey at (atom a) = tt

  result_obeys : (v : CellValue) → IsValue v → Obeys IsValue (as_result v)
  result_obeys v h = elim (is_too_long v) as (λ b. Obeys IsValue (cond b (raises err.Overflow) (gives v))) [ true ↦ tt | false ↦ h ]

  -- the same of whole formulas
  pub evaluated_obeys : (at : RowRef) (f : Tree) → Obeys IsValue (evaluated x at f).out
  evaluated_obeys at f = seq_obeys IsValue IsValue (ev x at f) _ (ev_obeys at f) (λ v h. result_obeys v h)
