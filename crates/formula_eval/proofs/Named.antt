-- A cell for which the evaluator stops is one that the reader tells is needed, and is named by the reads.
use Rattle.std.proofs.Common.{ℕ, zero, suc, pos, Bool, true, false, ◌&&◌, cond, List, [], ◌∷◌, ◌++◌, ◌≡◌, inl, inr, refl, sym, ap, ◌∙◌, subst, Option, Some, None, Result, Ok, Err, append_assoc, map}
use Rattle.std.proofs.lemmas.List.{append-nil}
use Rattle.std.specs.List.{list_all, AllByRecursion}
use Rattle.cell_types.specs.declared.cell.CellId.{CellId}
use Rattle.cell_types.specs.declared.cell.KeyItem.{KeyItem}
use Rattle.cell_types.specs.declared.cell.Read.{Read}
use Rattle.formula_eval.specs.declared.note.Note.{Note}
use Rattle.formula_eval.specs.declared.note.Note.TheVariants as note
use Rattle.cell_types.specs.declared.cell.Read.TheVariants.{Cell, Key, Rows}
use Rattle.cell_types.specs.declared.column_type.ColType.{ColType}
use Rattle.cell_types.specs.declared.value.CellValue.{CellValue}
use Rattle.cell_types.specs.declared.value.CellValue.TheVariants as value
use Rattle.cell_types.specs.declared.value.ErrKind.{ErrKind}
use Rattle.cell_types.specs.declared.value.ErrKind.TheVariants as err
use Rattle.cell_types.specs.declared.value.RowRef.{RowRef}
use Rattle.cell_types.specs.Reference.{row_items}
use Rattle.formula_parse.specs.declared.operator.BinaryOp.{BinaryOp}
use Rattle.formula_parse.specs.declared.operator.BinaryOp.TheVariants as op
use Rattle.formula_parse.specs.declared.operator.PrefixOp.{PrefixOp}
use Rattle.formula_parse.specs.declared.operator.PrefixOp.TheVariants as pre
use Rattle.formula_parse.specs.declared.operator.LookupKind.TheVariants as look
use Rattle.formula_parse.specs.Lexemes.{is_id}
use Rattle.formula_parse.specs.Tree.{Tree, number, text, constant, dollar, binary, prefix, conditional, parentheses, list, call, attribute, every, lookup, atom, Trees, no_trees, one_more, Keys, no_keys, one_key}
use Rattle.value_ops.specs.Containment.{contains_of}
use Rattle.value_ops.specs.Joined.{bounded_list, sum_of}
use Rattle.value_ops.specs.Numbers.{in_64_bits, difference_of, product_of, quotient_of, remainder_of, negation_of}
use Rattle.value_ops.specs.Order.{less_of}
use Rattle.value_ops.specs.Truth.{truth_of}
use Rattle.formula_eval.specs.declared.function.Function.{Function}
use Rattle.formula_eval.specs.declared.function.Function.TheVariants as fn
use Rattle.formula_eval.specs.Reader.{Told, known, no_table, no_column, no_row, needed, Reader, cell_at}
use Rattle.formula_eval.specs.Run.{circular, need, Out, gives, raises, stops, Run, out_of, done, after, onward, seq, caught, collect, both, reads_of, MayName, IsAmong}
use Rattle.formula_eval.specs.Reading.{told_out, value_in, read_cell}
use Rattle.formula_eval.specs.Attribute.{item_of, as_item, listed, column_runs, attribute_of}
use Rattle.formula_eval.specs.Operator.{tested, untested, is_decided, operated, combined, prefixed, chosen}
use Rattle.formula_eval.specs.Function.{function_of, applied}
use Rattle.formula_eval.specs.Call.{takes, argument, run_function, called}
use Rattle.formula_eval.specs.Lookup.{meets, met_by, key_met, row_met, kept_row, scan, in_table, is_key_column, with_columns, KeyForm, columns_of, keyed, key_notes, matched_in, matched, opened, looked_up, found, all_rows}
use Rattle.formula_eval.specs.Eval.{is_containing, count_of, forms_of, ev, ev_each, ev_keys, ev_arguments, is_too_long, as_result, evaluated}
use Rattle.formula_eval.specs.Names.{Names, AnyNames, IsNeeded, NamedOut, Named}
use Rattle.formula_eval.proofs.Notes.{all_join, reads_of-append, IsGives}

any_more : (d : CellId) (l m : List Read) → AnyNames d l → AnyNames d (l ++ m)
any_more d [] m h = absurd h
any_more d (q ∷ l) m (inl h) = inl h
any_more d (q ∷ l) m (inr h) = inr (any_more d l m h)

any_last : (d : CellId) (l : List Read) (q : Read) → Names d q → AnyNames d (l ++ q ∷ [])
any_last d [] q h = inl h
any_last d (p ∷ l) q h = inr (any_last d l q h)

-- each cell of these columns is named
abbrev AllNamed : List Read → List ℕ → List (List ℕ) → Type 0
AllNamed l t [] = Unit {0}
AllNamed l t (c ∷ cs) = ((r : ℕ) → AnyNames (cell_at t c r) l) × AllNamed l t cs

all_more : (l m : List Read) (t : List ℕ) (cs : List (List ℕ)) → AllNamed l t cs → AllNamed (l ++ m) t cs
all_more l m t [] h = tt
all_more l m t (c ∷ cs) h = (λ r. any_more (cell_at t c r) l m (h.0 r), all_more l m t cs h.1)

keys_named : (l : List Read) (t : List ℕ) (cs : List (List ℕ)) → AllNamed (l ++ reads_of (key_notes t cs)) t cs
keys_named l t [] = tt
keys_named l t (c ∷ cs) =
    let e : (l ++ Key t c ∷ []) ++ reads_of (key_notes t cs) ≡ l ++ Key t c ∷ reads_of (key_notes t cs) = append_assoc l (Key t c ∷ []) (reads_of (key_notes t cs)) in (
      (λ r. subst (AnyNames (cell_at t c r)) e (any_more (cell_at t c r) (l ++ Key t c ∷ []) (reads_of (key_notes t cs)) (any_last (cell_at t c r) l (Key t c) (refl, refl)))),
      subst (λ m. AllNamed m t cs) e (keys_named (l ++ Key t c ∷ []) t cs),
    )

module _ (x : Reader) where
  needed_among : (l : List Read) (d : CellId) (cs : List CellId) → AllByRecursion (IsNeeded x l) cs → IsAmong d cs → IsNeeded x l d
  needed_among l d [] h m = absurd m
  needed_among l d (c ∷ cs) h (inl e) = subst (IsNeeded x l) e h.0
  needed_among l d (c ∷ cs) h (inr m) = needed_among l d cs h.1 m

  -- a cell that a run may name is needed, and named by its reads
  pub may_needed : {A : Type 0} (l : List Read) (d : CellId) (o : Out A) → NamedOut x l o → MayName d o → IsNeeded x l d
  may_needed l d (gives v) h m = absurd m
  may_needed l d (raises e) h m = absurd m
  may_needed l d (stops circular) h m = absurd m
  may_needed l d (stops (need cs)) h m = needed_among l d cs h m

  done_named : {A : Type 0} (pre : List Read) (o : Out A) → NamedOut x pre o → Named x pre (done o)
  done_named pre o h = subst (λ l. NamedOut x l o) (sym (append-nil pre)) h

  after_named : {A : Type 0} (pre : List Read) (l : List Note) (a : Run A) → Named x (pre ++ reads_of l) a → Named x pre (after l a)
  after_named pre l a h =
      subst (λ m. NamedOut x m a.out) (append_assoc pre (reads_of l) (reads_of a.notes) ∙ ap (λ m. pre ++ m) (sym (reads_of-append l a.notes))) h

  onward_named : {A B : Type 0} (pre : List Read) (o : Out A) (l : List Note) (k : A → Run B) → NamedOut x (pre ++ reads_of l) o → ((v : A) → IsGives o → Named x (pre ++ reads_of l) (k v)) → Named x pre (onward o l k)
  onward_named pre (gives v) l k h each = after_named pre l (k v) (each v tt)
  onward_named pre (raises e) l k h each = tt
  onward_named pre (stops circular) l k h each = tt
  onward_named pre (stops (need ds)) l k h each = h

  seq_named : {A B : Type 0} (pre : List Read) (a : Run A) (k : A → Run B) → Named x pre a → ((v : A) → Named x (pre ++ reads_of a.notes) (k v)) → Named x pre (seq a k)
  seq_named pre a k h each = onward_named pre a.out a.notes k h (λ v _. each v)

  caught_named : {A : Type 0} (pre : List Read) (o : Out A) (l : List Note) (b : Run A) → NamedOut x (pre ++ reads_of l) o → Named x (pre ++ reads_of l) b → Named x pre (caught o l b)
  caught_named pre (gives v) l b h other = tt
  caught_named pre (raises e) l b h other = after_named pre l b other
  caught_named pre (stops circular) l b h other = tt
  caught_named pre (stops (need d)) l b h other = h

  -- each of them, whatever was read before
  abbrev AreNamed : {A : Type 0} → List (Run A) → Type 0
  AreNamed [] = Unit {0}
  AreNamed (a ∷ rest) = ((l : List Read) → Named x l a) × AreNamed rest

  collect_named : {A : Type 0} (pre : List Read) (l : List (Run A)) → AreNamed l → Named x pre (collect l)
  collect_named pre [] h = tt
  collect_named {A} pre (a ∷ rest) h =
      seq_named pre a _ (h.0 pre) (λ v. seq_named {B = List A} (pre ++ reads_of a.notes) (collect rest) _ (collect_named (pre ++ reads_of a.notes) rest h.1) (λ vs. tt))

  both_named : {A B C : Type 0} (f : A → B → C) (pre : List Read) (o : Out A) (p : Out B) → NamedOut x pre o → NamedOut x pre p → NamedOut x pre (both f o p)
  both_named f pre (gives b) (gives rs) h g = tt
  both_named f pre (gives b) (raises e) h g = tt
  both_named f pre (gives b) (stops circular) h g = tt
  both_named f pre (gives b) (stops (need d)) h g = g
  both_named f pre (raises e) (gives rs) h g = tt
  both_named f pre (raises e) (raises d) h g = tt
  both_named f pre (raises e) (stops circular) h g = tt
  both_named f pre (raises e) (stops (need d)) h g = g
  both_named f pre (stops circular) p h g = tt
  both_named f pre (stops (need c)) (gives rs) h g = h
  both_named f pre (stops (need c)) (raises e) h g = h
  both_named f pre (stops (need c)) (stops circular) h g = tt
  both_named f pre (stops (need c)) (stops (need d)) h g = all_join (IsNeeded x pre) c d h g

  -- what never stops
  out_named : {A : Type 0} (pre : List Read) (r : Result A ErrKind) → Named x pre (done (out_of r))
  out_named pre (Ok v) = tt
  out_named pre (Err e) = tt

  tested_named : (pre : List Read) (r : Result Bool ErrKind) → Named x pre (done (tested (out_of r)))
  tested_named pre (Ok v) = tt
  tested_named pre (Err e) = tt

  untested_named : (pre : List Read) (r : Result Bool ErrKind) → Named x pre (done (untested (out_of r)))
  untested_named pre (Ok v) = tt
  untested_named pre (Err e) = tt

  -- the questions
  told_named : (pre : List Read) (c : CellId) (o : Told) → x.cell c ≡ o → AnyNames c pre → NamedOut x pre (told_out c o)
  told_named pre c (known value.Null) e h = tt
  told_named pre c (known (value.Int n)) e h = tt
  told_named pre c (known (value.Bool b)) e h = tt
  told_named pre c (known (value.Text t)) e h = tt
  told_named pre c (known (value.Date n)) e h = tt
  told_named pre c (known (value.Rec r)) e h = tt
  told_named pre c (known (value.RecSet s)) e h = tt
  told_named pre c (known (value.List is)) e h = tt
  told_named pre c (known (value.Err err.Circular)) e h = tt
  told_named pre c (known (value.Err err.ZeroDivision)) e h = tt
  told_named pre c (known (value.Err err.WrongType)) e h = tt
  told_named pre c (known (value.Err err.Attribute)) e h = tt
  told_named pre c (known (value.Err err.Key)) e h = tt
  told_named pre c (known (value.Err err.Name)) e h = tt
  told_named pre c (known (value.Err err.Overflow)) e h = tt
  told_named pre c (known (value.Err err.Syntax)) e h = tt
  told_named pre c (known value.Censored) e h = tt
  told_named pre c no_table e h = tt
  told_named pre c no_column e h = tt
  told_named pre c no_row e h = tt
  told_named pre c needed e h = ((e, h), tt)

  value_named : (pre : List Read) (k : Option ColType) (o : Told) → Named x pre (done (value_in k o))
  value_named pre None o = tt
  value_named pre (Some k) (known value.Null) = tt
  value_named pre (Some k) (known (value.Int n)) = tt
  value_named pre (Some k) (known (value.Bool b)) = tt
  value_named pre (Some k) (known (value.Text t)) = tt
  value_named pre (Some k) (known (value.Date n)) = tt
  value_named pre (Some k) (known (value.Rec r)) = tt
  value_named pre (Some k) (known (value.RecSet s)) = tt
  value_named pre (Some k) (known (value.List is)) = tt
  value_named pre (Some k) (known (value.Err e)) = tt
  value_named pre (Some k) (known value.Censored) = tt
  value_named pre (Some k) no_table = tt
  value_named pre (Some k) no_column = tt
  value_named pre (Some k) no_row = tt
  value_named pre (Some k) needed = tt

  read_named : (pre : List Read) (c : CellId) → Named x pre (read_cell x c)
  read_named pre c =
      after_named pre (note.Read (Cell c) ∷ []) (seq (done (told_out c (x.cell c))) (λ o. done (value_in (x.kind c.table c.column) o)))
      (seq_named (pre ++ Cell c ∷ []) (done (told_out c (x.cell c))) (λ o. done (value_in (x.kind c.table c.column) o))
      (done_named (pre ++ Cell c ∷ []) (told_out c (x.cell c)) (told_named (pre ++ Cell c ∷ []) c (x.cell c) refl (any_last c pre (Cell c) refl)))
      (λ o. value_named ((pre ++ Cell c ∷ []) ++ []) (x.kind c.table c.column) o))

  item_named : (pre : List Read) (v : CellValue) → Named x pre (done (item_of v))
  item_named pre value.Null = tt
  item_named pre (value.Int n) = tt
  item_named pre (value.Bool b) = tt
  item_named pre (value.Text t) = tt
  item_named pre (value.Date n) = tt
  item_named pre (value.Rec r) = tt
  item_named pre (value.RecSet s) = tt
  item_named pre (value.List is) = tt
  item_named pre (value.Err e) = tt
  item_named pre value.Censored = tt

  items_named : (l : List (Run CellValue)) → AreNamed l → AreNamed (map as_item l)
  items_named [] h = tt
  items_named (a ∷ l) h = (λ pre. seq_named pre a _ (h.0 pre) (λ v. item_named (pre ++ reads_of a.notes) v), items_named l h.1)

  listed_named : (pre : List Read) (l : List (Run CellValue)) → AreNamed l → Named x pre (listed l)
  listed_named pre l h = seq_named pre (collect (map as_item l)) _ (collect_named pre (map as_item l) (items_named l h)) (λ is. out_named (pre ++ reads_of (collect (map as_item l)).notes) (bounded_list is))

  column_named : (t c : List ℕ) (rows : List ℕ) → AreNamed (column_runs x t c rows)
  column_named t c [] = tt
  column_named t c (r ∷ rows) = (λ pre. read_named pre (cell_at t c r), column_named t c rows)

  attribute_named : (pre : List Read) (n : List ℕ) (v : CellValue) → Named x pre (attribute_of x n v)
  attribute_named pre n (value.Rec r) =
      elim (is_id n) as (λ b. Named x pre (cond b (done (gives (value.Int (pos r.row)))) (read_cell x (cell_at r.table n r.row))))
      [ true ↦ tt | false ↦ read_named pre (cell_at r.table n r.row) ]
  attribute_named pre n (value.RecSet s) =
      elim (is_id n) as (λ b. Named x pre (cond b (done (out_of (bounded_list (row_items s.rows)))) (listed (column_runs x s.table n s.rows))))
      [ true ↦ out_named pre (bounded_list (row_items s.rows)) | false ↦ listed_named pre (column_runs x s.table n s.rows) (column_named s.table n s.rows) ]
  attribute_named pre n value.Null = tt
  attribute_named pre n (value.Int m) = tt
  attribute_named pre n (value.Bool b) = tt
  attribute_named pre n (value.Text t) = tt
  attribute_named pre n (value.Date d) = tt
  attribute_named pre n (value.List is) = tt
  attribute_named pre n (value.Err e) = tt
  attribute_named pre n value.Censored = tt

  operated_named : (pre : List Read) (o : BinaryOp) (v w : CellValue) → Named x pre (done (operated o v w))
  operated_named pre op.Or v w = tt
  operated_named pre op.And v w = tt
  operated_named pre op.Equal v w = tt
  operated_named pre op.NotEqual v w = tt
  operated_named pre op.Less v w = tested_named pre (less_of v w)
  operated_named pre op.AtMost v w = untested_named pre (less_of w v)
  operated_named pre op.More v w = tested_named pre (less_of w v)
  operated_named pre op.AtLeast v w = untested_named pre (less_of v w)
  operated_named pre op.In v w = tested_named pre (contains_of v w)
  operated_named pre op.NotIn v w = untested_named pre (contains_of v w)
  operated_named pre op.Is v w = tt
  operated_named pre op.IsNot v w = tt
  operated_named pre op.Add v w = out_named pre (sum_of v w)
  operated_named pre op.Subtract v w = out_named pre (difference_of v w)
  operated_named pre op.Multiply v w = out_named pre (product_of v w)
  operated_named pre op.Divide v w = out_named pre (quotient_of v w)
  operated_named pre op.Remainder v w = out_named pre (remainder_of v w)

  combined_named : (pre : List Read) (o : BinaryOp) (a b : Run CellValue) → Named x pre a → ((l : List Read) → Named x l b) → Named x pre (combined o a b)
  combined_named pre o a b h g =
      seq_named pre a _ h (λ v. elim (is_decided o v) as (λ q. Named x (pre ++ reads_of a.notes) (cond q (done (gives v)) (seq b (λ w. done (operated o v w)))))
      [ true ↦ tt | false ↦ seq_named (pre ++ reads_of a.notes) b _ (g (pre ++ reads_of a.notes)) (λ w. operated_named ((pre ++ reads_of a.notes) ++ reads_of b.notes) o v w) ])

  prefixed_named : (pre : List Read) (o : PrefixOp) (v : CellValue) → Named x pre (done (prefixed o v))
  prefixed_named l pre.Not v = tt
  prefixed_named l pre.Negate v = out_named l (negation_of v)

  chosen_named : (pre : List Read) (t a b : Run CellValue) → Named x pre t → ((l : List Read) → Named x l a) → ((l : List Read) → Named x l b) → Named x pre (chosen t a b)
  chosen_named pre t a b h g k =
      seq_named pre t _ h (λ v. elim (truth_of v) as (λ q. Named x (pre ++ reads_of t.notes) (cond q a b)) [ true ↦ g (pre ++ reads_of t.notes) | false ↦ k (pre ++ reads_of t.notes) ])

  argument_named : (l : List (Run CellValue)) (i : ℕ) → AreNamed l → (pre : List Read) → Named x pre (argument l i)
  argument_named [] i h pre = tt
  argument_named (a ∷ l) zero h pre = h.0 pre
  argument_named (a ∷ l) (suc i) h pre = argument_named l i h.1 pre

  all_named : (pre : List Read) (f : Function) (l : List (Run CellValue)) → AreNamed l → Named x pre (seq (collect l) (λ vs. done (out_of (applied f vs))))
  all_named pre f l h = seq_named pre (collect l) _ (collect_named pre l h) (λ vs. out_named (pre ++ reads_of (collect l).notes) (applied f vs))

  function_named : (pre : List Read) (f : Function) (l : List (Run CellValue)) → AreNamed l → Named x pre (run_function f l)
  function_named pre fn.If l h = chosen_named pre (argument l 0) (argument l 1) (argument l 2) (argument_named l 0 h pre) (argument_named l 1 h) (argument_named l 2 h)
  function_named pre fn.IfError l h = caught_named pre (argument l 0).out (argument l 0).notes (argument l 1) (argument_named l 0 h pre) (argument_named l 1 h (pre ++ reads_of (argument l 0).notes))
  function_named pre fn.Sum l h = all_named pre fn.Sum l h
  function_named pre fn.Min l h = all_named pre fn.Min l h
  function_named pre fn.Max l h = all_named pre fn.Max l h
  function_named pre fn.Len l h = all_named pre fn.Len l h
  function_named pre fn.Abs l h = all_named pre fn.Abs l h
  function_named pre fn.Str l h = all_named pre fn.Str l h
  function_named pre fn.Bool l h = all_named pre fn.Bool l h

  called_named : (pre : List Read) (f : Option Function) (n : ℕ) (l : List (Run CellValue)) → AreNamed l → Named x pre (called f n l)
  called_named pre None n l h = tt
  called_named pre (Some f) n l h =
      elim (takes f n) as (λ b. Named x pre (cond b (run_function f l) (done (raises err.WrongType)))) [ true ↦ function_named pre f l h | false ↦ tt ]

  met_named : (pre : List Read) (k : KeyItem) (ty : Option ColType) (o : Out Told) → NamedOut x pre o → NamedOut x pre (met_by k ty o)
  met_named pre k ty (gives o) h = tt
  met_named pre k ty (raises e) h = tt
  met_named pre k ty (stops circular) h = tt
  met_named pre k ty (stops (need c)) h = h

  key_named : (pre : List Read) (t : List ℕ) (r : ℕ) (k : KeyItem) → AnyNames (cell_at t k.column r) pre → NamedOut x pre (key_met x t r k)
  key_named pre t r k h =
      let c : CellId = cell_at t k.column r in
      elim (is_id k.column) as (λ b. NamedOut x pre (cond b (gives (meets k (value.Int (pos r)))) (met_by k (x.kind t k.column) (told_out c (x.cell c)))))
      [ true ↦ tt | false ↦ met_named pre k (x.kind t k.column) (told_out c (x.cell c)) (told_named pre c (x.cell c) refl h) ]

  row_named : (pre : List Read) (t : List ℕ) (r : ℕ) (fs : List KeyForm) (vs : List CellValue) → AllNamed pre t (columns_of fs) → NamedOut x pre (row_met x t r (keyed fs vs))
  row_named pre t r [] vs h = tt
  row_named pre t r (f ∷ fs) [] h = tt
  row_named pre t r (f ∷ fs) (v ∷ vs) h =
      let k : KeyItem = record { column = f.column; value = v; contains = f.contains } in
      both_named ◌&&◌ pre (key_met x t r k) (row_met x t r (keyed fs vs)) (key_named pre t r k (h.0 r)) (row_named pre t r fs vs h.1)

  scan_named : (pre : List Read) (t : List ℕ) (fs : List KeyForm) (vs : List CellValue) (rows : List ℕ) → AllNamed pre t (columns_of fs) → NamedOut x pre (scan x t (keyed fs vs) rows)
  scan_named pre t fs vs [] h = tt
  scan_named pre t fs vs (r ∷ rows) h = both_named (kept_row r) pre (row_met x t r (keyed fs vs)) (scan x t (keyed fs vs) rows) (row_named pre t r fs vs h) (scan_named pre t fs vs rows h)

  table_named : (pre : List Read) (o : Option (List ℕ)) → Named x pre (done (in_table o))
  table_named pre None = tt
  table_named pre (Some rs) = tt

  columns_named : (pre : List Read) (t : List ℕ) (cs : List (List ℕ)) → Named x pre (done (with_columns x t cs))
  columns_named pre t cs = elim (list_all (λ c. is_key_column x t c) cs) as (λ b. Named x pre (done (cond b (gives true) (raises err.Key)))) [ true ↦ tt | false ↦ tt ]

  matched_named : (pre : List Read) (t : List ℕ) (fs : List KeyForm) (vs : List CellValue) (o : Option (List ℕ)) → AllNamed pre t (columns_of fs) → NamedOut x pre (matched_in x t (keyed fs vs) o)
  matched_named pre t fs vs None h = tt
  matched_named pre t fs vs (Some rs) h =
      elim (list_all (λ k. is_key_column x t k.column) (keyed fs vs)) as (λ b. NamedOut x pre (cond b (scan x t (keyed fs vs) rs) (raises err.Key)))
      [ true ↦ scan_named pre t fs vs rs h | false ↦ tt ]

  opened_named : (pre : List Read) (t : List ℕ) (cs : List (List ℕ)) → Named x pre (opened x t cs)
  opened_named pre t cs =
      after_named pre (note.Read (Rows t) ∷ []) (seq (done (in_table (x.rows t))) (λ rs. after (key_notes t cs) (done (with_columns x t cs))))
      (seq_named (pre ++ Rows t ∷ []) (done (in_table (x.rows t))) _ (table_named (pre ++ Rows t ∷ []) (x.rows t))
      (λ rs. after_named ((pre ++ Rows t ∷ []) ++ []) (key_notes t cs) (done (with_columns x t cs)) (columns_named (((pre ++ Rows t ∷ []) ++ []) ++ reads_of (key_notes t cs)) t cs)))

  -- once table and columns are there, the columns are named
  opened_names : (pre : List Read) (t : List ℕ) (cs : List (List ℕ)) (o : Option (List ℕ)) (b : Out Bool)
      → IsGives (after (note.Read (Rows t) ∷ []) (seq (done (in_table o)) (λ rs. after (key_notes t cs) (done b)))).out
      → AllNamed (pre ++ reads_of (after (note.Read (Rows t) ∷ []) (seq (done (in_table o)) (λ rs. after (key_notes t cs) (done b)))).notes) t cs
  opened_names pre t cs None b h = absurd h
  opened_names pre t cs (Some rs) b h =
      subst (λ m. AllNamed m t cs)
      (append_assoc pre (Rows t ∷ []) (reads_of (key_notes t cs)) ∙ ap (λ m. pre ++ Rows t ∷ reads_of m) (sym (append-nil (key_notes t cs))))
      (keys_named (pre ++ Rows t ∷ []) t cs)

  looked_up_named : (pre : List Read) (t : List ℕ) (fs : List KeyForm) (l : List (Run CellValue)) → AreNamed l → Named x pre (looked_up x t fs l)
  looked_up_named pre t fs l h =
      let cs : List (List ℕ) = columns_of fs in
      let l1 : List Read = pre ++ reads_of (opened x t cs).notes in
      let l2 : List Read = l1 ++ reads_of (collect l).notes in
      onward_named pre (opened x t cs).out (opened x t cs).notes _ (opened_named pre t cs)
      (λ b there. seq_named l1 (collect l) _ (collect_named l1 l h)
      (λ vs. after_named l2 (note.Met t (keyed fs vs) ∷ []) (done (matched x t (keyed fs vs)))
      (done_named (l2 ++ []) (matched x t (keyed fs vs))
      (matched_named (l2 ++ []) t fs vs (x.rows t)
      (all_more l2 [] t cs (all_more l1 (reads_of (collect l).notes) t cs (opened_names pre t cs (x.rows t) (with_columns x t cs) there)))))))

  all_rows_named : (pre : List Read) (t : List ℕ) → Named x pre (all_rows x t)
  all_rows_named pre t =
      after_named pre (note.Read (Rows t) ∷ note.All t ∷ []) (seq (done (in_table (x.rows t))) (λ rs. done (gives (found look.Records t rs))))
      (seq_named (pre ++ Rows t ∷ []) (done (in_table (x.rows t))) _ (table_named (pre ++ Rows t ∷ []) (x.rows t)) (λ rs. tt))

  mutual
    -- where a formula stops for a cell, that is needed, and named by its reads
    pub ev_named : (at : RowRef) (f : Tree) (pre : List Read) → Named x pre (ev x at f)
    ev_named at (number n) pre = out_named pre (in_64_bits (pos n))
    ev_named at (text s) pre = tt
    ev_named at (constant c) pre = tt
    ev_named at (dollar n) pre = attribute_named pre n (value.Rec at)
    ev_named at (binary o a b) pre = combined_named pre o (ev x at a) (ev x at b) (ev_named at a pre) (ev_named at b)
    ev_named at (prefix o a) pre = seq_named pre (ev x at a) _ (ev_named at a pre) (λ v. prefixed_named (pre ++ reads_of (ev x at a).notes) o v)
    ev_named at (conditional a c b) pre = chosen_named pre (ev x at c) (ev x at a) (ev x at b) (ev_named at c pre) (ev_named at a) (ev_named at b)
    ev_named at (parentheses a) pre = ev_named at a pre
    ev_named at (list ts) pre = listed_named pre (ev_each x at ts) (each_named at ts)
    ev_named at (call n ts) pre = called_named pre (function_of n) (count_of ts) (ev_each x at ts) (each_named at ts)
    ev_named at (attribute a n) pre = seq_named pre (ev x at a) (λ v. attribute_of x n v) (ev_named at a pre) (λ v. attribute_named (pre ++ reads_of (ev x at a).notes) n v)
    ev_named at (every t) pre = all_rows_named pre t
    ev_named at (lookup k t ks) pre = seq_named {B = CellValue} pre (looked_up x t (forms_of ks) (ev_keys x at ks)) _ (looked_up_named pre t (forms_of ks) (ev_keys x at ks) (keys_are_named at ks)) (λ rs. tt)
    ev_named at (atom a) pre = tt

    each_named : (at : RowRef) (ts : Trees) → AreNamed (ev_each x at ts)
    each_named at no_trees = tt
    each_named at (one_more t ts) = (ev_named at t, each_named at ts)

    keys_are_named : (at : RowRef) (ks : Keys) → AreNamed (ev_keys x at ks)
    keys_are_named at no_keys = tt
    keys_are_named at (one_key n t ks) =
        (λ pre. elim (is_containing t) as (λ b. Named x pre (cond b (argument (ev_arguments x at t) 0) (ev x at t))) [ true ↦ argument_named (ev_arguments x at t) 0 (arguments_named at t) pre | false ↦ ev_named at t pre ], keys_are_named at ks)

    arguments_named : (at : RowRef) (t : Tree) → AreNamed (ev_arguments x at t)
    arguments_named at (number n) = tt
    arguments_named at (text s) = tt
    arguments_named at (constant c) = tt
    arguments_named at (dollar n) = tt
    arguments_named at (binary o a b) = tt
    arguments_named at (prefix o a) = tt
    arguments_named at (conditional a c b) = tt
    arguments_named at (parentheses a) = tt
    arguments_named at (list ts) = tt
    arguments_named at (call n ts) = each_named at ts
    arguments_named at (attribute a n) = tt
    arguments_named at (every t) = tt
    arguments_named at (lookup k t ks) = tt
    arguments_named at (atom a) = tt

  result_named : (pre : List Read) (v : CellValue) → Named x pre (done (as_result v))
  result_named pre v = elim (is_too_long v) as (λ b. Named x pre (done (cond b (raises err.Overflow) (gives v)))) [ true ↦ tt | false ↦ tt ]

  -- the same of whole formulas
  pub evaluated_named : (at : RowRef) (f : Tree) (pre : List Read) → Named x pre (evaluated x at f)
  evaluated_named at f pre = seq_named pre (ev x at f) _ (ev_named at f pre) (λ v. result_named (pre ++ reads_of (ev x at f).notes) v)
