-- The evaluator over two readers.
use Rattle.std.proofs.Common.{ℕ, zero, suc, pos, Bool, true, false, ◌&&◌, ◌||◌, cond, List, [], ◌∷◌, ◌≡◌, refl, sym, ap, Option, Some, None, map}
use Rattle.std.proofs.lemmas.Bool.{false≢true}
use Rattle.std.specs.List.{AllByRecursion, list_all}
use Rattle.std.specs.Option.{is_some}
use Rattle.cell_types.specs.declared.cell.CellId.{CellId}
use Rattle.cell_types.specs.declared.cell.KeyItem.{KeyItem}
use Rattle.formula_eval.specs.declared.note.Note.TheVariants as note
use Rattle.cell_types.specs.declared.cell.Read.TheVariants.{Cell, Rows}
use Rattle.cell_types.specs.declared.value.CellValue.{CellValue}
use Rattle.cell_types.specs.declared.value.CellValue.TheVariants as value
use Rattle.cell_types.specs.declared.value.ErrKind.TheVariants as err
use Rattle.cell_types.specs.declared.value.RowRef.{RowRef}
use Rattle.cell_types.specs.Reference.{row_items}
use Rattle.formula_parse.specs.declared.operator.BinaryOp.{BinaryOp}
use Rattle.formula_parse.specs.Lexemes.{is_id}
use Rattle.formula_parse.specs.Tree.{Tree, number, text, constant, dollar, binary, prefix, conditional, parentheses, list, call, attribute, every, lookup, atom, Trees, no_trees, one_more, Keys, no_keys, one_key}
use Rattle.value_ops.specs.Joined.{bounded_list}
use Rattle.value_ops.specs.Numbers.{in_64_bits}
use Rattle.value_ops.specs.Truth.{truth_of}
use Rattle.formula_eval.specs.declared.function.Function.{Function}
use Rattle.formula_eval.specs.declared.function.Function.TheVariants as fn
use Rattle.formula_eval.specs.Reader.{Reader, cell_at}
use Rattle.formula_eval.specs.Run.{Stop, Out, gives, raises, Run, out_of, done, after, seq, collect}
use Rattle.formula_eval.specs.Reading.{told_out, value_in, read_cell}
use Rattle.formula_eval.specs.Attribute.{item_of, as_item, listed, column_runs, attribute_of}
use Rattle.formula_eval.specs.Operator.{is_decided, operated, combined, prefixed, chosen, constant_value}
use Rattle.formula_eval.specs.Function.{function_of, applied}
use Rattle.formula_eval.specs.Call.{takes, argument, run_function, called}
use Rattle.formula_eval.specs.Lookup.{in_table, is_key_column, with_columns, KeyForm, columns_of, keyed, key_notes, matched, met, opened, looked_up, found, all_rows}
use Rattle.formula_eval.specs.Eval.{is_containing, count_of, forms_of, ev, ev_each, ev_keys, ev_arguments, as_result, evaluated}
use Rattle.formula_eval.specs.Likeness.{IsAlikeNote, IsAlike, AreAlike}
use Rattle.formula_eval.proofs.Alike.{done_alike, done_same, note_alike, notes_alike, seq_alike, or_else_alike, collect_alike}

module _ (L : Stop → Type 0) (R : Type 0) (x y : Reader) where
  Alike : {A : Type 0} → Run A → Run A → Type 0
  Alike a b = IsAlike L R x y a b

  same : {A : Type 0} (o : Out A) → IsAlike L R x y (done o) (done o)
  same o = done_same L R x y o o refl

  read_cell_alike : (c : CellId) → IsAlike L R x y (read_cell x c) (read_cell y c)
  read_cell_alike c =
      note_alike L R x y (note.Read (Cell c)) (seq (done (told_out c (x.cell c))) (λ o. done (value_in (x.kind c.table c.column) o))) (seq (done (told_out c (y.cell c))) (λ o. done (value_in (y.kind c.table c.column) o)))
      (λ h. seq_alike L R x y (done (told_out c (x.cell c))) (done (told_out c (y.cell c))) (λ o. done (value_in (x.kind c.table c.column) o)) (λ o. done (value_in (y.kind c.table c.column) o))
      (done_alike L R x y (told_out c (x.cell c)) (told_out c (y.cell c)) h.1)
      (λ o. done_same L R x y (value_in (x.kind c.table c.column) o) (value_in (y.kind c.table c.column) o) (ap (λ k. value_in k o) h.0)))

  items_alike : (l m : List (Run CellValue)) → AreAlike L R x y l m → AreAlike L R x y (map as_item l) (map as_item m)
  items_alike [] [] h = tt
  items_alike [] (b ∷ m) h = absurd h
  items_alike (a ∷ l) [] h = absurd h
  items_alike (a ∷ l) (b ∷ m) h = (seq_alike L R x y a b _ _ h.0 (λ v. same (item_of v)), items_alike l m h.1)

  listed_alike : (l m : List (Run CellValue)) → AreAlike L R x y l m → IsAlike L R x y (listed l) (listed m)
  listed_alike l m h =
      seq_alike L R x y (collect (map as_item l)) (collect (map as_item m)) _ _ (collect_alike L R x y (map as_item l) (map as_item m) (items_alike l m h))
      (λ is. same (out_of (bounded_list is)))

  column_alike : (t c : List ℕ) (rows : List ℕ) → AreAlike L R x y (column_runs x t c rows) (column_runs y t c rows)
  column_alike t c [] = tt
  column_alike t c (r ∷ rows) = (read_cell_alike (cell_at t c r), column_alike t c rows)

  no_attribute : IsAlike L R x y (done {A = CellValue} (raises err.Attribute)) (done (raises err.Attribute))
  no_attribute = done_same L R x y {A = CellValue} (raises err.Attribute) (raises err.Attribute) refl

  attribute_alike : (n : List ℕ) (v : CellValue) → IsAlike L R x y (attribute_of x n v) (attribute_of y n v)
  attribute_alike n (value.Rec r) =
      elim (is_id n) as (λ b. IsAlike L R x y (cond b (done (gives (value.Int (pos r.row)))) (read_cell x (cell_at r.table n r.row))) (cond b (done (gives (value.Int (pos r.row)))) (read_cell y (cell_at r.table n r.row))))
      [ true ↦ same (gives (value.Int (pos r.row))) | false ↦ read_cell_alike (cell_at r.table n r.row) ]
  attribute_alike n (value.RecSet s) =
      elim (is_id n) as (λ b. IsAlike L R x y (cond b (done (out_of (bounded_list (row_items s.rows)))) (listed (column_runs x s.table n s.rows))) (cond b (done (out_of (bounded_list (row_items s.rows)))) (listed (column_runs y s.table n s.rows))))
      [ true ↦ same (out_of (bounded_list (row_items s.rows))) | false ↦ listed_alike (column_runs x s.table n s.rows) (column_runs y s.table n s.rows) (column_alike s.table n s.rows) ]
  attribute_alike n value.Null = no_attribute
  attribute_alike n (value.Int m) = no_attribute
  attribute_alike n (value.Bool b) = no_attribute
  attribute_alike n (value.Text t) = no_attribute
  attribute_alike n (value.Date d) = no_attribute
  attribute_alike n (value.List is) = no_attribute
  attribute_alike n (value.Err e) = no_attribute
  attribute_alike n value.Censored = no_attribute

  combined_alike : (o : BinaryOp) (a b c d : Run CellValue) → IsAlike L R x y a b → IsAlike L R x y c d → IsAlike L R x y (combined o a c) (combined o b d)
  combined_alike o a b c d h g =
      seq_alike L R x y a b _ _ h (λ v. elim (is_decided o v) as (λ q. IsAlike L R x y (cond q (done (gives v)) (seq c (λ w. done (operated o v w)))) (cond q (done (gives v)) (seq d (λ w. done (operated o v w)))))
      [ true ↦ same (gives v) | false ↦ seq_alike L R x y c d _ _ g (λ w. same (operated o v w)) ])

  chosen_alike : (t u a b c d : Run CellValue) → IsAlike L R x y t u → IsAlike L R x y a b → IsAlike L R x y c d → IsAlike L R x y (chosen t a c) (chosen u b d)
  chosen_alike t u a b c d h g k =
      seq_alike L R x y t u _ _ h (λ v. elim (truth_of v) as (λ q. IsAlike L R x y (cond q a c) (cond q b d)) [ true ↦ g | false ↦ k ])

  argument_alike : (l m : List (Run CellValue)) (i : ℕ) → AreAlike L R x y l m → IsAlike L R x y (argument l i) (argument m i)
  argument_alike [] [] i h = same (gives (value.Text []))
  argument_alike [] (b ∷ m) i h = absurd h
  argument_alike (a ∷ l) [] i h = absurd h
  argument_alike (a ∷ l) (b ∷ m) zero h = h.0
  argument_alike (a ∷ l) (b ∷ m) (suc i) h = argument_alike l m i h.1

  all_alike : (f : Function) (l m : List (Run CellValue)) → AreAlike L R x y l m → IsAlike L R x y (seq (collect l) (λ vs. done (out_of (applied f vs)))) (seq (collect m) (λ vs. done (out_of (applied f vs))))
  all_alike f l m h = seq_alike L R x y (collect l) (collect m) _ _ (collect_alike L R x y l m h) (λ vs. same (out_of (applied f vs)))

  function_alike : (f : Function) (l m : List (Run CellValue)) → AreAlike L R x y l m → IsAlike L R x y (run_function f l) (run_function f m)
  function_alike fn.If l m h = chosen_alike (argument l 0) (argument m 0) (argument l 1) (argument m 1) (argument l 2) (argument m 2) (argument_alike l m 0 h) (argument_alike l m 1 h) (argument_alike l m 2 h)
  function_alike fn.IfError l m h = or_else_alike L R x y (argument l 0) (argument m 0) (argument l 1) (argument m 1) (argument_alike l m 0 h) (argument_alike l m 1 h)
  function_alike fn.Sum l m h = all_alike fn.Sum l m h
  function_alike fn.Min l m h = all_alike fn.Min l m h
  function_alike fn.Max l m h = all_alike fn.Max l m h
  function_alike fn.Len l m h = all_alike fn.Len l m h
  function_alike fn.Abs l m h = all_alike fn.Abs l m h
  function_alike fn.Str l m h = all_alike fn.Str l m h
  function_alike fn.Bool l m h = all_alike fn.Bool l m h

  called_alike : (f : Option Function) (n : ℕ) (l m : List (Run CellValue)) → AreAlike L R x y l m → IsAlike L R x y (called f n l) (called f n m)
  called_alike None n l m h = done_same L R x y {A = CellValue} (raises err.Name) (raises err.Name) refl
  called_alike (Some f) n l m h =
      elim (takes f n) as (λ b. IsAlike L R x y (cond b (run_function f l) (done (raises err.WrongType))) (cond b (run_function f m) (done (raises err.WrongType))))
      [ true ↦ function_alike f l m h | false ↦ done_same L R x y {A = CellValue} (raises err.WrongType) (raises err.WrongType) refl ]

  columns_same : (t : List ℕ) (cs : List (List ℕ)) → AllByRecursion (IsAlikeNote L R x y) (key_notes t cs) → list_all (λ c. is_key_column x t c) cs ≡ list_all (λ c. is_key_column y t c) cs
  columns_same t [] h = refl
  columns_same t (c ∷ cs) h = λ i. (is_id c || is_some (h.0 i)) && columns_same t cs h.1 i

  opened_alike : (t : List ℕ) (cs : List (List ℕ)) → IsAlike L R x y (opened x t cs) (opened y t cs)
  opened_alike t cs = note_alike L R x y (note.Read (Rows t)) _ _ (there (x.rows t) (y.rows t))
    where
      -- which rows a table has is not looked at here, but that it is there
      there : (o p : Option (List ℕ)) → is_some o ≡ is_some p
          → IsAlike L R x y (seq (done (in_table o)) (λ rs. after (key_notes t cs) (done (with_columns x t cs)))) (seq (done (in_table p)) (λ rs. after (key_notes t cs) (done (with_columns y t cs))))
      there None None e = done_same L R x y {A = Bool} (raises err.Name) (raises err.Name) refl
      there None (Some q) e = absurd (false≢true e)
      there (Some q) None e = absurd (false≢true (sym e))
      there (Some q) (Some r) e =
          notes_alike L R x y (key_notes t cs) (done (with_columns x t cs)) (done (with_columns y t cs))
          (λ keys. done_same L R x y (with_columns x t cs) (with_columns y t cs) (ap (λ b. cond b (gives true) (raises err.Key)) (columns_same t cs keys)))

  keys_met_alike : (t : List ℕ) (ks : List KeyItem) → IsAlike L R x y (met x t ks) (met y t ks)
  keys_met_alike t ks = note_alike L R x y (note.Met t ks) (done (matched x t ks)) (done (matched y t ks)) (done_alike L R x y (matched x t ks) (matched y t ks))

  looked_up_alike : (t : List ℕ) (fs : List KeyForm) (l m : List (Run CellValue)) → AreAlike L R x y l m → IsAlike L R x y (looked_up x t fs l) (looked_up y t fs m)
  looked_up_alike t fs l m h =
      seq_alike L R x y (opened x t (columns_of fs)) (opened y t (columns_of fs)) _ _ (opened_alike t (columns_of fs))
      (λ b. seq_alike L R x y (collect l) (collect m) _ _ (collect_alike L R x y l m h)
      (λ vs. keys_met_alike t (keyed fs vs)))

  all_rows_alike : (t : List ℕ) → IsAlike L R x y (all_rows x t) (all_rows y t)
  all_rows_alike t =
      notes_alike L R x y (note.Read (Rows t) ∷ note.All t ∷ []) _ _
      (λ rows. seq_alike L R x y (done (in_table (x.rows t))) (done (in_table (y.rows t))) _ _ (done_same L R x y (in_table (x.rows t)) (in_table (y.rows t)) (ap in_table rows.1.0))
      (λ rs. same (gives (value.RecSet (record { table = t; rows = rs })))))

  mutual
    -- the evaluator runs alike over readers that are alike at the reads of the first run
    pub ev_alike : (at : RowRef) (f : Tree) → IsAlike L R x y (ev x at f) (ev y at f)
    ev_alike at (number n) = same (out_of (in_64_bits (pos n)))
    ev_alike at (text s) = same (gives (value.Text s))
    ev_alike at (constant c) = same (gives (constant_value at c))
    ev_alike at (dollar n) = attribute_alike n (value.Rec at)
    ev_alike at (binary o a b) = combined_alike o (ev x at a) (ev y at a) (ev x at b) (ev y at b) (ev_alike at a) (ev_alike at b)
    ev_alike at (prefix o a) = seq_alike L R x y (ev x at a) (ev y at a) _ _ (ev_alike at a) (λ v. same (prefixed o v))
    ev_alike at (conditional a c b) = chosen_alike (ev x at c) (ev y at c) (ev x at a) (ev y at a) (ev x at b) (ev y at b) (ev_alike at c) (ev_alike at a) (ev_alike at b)
    ev_alike at (parentheses a) = ev_alike at a
    ev_alike at (list ts) = listed_alike (ev_each x at ts) (ev_each y at ts) (each_alike at ts)
    ev_alike at (call n ts) = called_alike (function_of n) (count_of ts) (ev_each x at ts) (ev_each y at ts) (each_alike at ts)
    ev_alike at (attribute a n) = seq_alike L R x y (ev x at a) (ev y at a) (λ v. attribute_of x n v) (λ v. attribute_of y n v) (ev_alike at a) (attribute_alike n)
    ev_alike at (every t) = all_rows_alike t
    ev_alike at (lookup k t ks) = seq_alike L R x y (looked_up x t (forms_of ks) (ev_keys x at ks)) (looked_up y t (forms_of ks) (ev_keys y at ks)) _ _ (looked_up_alike t (forms_of ks) (ev_keys x at ks) (ev_keys y at ks) (keys_alike at ks)) (λ rs. same (gives (found k t rs)))
    ev_alike at (atom a) = done_same L R x y {A = CellValue} (raises err.Syntax) (raises err.Syntax) refl

    each_alike : (at : RowRef) (ts : Trees) → AreAlike L R x y (ev_each x at ts) (ev_each y at ts)
    each_alike at no_trees = tt
    each_alike at (one_more t ts) = (ev_alike at t, each_alike at ts)

    keys_alike : (at : RowRef) (ks : Keys) → AreAlike L R x y (ev_keys x at ks) (ev_keys y at ks)
    keys_alike at no_keys = tt
    keys_alike at (one_key n t ks) = (
      elim (is_containing t) as (λ b. IsAlike L R x y (cond b (argument (ev_arguments x at t) 0) (ev x at t)) (cond b (argument (ev_arguments y at t) 0) (ev y at t)))
          [ true ↦ argument_alike (ev_arguments x at t) (ev_arguments y at t) 0 (arguments_alike at t) | false ↦ ev_alike at t ],
      keys_alike at ks,
    )

    arguments_alike : (at : RowRef) (t : Tree) → AreAlike L R x y (ev_arguments x at t) (ev_arguments y at t)
    arguments_alike at (number n) = tt
    arguments_alike at (text s) = tt
    arguments_alike at (constant c) = tt
    arguments_alike at (dollar n) = tt
    arguments_alike at (binary o a b) = tt
    arguments_alike at (prefix o a) = tt
    arguments_alike at (conditional a c b) = tt
    arguments_alike at (parentheses a) = tt
    arguments_alike at (list ts) = tt
    arguments_alike at (call n ts) = each_alike at ts
    arguments_alike at (attribute a n) = tt
    arguments_alike at (every t) = tt
    arguments_alike at (lookup k t ks) = tt
    arguments_alike at (atom a) = tt

  -- the same of whole formulas
  pub evaluated_alike : (at : RowRef) (f : Tree) → IsAlike L R x y (evaluated x at f) (evaluated y at f)
  evaluated_alike at f = seq_alike L R x y (ev x at f) (ev y at f) _ _ (ev_alike at f) (λ v. same (as_result v))
