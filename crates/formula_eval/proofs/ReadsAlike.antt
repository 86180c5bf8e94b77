-- Readers that tell the same at what the evaluator reads tell the same at all that it notes.
use Rattle.std.proofs.Common.{ℕ, zero, suc, pos, Bool, true, false, cond, List, [], ◌∷◌, ◌++◌, ap, subst, Option, Some, None, map}
use Rattle.std.specs.List.{AllByRecursion}
use Rattle.std.specs.Option.{is_some}
use Rattle.std.proofs.lemmas.List.{append-nil}
use Rattle.cell_types.specs.declared.cell.CellId.{CellId}
use Rattle.cell_types.specs.declared.cell.KeyItem.{KeyItem}
use Rattle.cell_types.specs.declared.cell.Read.{Read}
use Rattle.formula_eval.specs.declared.note.Note.{Note}
use Rattle.formula_eval.specs.declared.note.Note.TheVariants as note
use Rattle.cell_types.specs.declared.cell.Read.TheVariants.{Cell, Key, Rows}
use Rattle.cell_types.specs.declared.value.CellValue.{CellValue}
use Rattle.cell_types.specs.declared.value.CellValue.TheVariants as value
use Rattle.cell_types.specs.declared.value.ErrKind.TheVariants as err
use Rattle.cell_types.specs.declared.value.RowRef.{RowRef}
use Rattle.cell_types.specs.Reference.{row_items}
use Rattle.formula_parse.specs.declared.operator.BinaryOp.{BinaryOp}
use Rattle.formula_parse.specs.declared.operator.LookupKind.TheVariants as look
use Rattle.formula_parse.specs.Lexemes.{is_id}
use Rattle.formula_parse.specs.Tree.{Tree, number, text, constant, dollar, binary, prefix, conditional, parentheses, list, call, attribute, every, lookup, atom, Trees, no_trees, one_more, Keys, no_keys, one_key}
use Rattle.value_ops.specs.Joined.{bounded_list}
use Rattle.value_ops.specs.Truth.{truth_of}
use Rattle.formula_eval.specs.declared.function.Function.{Function}
use Rattle.formula_eval.specs.declared.function.Function.TheVariants as fn
use Rattle.formula_eval.specs.Reader.{Reader, cell_at}
use Rattle.formula_eval.specs.Run.{Stop, Out, gives, raises, stops, Run, out_of, done, after, onward, seq, caught, collect, reads_of}
use Rattle.formula_eval.specs.Reading.{told_out, value_in, read_cell}
use Rattle.formula_eval.specs.Attribute.{item_of, as_item, listed, column_runs, attribute_of}
use Rattle.formula_eval.specs.Operator.{is_decided, operated, combined, prefixed, chosen}
use Rattle.formula_eval.specs.Function.{function_of, applied}
use Rattle.formula_eval.specs.Call.{takes, argument, run_function, called}
use Rattle.formula_eval.specs.Lookup.{in_table, with_columns, KeyForm, columns_of, keyed, key_notes, met, opened, looked_up, found, all_rows}
use Rattle.formula_eval.specs.Eval.{is_containing, count_of, forms_of, ev, ev_each, ev_keys, ev_arguments, as_result, evaluated}
use Rattle.formula_eval.specs.Likeness.{IsJoined, IsAlikeNote, IsAlikeRead}
use Rattle.formula_eval.proofs.Notes.{all_append, all_join, reads_of-append, IsGives}
use Rattle.formula_eval.proofs.MatchedAlike.{matched_alike}

-- what holds at each read among notes holds, in another form, at each note: of rows that are all taken by the read of
-- rows, and of keys that are met by that and the reads of their columns
module _ (P : Read → Type 0) (Q : Note → Type 0) (of_read : (q : Read) → P q → Q (note.Read q)) (of_all : (t : List ℕ) → P (Rows t) → Q (note.All t))
    (of_met : (t : List ℕ) (ks : List KeyItem) → P (Rows t) → AllByRecursion (λ k. P (Key t k.column)) ks → Q (note.Met t ks)) (x : Reader) where
  abbrev AtReads : List Note → Type 0
  AtReads l = AllByRecursion P (reads_of l)

  abbrev AtNotes : List Note → Type 0
  AtNotes l = AllByRecursion Q l

  -- what is told alike at the reads among notes is told alike at them all
  abbrev Covers : List Note → Type 0
  Covers l = AtReads l → AtNotes l

  split : (l m : List Note) → AtReads (l ++ m) → AtReads l × AtReads m
  split l m all = all_append P (reads_of l) (reads_of m) (subst (λ qs. AllByRecursion P qs) (reads_of-append l m) all)

  onward_covers : {A B : Type 0} (o : Out A) (l : List Note) (k : A → Run B) → Covers l → ((v : A) → IsGives o → AtReads l → Covers (k v).notes) → Covers (onward o l k).notes
  onward_covers (gives v) l k h each all =
      let parts = split l (k v).notes all in
      all_join Q l (k v).notes (h parts.0) (each v tt parts.0 parts.1)
  onward_covers (raises e) l k h each all = h all
  onward_covers (stops s) l k h each all = h all

  seq_covers : {A B : Type 0} (a : Run A) (k : A → Run B) → Covers a.notes → ((v : A) → Covers (k v).notes) → Covers (seq a k).notes
  seq_covers a k h each = onward_covers a.out a.notes k h (λ v _ _. each v)

  -- after notes that are covered
  after_covers : {A : Type 0} (l : List Note) (a : Run A) → Covers l → Covers a.notes → Covers (after l a).notes
  after_covers l a h g all =
      let parts = split l a.notes all in
      all_join Q l a.notes (h parts.0) (g parts.1)

  caught_covers : {A : Type 0} (o : Out A) (l : List Note) (b : Run A) → Covers l → Covers b.notes → Covers (caught o l b).notes
  caught_covers (gives v) l b h g all = h all
  caught_covers (raises e) l b h g all = after_covers l b h g all
  caught_covers (stops s) l b h g all = h all

  no_notes : Covers []
  no_notes all = tt

  abbrev AreCovered : {A : Type 0} → List (Run A) → Type 0
  AreCovered [] = Unit {0}
  AreCovered (a ∷ rest) = Covers a.notes × AreCovered rest

  collect_covers : {A : Type 0} (l : List (Run A)) → AreCovered l → Covers (collect l).notes
  collect_covers [] h = no_notes
  collect_covers {A} (a ∷ rest) h =
      seq_covers {B = List A} a _ h.0 (λ v. seq_covers {B = List A} (collect rest) _ (collect_covers rest h.1) (λ vs. no_notes))

  read_covers : (c : CellId) → Covers (read_cell x c).notes
  read_covers c =
      after_covers (note.Read (Cell c) ∷ []) (seq (done (told_out c (x.cell c))) (λ o. done (value_in (x.kind c.table c.column) o))) (λ all. (of_read (Cell c) all.0, tt))
      (seq_covers (done (told_out c (x.cell c))) (λ o. done (value_in (x.kind c.table c.column) o)) no_notes (λ o. no_notes))

  items_covered : (l : List (Run CellValue)) → AreCovered l → AreCovered (map as_item l)
  items_covered [] h = tt
  items_covered (a ∷ l) h = (seq_covers a (λ v. done (item_of v)) h.0 (λ v. no_notes), items_covered l h.1)

  listed_covers : (l : List (Run CellValue)) → AreCovered l → Covers (listed l).notes
  listed_covers l h = seq_covers (collect (map as_item l)) (λ is. done (out_of (bounded_list is))) (collect_covers (map as_item l) (items_covered l h)) (λ is. no_notes)

  column_covers : (t c : List ℕ) (rows : List ℕ) → AreCovered (column_runs x t c rows)
  column_covers t c [] = tt
  column_covers t c (r ∷ rows) = (read_covers (cell_at t c r), column_covers t c rows)

  attribute_covers : (n : List ℕ) (v : CellValue) → Covers (attribute_of x n v).notes
  attribute_covers n (value.Rec r) =
      elim (is_id n) as (λ b. Covers (cond b (done (gives (value.Int (pos r.row)))) (read_cell x (cell_at r.table n r.row))).notes)
      [ true ↦ no_notes | false ↦ read_covers (cell_at r.table n r.row) ]
  attribute_covers n (value.RecSet s) =
      elim (is_id n) as (λ b. Covers (cond b (done (out_of (bounded_list (row_items s.rows)))) (listed (column_runs x s.table n s.rows))).notes)
      [ true ↦ no_notes | false ↦ listed_covers (column_runs x s.table n s.rows) (column_covers s.table n s.rows) ]
  attribute_covers n value.Null = no_notes
  attribute_covers n (value.Int m) = no_notes
  attribute_covers n (value.Bool b) = no_notes
  attribute_covers n (value.Text t) = no_notes
  attribute_covers n (value.Date d) = no_notes
  attribute_covers n (value.List is) = no_notes
  attribute_covers n (value.Err e) = no_notes
  attribute_covers n value.Censored = no_notes

  combined_covers : (o : BinaryOp) (a b : Run CellValue) → Covers a.notes → Covers b.notes → Covers (combined o a b).notes
  combined_covers o a b h g =
      seq_covers a _ h (λ v. elim (is_decided o v) as (λ q. Covers (cond q (done (gives v)) (seq b (λ w. done (operated o v w)))).notes)
      [ true ↦ no_notes | false ↦ seq_covers b (λ w. done (operated o v w)) g (λ w. no_notes) ])

  chosen_covers : (t a b : Run CellValue) → Covers t.notes → Covers a.notes → Covers b.notes → Covers (chosen t a b).notes
  chosen_covers t a b h g k = seq_covers t _ h (λ v. elim (truth_of v) as (λ q. Covers (cond q a b).notes) [ true ↦ g | false ↦ k ])

  argument_covers : (l : List (Run CellValue)) (i : ℕ) → AreCovered l → Covers (argument l i).notes
  argument_covers [] i h = no_notes
  argument_covers (a ∷ l) zero h = h.0
  argument_covers (a ∷ l) (suc i) h = argument_covers l i h.1

  all_covers : (f : Function) (l : List (Run CellValue)) → AreCovered l → Covers (seq (collect l) (λ vs. done (out_of (applied f vs)))).notes
  all_covers f l h = seq_covers (collect l) (λ vs. done (out_of (applied f vs))) (collect_covers l h) (λ vs. no_notes)

  function_covers : (f : Function) (l : List (Run CellValue)) → AreCovered l → Covers (run_function f l).notes
  function_covers fn.If l h = chosen_covers (argument l 0) (argument l 1) (argument l 2) (argument_covers l 0 h) (argument_covers l 1 h) (argument_covers l 2 h)
  function_covers fn.IfError l h = caught_covers (argument l 0).out (argument l 0).notes (argument l 1) (argument_covers l 0 h) (argument_covers l 1 h)
  function_covers fn.Sum l h = all_covers fn.Sum l h
  function_covers fn.Min l h = all_covers fn.Min l h
  function_covers fn.Max l h = all_covers fn.Max l h
  function_covers fn.Len l h = all_covers fn.Len l h
  function_covers fn.Abs l h = all_covers fn.Abs l h
  function_covers fn.Str l h = all_covers fn.Str l h
  function_covers fn.Bool l h = all_covers fn.Bool l h

  called_covers : (f : Option Function) (n : ℕ) (l : List (Run CellValue)) → AreCovered l → Covers (called f n l).notes
  called_covers None n l h = no_notes
  called_covers (Some f) n l h =
      elim (takes f n) as (λ b. Covers (cond b (run_function f l) (done (raises err.WrongType))).notes) [ true ↦ function_covers f l h | false ↦ no_notes ]

  keys_covered : (t : List ℕ) (cs : List (List ℕ)) → Covers (key_notes t cs)
  keys_covered t [] = no_notes
  keys_covered t (c ∷ cs) = λ all. (of_read (Key t c) all.0, keys_covered t cs all.1)

  rows_covered : (t : List ℕ) → Covers (note.Read (Rows t) ∷ [])
  rows_covered t = λ all. (of_read (Rows t) all.0, tt)

  all_covered : (t : List ℕ) → Covers (note.Read (Rows t) ∷ note.All t ∷ [])
  all_covered t = λ all. (of_read (Rows t) all.0, (of_all t all.0, tt))

  opened_covers : (t : List ℕ) (cs : List (List ℕ)) → Covers (opened x t cs).notes
  opened_covers t cs =
      after_covers (note.Read (Rows t) ∷ []) (seq (done (in_table (x.rows t))) (λ rs. after (key_notes t cs) (done (with_columns x t cs)))) (rows_covered t)
      (seq_covers (done (in_table (x.rows t))) (λ rs. after (key_notes t cs) (done (with_columns x t cs))) no_notes
      (λ rs. after_covers (key_notes t cs) (done (with_columns x t cs)) (keys_covered t cs) no_notes))

  -- once table and columns are there, the rows and the key columns were read
  opened_reads : (t : List ℕ) (cs : List (List ℕ)) (o : Option (List ℕ)) (b : Out Bool)
      → IsGives (after (note.Read (Rows t) ∷ []) (seq (done (in_table o)) (λ rs. after (key_notes t cs) (done b)))).out
      → AtReads (after (note.Read (Rows t) ∷ []) (seq (done (in_table o)) (λ rs. after (key_notes t cs) (done b)))).notes
      → P (Rows t) × AtReads (key_notes t cs)
  opened_reads t cs None b h all = absurd h
  opened_reads t cs (Some rs) b h all = (all.0, subst AtReads (append-nil (key_notes t cs)) all.1)

  keys_hold : (t : List ℕ) (fs : List KeyForm) (vs : List CellValue) → AtReads (key_notes t (columns_of fs)) → AllByRecursion (λ k. P (Key t k.column)) (keyed fs vs)
  keys_hold t [] vs h = tt
  keys_hold t (f ∷ fs) [] h = tt
  keys_hold t (f ∷ fs) (v ∷ vs) h = (h.0, keys_hold t fs vs h.1)

  looked_up_covers : (t : List ℕ) (fs : List KeyForm) (l : List (Run CellValue)) → AreCovered l → Covers (looked_up x t fs l).notes
  looked_up_covers t fs l h =
      onward_covers (opened x t (columns_of fs)).out (opened x t (columns_of fs)).notes _ (opened_covers t (columns_of fs))
      (λ b there reads. seq_covers (collect l) (λ vs. met x t (keyed fs vs)) (collect_covers l h)
      (λ vs all. let told = opened_reads t (columns_of fs) (x.rows t) (with_columns x t (columns_of fs)) there reads in
      (of_met t (keyed fs vs) told.0 (keys_hold t fs vs told.1), tt)))

  all_rows_covers : (t : List ℕ) → Covers (all_rows x t).notes
  all_rows_covers t =
      after_covers (note.Read (Rows t) ∷ note.All t ∷ []) (seq (done (in_table (x.rows t))) (λ rs. done (gives (found look.Records t rs)))) (all_covered t)
      (seq_covers (done (in_table (x.rows t))) (λ rs. done (gives (found look.Records t rs))) no_notes (λ rs. no_notes))

  mutual
    pub ev_covers : (at : RowRef) (f : Tree) → Covers (ev x at f).notes
    ev_covers at (number n) = no_notes
    ev_covers at (text s) = no_notes
    ev_covers at (constant c) = no_notes
    ev_covers at (dollar n) = attribute_covers n (value.Rec at)
    ev_covers at (binary o a b) = combined_covers o (ev x at a) (ev x at b) (ev_covers at a) (ev_covers at b)
    ev_covers at (prefix o a) = seq_covers (ev x at a) (λ v. done (prefixed o v)) (ev_covers at a) (λ v. no_notes)
    ev_covers at (conditional a c b) = chosen_covers (ev x at c) (ev x at a) (ev x at b) (ev_covers at c) (ev_covers at a) (ev_covers at b)
    ev_covers at (parentheses a) = ev_covers at a
    ev_covers at (list ts) = listed_covers (ev_each x at ts) (each_covered at ts)
    ev_covers at (call n ts) = called_covers (function_of n) (count_of ts) (ev_each x at ts) (each_covered at ts)
    ev_covers at (attribute a n) = seq_covers (ev x at a) (λ v. attribute_of x n v) (ev_covers at a) (attribute_covers n)
    ev_covers at (every t) = all_rows_covers t
    ev_covers at (lookup k t ks) = seq_covers (looked_up x t (forms_of ks) (ev_keys x at ks)) (λ rs. done (gives (found k t rs))) (looked_up_covers t (forms_of ks) (ev_keys x at ks) (keys_are_covered at ks)) (λ rs. no_notes)
    ev_covers at (atom a) = no_notes

    each_covered : (at : RowRef) (ts : Trees) → AreCovered (ev_each x at ts)
    each_covered at no_trees = tt
    each_covered at (one_more t ts) = (ev_covers at t, each_covered at ts)

    keys_are_covered : (at : RowRef) (ks : Keys) → AreCovered (ev_keys x at ks)
    keys_are_covered at no_keys = tt
    keys_are_covered at (one_key n t ks) = (
      elim (is_containing t) as (λ b. Covers (cond b (argument (ev_arguments x at t) 0) (ev x at t)).notes)
          [ true ↦ argument_covers (ev_arguments x at t) 0 (arguments_covered at t) | false ↦ ev_covers at t ],
      keys_are_covered at ks,
    )

    arguments_covered : (at : RowRef) (t : Tree) → AreCovered (ev_arguments x at t)
    arguments_covered at (number n) = tt
    arguments_covered at (text s) = tt
    arguments_covered at (constant c) = tt
    arguments_covered at (dollar n) = tt
    arguments_covered at (binary o a b) = tt
    arguments_covered at (prefix o a) = tt
    arguments_covered at (conditional a c b) = tt
    arguments_covered at (parentheses a) = tt
    arguments_covered at (list ts) = tt
    arguments_covered at (call n ts) = each_covered at ts
    arguments_covered at (attribute a n) = tt
    arguments_covered at (every t) = tt
    arguments_covered at (lookup k t ks) = tt
    arguments_covered at (atom a) = tt

  -- the same of whole formulas
  pub evaluated_notes : (at : RowRef) (f : Tree) → AllByRecursion P (reads_of (evaluated x at f).notes) → AllByRecursion Q (evaluated x at f).notes
  evaluated_notes at f = seq_covers (ev x at f) (λ v. done (as_result v)) (ev_covers at f) (λ v. no_notes)

-- readers that tell the same at what a formula reads
module _ (L : Stop → Type 0) (R : Type 0) (joined : IsJoined L) (x y : Reader) where
  at_note : (q : Read) → IsAlikeRead L R x y q → IsAlikeNote L R x y (note.Read q)
  at_note (Cell c) h = h
  at_note (Key t c) h = h.0
  at_note (Rows t) h = ap is_some h

  pub evaluated_covers : (at : RowRef) (f : Tree) → AllByRecursion (IsAlikeRead L R x y) (reads_of (evaluated x at f).notes) → AllByRecursion (IsAlikeNote L R x y) (evaluated x at f).notes
  evaluated_covers = evaluated_notes (IsAlikeRead L R x y) (IsAlikeNote L R x y) at_note (λ t h. h) (matched_alike L R joined x y) x
