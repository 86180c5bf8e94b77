-- Notes that stand together.
use Rattle.std.proofs.Common.{Result, Ok, Err, OnOk, ℕ, zero, suc, List, [], ◌∷◌, ◌++◌, ◌+◌, ◌<◌, map, take, get_or, length, slice_set, slice_index_or, Some, ◌≡◌, refl, sym, ap, ◌∙◌, subst, arith}
use Rattle.std.specs.Option.{option_map}
use Rattle.cell_types.specs.declared.cell.Read.TheVariants.{Cell, Key, Rows}
use Rattle.formula_eval.specs.declared.note.Note.{Note}
use Rattle.formula_eval.specs.declared.note.Note.TheVariants as note
use Rattle.dep_graph.specs.declared.runs.NoteRun.{NoteRun}
use Rattle.formula_eval.specs.Reader.{cell_at}
use Rattle.dep_graph.specs.declared.numbers.ColumnNumber.{ColumnNumber}
use Rattle.dep_graph.specs.declared.numbers.ReadNumber.{ReadNumber}
use Rattle.dep_graph.specs.declared.numbers.ReadNumber.TheVariants as read
use Rattle.dep_graph.specs.NumberLaws.{cell_with}
use Rattle.dep_graph.specs.Sources.{AreNumbers, Source, column_in, read_source, sources, sources_of}
use Rattle.dep_graph.specs.Runs.{more_cells, notes_after, notes_in, notes_of}
use Rattle.dep_graph.proofs.NameLaws.{append_assoc, append_none, numbers_more}

-- a run more
pub notes_push : (runs : List NoteRun) (run : NoteRun) → notes_in (runs ++ run ∷ []) ≡ notes_in runs ++ notes_of run
notes_push [] run = append_none (notes_of run)
notes_push (x ∷ runs) run = ap (λ l. notes_of x ++ l) (notes_push runs run) ∙ sym (append_assoc (notes_of x) (notes_in runs) (notes_of run))

cells_more : (t c : List ℕ) (rows : List ℕ) (r : ℕ) → more_cells t c (rows ++ r ∷ []) ≡ more_cells t c rows ++ more_cells t c (r ∷ [])
cells_more t c [] r = refl
cells_more t c (x ∷ rows) r = ap (λ l. more_cells t c (x ∷ []) ++ l) (cells_more t c rows r)

after_more : (m : Note) (rows : List ℕ) (r : ℕ) → notes_after m (rows ++ r ∷ []) ≡ notes_after m rows ++ notes_after m (r ∷ [])
after_more (note.Read (Cell c)) rows r = cells_more c.table c.column rows r
after_more (note.Read (Key t c)) rows r = refl
after_more (note.Read (Rows t)) rows r = refl
after_more (note.All t) rows r = refl
after_more (note.Met t ks) rows r = refl

-- a row more in a run
pub notes_of_more : (last new : NoteRun) (r : ℕ) (n : Note) → new.note ≡ last.note → new.more.items ≡ last.more.items ++ r ∷ [] → notes_after last.note (r ∷ []) ≡ n ∷ [] → notes_of new ≡ notes_of last ++ n ∷ []
notes_of_more last new r n same more is =
    ap (λ m. m ∷ notes_after m new.more.items) same ∙ ap (λ l. last.note ∷ notes_after last.note l) more
    ∙ ap (λ l. last.note ∷ l) (after_more last.note last.more.items r ∙ ap (λ l. notes_after last.note last.more.items ++ l) is)

-- so in the last one
pub notes_last : (runs : List NoteRun) (i : ℕ) (last new : NoteRun) (n : Note) → i + 1 ≡ length runs → last ≡ slice_index_or runs i last → notes_of new ≡ notes_of last ++ n ∷ [] → notes_in (slice_set runs i new) ≡ notes_in runs ++ n ∷ []
notes_last [] i last new n size at more = absurd (omega (arith, size))
notes_last (x ∷ []) zero last new n size at more =
    append_none (notes_of new) ∙ more ∙ ap (λ y. notes_of y ++ n ∷ []) at ∙ ap (λ l. l ++ n ∷ []) (sym (append_none (notes_of x)))
notes_last (x ∷ y ∷ runs) zero last new n size at more = absurd (omega (arith, size))
notes_last (x ∷ runs) (suc i) last new n size at more =
    let fewer : i + 1 ≡ length runs = omega (arith, size) in
    ap (λ l. notes_of x ++ l) (notes_last runs i last new n fewer at more) ∙ sym (append_assoc (notes_of x) (notes_in runs) (n ∷ []))

none_after : (m : Note) → notes_after m [] ≡ []
none_after (note.Read (Cell c)) = refl
none_after (note.Read (Key t c)) = refl
none_after (note.Read (Rows t)) = refl
none_after (note.All t) = refl
none_after (note.Met t ks) = refl

-- a note alone
pub note_alone : (run : NoteRun) → run.more.items ≡ [] → notes_of run ≡ run.note ∷ []
note_alone run none = ap (λ l. run.note ∷ l) (ap (notes_after run.note) none ∙ none_after run.note)

-- what holds after an answer
pub on_ok : {A E : Type 0} {P Q : Type 0} (r : Result A E) → (P → Q) → OnOk r P → OnOk r Q
on_ok (Ok x) f h = f h
on_ok (Err e) f h = tt

-- ---- what is read

sources_append : (a b : List Note) → sources (a ++ b) ≡ sources a ++ sources b
sources_append [] b = refl
sources_append (n ∷ a) b = ap (λ l. sources_of n ++ l) (sources_append a b) ∙ sym (append_assoc (sources_of n) (sources a) (sources b))

-- cells of a column that has a number
pub numbers_of_cells : (names : List (List ℕ)) (t c : List ℕ) (k : ColumnNumber) → column_in names t c ≡ Some k → (rows : List ℕ) (done : List Source) (reads : List ReadNumber) → AreNumbers names done reads
    → AreNumbers names (done ++ sources (more_cells t c rows)) (reads ++ map (λ r. read.Cell (cell_with k r)) rows)
numbers_of_cells names t c k is [] done reads h = subst (AreNumbers names (done ++ [])) (sym (append_none reads)) (subst (λ l. AreNumbers names l reads) (sym (append_none done)) h)
numbers_of_cells names t c k is (r ∷ rows) done reads h =
    let s = read_source (Cell (cell_at t c r)) in
    let q = read.Cell (cell_with k r) in
    let next = numbers_of_cells names t c k is rows (done ++ s ∷ []) (reads ++ q ∷ []) (numbers_more names done reads s q h (ap (λ o. option_map read.Cell (option_map (λ j. cell_with j r) o)) is)) in
    subst (AreNumbers names (done ++ s ∷ sources (more_cells t c rows))) (append_assoc reads (q ∷ []) (map (λ r. read.Cell (cell_with k r)) rows))
    (subst (λ l. AreNumbers names l ((reads ++ q ∷ []) ++ map (λ r. read.Cell (cell_with k r)) rows)) (append_assoc done (s ∷ []) (sources (more_cells t c rows))) next)

-- a note, and those that follow it
pub sources_of_run : (run : NoteRun) (done : List Source) → (done ++ sources_of run.note) ++ sources (notes_after run.note run.more.items) ≡ done ++ sources (notes_of run)
sources_of_run run done = append_assoc done (sources_of run.note) (sources (notes_after run.note run.more.items))

-- what the first runs read, and the next one
pub runs_more : (runs : List NoteRun) (i : ℕ) (x : NoteRun) → i < length runs → x ≡ get_or runs i x → sources (notes_in (take i runs)) ++ sources (notes_of x) ≡ sources (notes_in (take (i + 1) runs))
runs_more runs i x l e =
    let next : suc i ≡ i + 1 = omega arith in
    sym (sources_append (notes_in (take i runs)) (notes_of x)) ∙ ap sources (more runs i l e) ∙ ap (λ n. sources (notes_in (take n runs))) next
  where
    more : (runs : List NoteRun) (i : ℕ) → i < length runs → x ≡ get_or runs i x → notes_in (take i runs) ++ notes_of x ≡ notes_in (take (suc i) runs)
    more [] i l e = absurd (omega arith)
    more (y ∷ runs) zero l e = ap notes_of e ∙ sym (append_none (notes_of y))
    more (y ∷ runs) (suc i) l e = append_assoc (notes_of y) (notes_in (take i runs)) (notes_of x) ∙ ap (λ r. notes_of y ++ r) (more runs i (omega arith) e)

-- reads of the cells of a column that stand together
pub notes_together : (run : NoteRun) (t c : List ℕ) (r : ℕ) (others rows : List ℕ) → run.note ≡ note.Read (Cell (cell_at t c r)) → run.more.items ≡ others → rows ≡ r ∷ others
    → notes_of run ≡ more_cells t c rows
notes_together run t c r others rows is more all =
    ap (λ n. n ∷ notes_after n run.more.items) is ∙ ap (λ l. more_cells t c (r ∷ l)) more ∙ ap (more_cells t c) (sym all)
