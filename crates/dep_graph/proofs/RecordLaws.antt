-- Reads of a cell recorded, and the cells of each read with them.
use Rattle.std.proofs.Common.{Bool, true, false, cond, not, ◌&&◌, ◌||◌, List, [], ◌∷◌, ◌≡◌, refl, sym, ap, ◌∙◌, Option, Vec, Global, Result, Ok, Err, OnErr}
use Rattle.std.proofs.lemmas.Bool.{false≢true, and_parts}
use Rattle.std.specs.Cmp.Lexicographic.{pointwise}
use Rattle.std.specs.Map.{lookup}
use Rattle.doc_model.proofs.Choices.{or_false}
use Rattle.dep_graph.specs.declared.numbers.CellNumber.{CellNumber}
use Rattle.dep_graph.specs.declared.numbers.ReadNumber.{ReadNumber}
use Rattle.dep_graph.specs.Numbers.{is_cell, is_read}
use Rattle.dep_graph.specs.NumberLaws.{same_cell, same_read}
use Rattle.dep_graph.specs.Readers.{ReaderLists, items_of, links}
use Rattle.dep_graph.specs.Records.{holds, reads_under, IsInverse, IsJoined, IsParted, IsRecorded}

-- the reads of one cell replaced
pub recorded_by : (old new : List (CellNumber × Vec ReadNumber Global)) (cell : CellNumber) (o : Option (Vec ReadNumber Global))
    → ((c : CellNumber) → lookup (is_cell c) new ≡ cond (is_cell cell c) o (lookup (is_cell c) old)) → IsRecorded old new cell (items_of o)
recorded_by old new cell o h c =
    ap items_of (h c) ∙ elim (is_cell cell c) as (λ b. items_of (cond b o (lookup (is_cell c) old)) ≡ cond b (items_of o) (reads_under old c)) [ true ↦ refl | false ↦ refl ]

-- nothing joined
pub nothing_joined : (l : ReaderLists) (cell : CellNumber) → IsJoined l l [] cell
nothing_joined l cell q c = sym (or_false (links l q c))

pub recorded_inverse : (old new : List (CellNumber × Vec ReadNumber Global)) (was linked now : ReaderLists) (items kept : List ReadNumber) (cell : CellNumber)
    → IsInverse old was → IsRecorded old new cell items → ((q : ReadNumber) → holds kept q ≡ holds items q)
    → IsJoined was linked items cell → IsParted linked now (reads_under old cell) kept cell → IsInverse new now
recorded_inverse old new was linked now items kept cell inverse recorded same joined parted q c =
    parted q c ∙ ap (λ b. b && not ((holds (reads_under old cell) q && not (holds kept q)) && is_cell cell c)) (joined q c ∙ ap (λ b. b || (holds items q && is_cell cell c)) (inverse q c))
    ∙ ap (λ k. (holds (reads_under old c) q || (holds items q && is_cell cell c)) && not ((holds (reads_under old cell) q && not k) && is_cell cell c)) (same q)
    ∙ by (is_cell cell c) refl
    ∙ ap (λ reads. holds reads q) (sym (recorded c))
  where
    here : (o i : Bool) → ((o || (i && true)) && not ((o && not i) && true)) ≡ i
    here true true = refl
    here true false = refl
    here false true = refl
    here false false = refl

    away : (o i p : Bool) → ((o || (i && false)) && not ((p && not i) && false)) ≡ o
    away true true true = refl
    away true true false = refl
    away true false true = refl
    away true false false = refl
    away false true true = refl
    away false true false = refl
    away false false true = refl
    away false false false = refl

    by : (e : Bool) → is_cell cell c ≡ e → ((holds (reads_under old c) q || (holds items q && e)) && not ((holds (reads_under old cell) q && not (holds items q)) && e)) ≡ holds (cond e items (reads_under old c)) q
    by true is = ap (λ d. (holds (reads_under old c) q || (holds items q && true)) && not ((holds (reads_under old d) q && not (holds items q)) && true)) (same_cell cell c is) ∙ here (holds (reads_under old c) q) (holds items q)
    by false is = away (holds (reads_under old c) q) (holds items q) (holds (reads_under old cell) q)

-- reads that are the same one by one
pub same_reads : (xs ys : List ReadNumber) → pointwise is_read xs ys ≡ true → xs ≡ ys
same_reads [] [] h = refl
same_reads [] (y ∷ ys) h = absurd (false≢true h)
same_reads (x ∷ xs) [] h = absurd (false≢true h)
same_reads (x ∷ xs) (y ∷ ys) h =
    let both = and_parts (is_read x y) (pointwise is_read xs ys) h in
    ap (λ r. r ∷ xs) (same_read x y both.0) ∙ ap (λ rest. y ∷ rest) (same_reads xs ys both.1)

-- the reads that a cell has, recorded
pub recorded_again : (reads : List (CellNumber × Vec ReadNumber Global)) (cell : CellNumber) → IsRecorded reads reads cell (reads_under reads cell)
recorded_again reads cell c = by (is_cell cell c) refl
  where
    by : (e : Bool) → is_cell cell c ≡ e → reads_under reads c ≡ cond e (reads_under reads cell) (reads_under reads c)
    by true is = sym (ap (reads_under reads) (same_cell cell c is))
    by false is = refl

pub err_any : {A E P : Type 0} (r : Result A E) → P → OnErr r P
err_any (Ok x) h = tt
err_any (Err y) h = h
