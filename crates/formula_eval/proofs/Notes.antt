-- Lists of notes, and the reads among them.
use Rattle.std.proofs.Common.{List, [], ◌∷◌, ◌++◌, ◌≡◌, refl, ap}
use Rattle.std.specs.List.{AllByRecursion}
use Rattle.cell_types.specs.declared.cell.Read.{Read}
use Rattle.formula_eval.specs.declared.note.Note.{Note}
use Rattle.formula_eval.specs.declared.note.Note.TheVariants as note
use Rattle.formula_eval.specs.Run.{Out, gives, raises, stops, reads_of}

pub all_append : {X : Type 0} (P : X → Type 0) (xs ys : List X) → AllByRecursion P (xs ++ ys) → AllByRecursion P xs × AllByRecursion P ys
all_append P [] ys h = (tt, h)
all_append P (x ∷ xs) ys h = let r = all_append P xs ys h.1 in ((h.0, r.0), r.1)

pub all_join : {X : Type 0} (P : X → Type 0) (xs ys : List X) → AllByRecursion P xs → AllByRecursion P ys → AllByRecursion P (xs ++ ys)
all_join P [] ys h g = g
all_join P (x ∷ xs) ys h g = (h.0, all_join P xs ys h.1 g)

pub reads_of-append : (l m : List Note) → reads_of (l ++ m) ≡ reads_of l ++ reads_of m
reads_of-append [] m = refl
reads_of-append (note.Read q ∷ l) m = ap (λ (qs : List Read). q ∷ qs) (reads_of-append l m)
reads_of-append (note.All t ∷ l) m = reads_of-append l m
reads_of-append (note.Met t ks ∷ l) m = reads_of-append l m

-- there is a value
abbrev pub IsGives : {A : Type 0} → Out A → Type 0
IsGives (gives v) = Unit {0}
IsGives (raises e) = ⊥
IsGives (stops s) = ⊥
