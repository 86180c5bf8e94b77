-- A halt of what is evaluated first is one of the whole.
use Rattle.std.proofs.Common.{◌≡◌, ◌++◌, List, refl, sym, ap, ◌∙◌, subst, Err}
use Rattle.cell_types.specs.declared.cell.CellId.{CellId}
use Rattle.cell_types.specs.declared.value.CellValue.{CellValue}
use Rattle.cell_types.specs.declared.value.ErrKind.{ErrKind}
use Rattle.formula_eval.specs.declared.function.Function.{Function}
use Rattle.formula_eval.specs.declared.function.Function.TheVariants as fn
use Rattle.formula_eval.specs.declared.halt.Halt.{Halt}
use Rattle.formula_eval.specs.declared.halt.Halt.TheVariants as halt
use Rattle.formula_eval.specs.declared.note.Note.{Note}
use Rattle.formula_eval.specs.Run.{Stop, circular, need, Out, gives, raises, stops, Run, done, after, seq, collect, or_else, caught, out_of, MayName}
use Rattle.formula_eval.specs.Function.{applied}
use Rattle.formula_eval.specs.Call.{run_function}
use Rattle.formula_eval.specs.Halted.{ComesAs, Comes}
use Rattle.formula_eval.proofs.LookupEnds.{seq_halts}

-- a function that evaluates all its arguments
run_other : (f : Function) (runs : List (Run CellValue)) → (f ≡ fn.If → ⊥) → (f ≡ fn.IfError → ⊥) → run_function f runs ≡ seq (collect runs) (λ (vs : List CellValue). done (out_of (applied f vs)))
run_other fn.If runs n m = absurd (n refl)
run_other fn.IfError runs n m = absurd (m refl)
run_other fn.Sum runs n m = refl
run_other fn.Min runs n m = refl
run_other fn.Max runs n m = refl
run_other fn.Len runs n m = refl
run_other fn.Abs runs n m = refl
run_other fn.Str runs n m = refl
run_other fn.Bool runs n m = refl

pub run_halts : (f : Function) (runs : List (Run CellValue)) → (f ≡ fn.If → ⊥) → (f ≡ fn.IfError → ⊥)
    → {X Y : Type 0} (view : X → List CellValue) (seen : Y → CellValue) (h : Halt) (l m : List Note)
    → ComesAs view (Err h) l m (collect runs) → ComesAs seen (Err h) l m (run_function f runs)
run_halts f runs n o view seen h l m c =
    subst (λ (r : Run CellValue). ComesAs seen (Err h) l m r) (sym (run_other f runs n o))
    (seq_halts view seen h (collect runs) (λ (vs : List CellValue). done (out_of (applied f vs))) l m c)

-- what is tried first, where it raises no error
module _ (a b : Run CellValue) where
  caught_stops : (s : Stop) (l m : List Note) → after l a ≡ record { out = stops s; notes = m } → after l (or_else a b) ≡ record { out = stops s; notes = m }
  caught_stops s l m h =
      ap (λ (o : Out CellValue). after l (caught o a.notes b)) (ap (λ (r : Run CellValue). r.out) h)
      ∙ ap (λ (rs : List Note). record { out = stops s; notes = rs }) (ap (λ (r : Run CellValue). r.notes) h)

  caught_names : (d : CellId) (o : Out CellValue) (l : List Note) → MayName d o → MayName d (caught o l b).out × ((caught o l b).notes ≡ l)
  caught_names d (gives v) l h = absurd h
  caught_names d (raises e) l h = absurd h
  caught_names d (stops circular) l h = absurd h
  caught_names d (stops (need cs)) l h = (h, refl)

  pub caught_halts : (h : Halt) (l m : List Note) → ((e : ErrKind) → h ≡ halt.Raised e → ⊥) → Comes (Err h) l m a → Comes (Err h) l m (or_else a b)
  caught_halts (halt.Raised e) l m n c = absurd (n e refl)
  caught_halts halt.Circular l m n c = caught_stops circular l m c
  caught_halts (halt.Need d) l m n c = let named = caught_names d a.out a.notes c.0 in (named.0, ap (λ (ns : List Note). l ++ ns) named.1 ∙ c.1)
  caught_halts halt.NoMemory l m n c = tt
