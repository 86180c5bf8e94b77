-- What attempts come to, and the cells of columns at some places.
use Rattle.std.proofs.Common.{ℕ, zero, suc, ◌+◌, ◌<◌, ◌≡◌, refl, sym, ap, ◌∙◌, subst, arith, List, [], ◌∷◌, ◌++◌, append_assoc, length, get_or, take, Option, Some, None, slice_get}
use Rattle.std.proofs.lemmas.List.{append-nil}
use Rattle.std.specs.List.{AllZip}
use Rattle.rayon.proofs.ListFacts.{AllZip-append, AllZip-through}
use Rattle.cell_types.specs.declared.value.RowRef.{RowRef}
use Rattle.formula_eval.specs.declared.note.Note.{Note}
use Rattle.formula_eval.specs.declared.outcome.Tried.{Tried}
use Rattle.formula_eval.specs.declared.outcome.Tried.TheVariants.{Value as Given, Need as Lacks}
use Rattle.formula_eval.specs.Attempted.{HasNoted, IsTried}
use Rattle.formula_eval.specs.Eval.{evaluated}
use Rattle.formula_eval.specs.Reader.{Reader}
use Rattle.formula_eval.specs.Run.{MayName, reads_of}
use Rattle.formula_eval.proofs.Named.{evaluated_named, may_needed}
use Rattle.formula_parse.specs.Tree.{Tree}
use Rattle.par_recalc.specs.declared.plan.ColumnFormula.{ColumnFormula}
use Rattle.par_recalc.specs.declared.running.CellAttempt.{CellAttempt}
use Rattle.par_recalc.specs.declared.running.Found.{Found}
use Rattle.par_recalc.specs.declared.running.Found.TheVariants.{Value, Need}
use Rattle.par_recalc.specs.Attempts.{IsAt, IsCellAttempt, IsFound, IsFoundOf, cells_in, cells_of, cells_of_some, places_cells}

-- what an attempt of a run leads to
pub found_is : (told : Reader) (at : RowRef) (f : Tree) (x : Found) (t : Tried) (before noted : List Note) → before ≡ [] → IsFoundOf x t noted
    → IsTried t (evaluated told at f) → HasNoted t before noted (evaluated told at f) → IsFound told (evaluated told at f) x
found_is told at f (Value v l) (Given w) before noted none h tried n =
    (tried ∙ ap Some (sym h.0), ap (λ b. b ++ (evaluated told at f).notes) (sym none) ∙ n ∙ sym h.1)
found_is told at f (Value v l) (Lacks d) before noted none h tried n = absurd h
found_is told at f (Need c) (Given w) before noted none h tried n = absurd h
found_is told at f (Need c) (Lacks d) before noted none h tried n =
    let a = evaluated told at f in
    let may : MayName c a.out = subst (λ e. MayName e a.out) (sym h) tried in
    (may, may_needed told (reads_of a.notes) c a.out (evaluated_named told at f []) may)

-- by the rows of one column
pub in_column : (told : Reader) (f : ColumnFormula) (rs : List ℕ) (found : List CellAttempt) → told.rows f.table ≡ Some rs
    → AllZip (IsCellAttempt told f) rs found → AllZip (IsAt told) (cells_of told f) found
in_column told f rs found e h =
    subst (λ o. AllZip (IsAt told) (cells_in f o) found) (sym e)
    (AllZip-through (λ r. (f, r)) (IsCellAttempt told f) (IsAt told) (λ r a p. p) rs found h)

module _ (told : Reader) (fs : List ColumnFormula) where
  more_suc : (ps : List ℕ) (i : ℕ) → i < length ps
      → places_cells told fs (take (suc i) ps) ≡ places_cells told fs (take i ps) ++ cells_of_some told (slice_get fs (get_or ps i 0))
  more_suc [] i lt = absurd (omega arith)
  more_suc (q ∷ qs) zero lt = append-nil (cells_of_some told (slice_get fs q))
  more_suc (q ∷ qs) (suc i) lt =
      ap (λ l. cells_of_some told (slice_get fs q) ++ l) (more_suc qs i (omega arith))
      ∙ sym (append_assoc (cells_of_some told (slice_get fs q)) (places_cells told fs (take i qs)) (cells_of_some told (slice_get fs (get_or qs i 0))))

  -- one place more
  pub more_cells : (ps : List ℕ) (i : ℕ) (o : Option ColumnFormula) (done more : List CellAttempt) → i < length ps → o ≡ slice_get fs (get_or ps i 0)
      → AllZip (IsAt told) (places_cells told fs (take i ps)) done → AllZip (IsAt told) (cells_of_some told o) more
      → AllZip (IsAt told) (places_cells told fs (take (i + 1) ps)) (done ++ more)
  more_cells ps i o done more lt at before here =
      let one : suc i ≡ i + 1 = omega arith in
      let cells = more_suc ps i lt ∙ ap (λ a. places_cells told fs (take i ps) ++ cells_of_some told a) (sym at) in
      subst (λ n. AllZip (IsAt told) (places_cells told fs (take n ps)) (done ++ more)) one
      (subst (λ l. AllZip (IsAt told) l (done ++ more)) (sym cells)
      (AllZip-append (IsAt told) (places_cells told fs (take i ps)) (cells_of_some told o) done more before here))
