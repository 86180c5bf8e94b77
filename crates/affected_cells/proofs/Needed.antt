-- A cell that an attempt needs is named by the reads over the evaluated cells.
use Rattle.std.proofs.Common.{Bool, true, List, [], ◌∷◌, ◌++◌, ◌≡◌, ◌⊎◌, inl, inr, refl, sym, ap, ◌∙◌, subst, Option, Some, None, unwrap_or}
use Rattle.std.proofs.lemmas.Bool.{or_left, or_right}
use Rattle.std.proofs.lemmas.Slice.Eq.{bytes_eq-Decides}
use Rattle.std.specs.List.{list_any}
use Rattle.cell_types.specs.declared.cell.CellId.{CellId}
use Rattle.cell_types.specs.declared.cell.Read.{Read}
use Rattle.cell_types.specs.declared.cell.Read.TheVariants.{Cell, Key, Rows}
use Rattle.cell_types.specs.declared.value.CellValue.{CellValue}
use Rattle.formula_eval.specs.declared.note.Note.{Note}
use Rattle.formula_eval.specs.Likeness.{IsAlikeOut, IsFront, IsJoined, StopsBy}
use Rattle.formula_eval.specs.Names.{AnyNames, Names}
use Rattle.formula_eval.specs.Reader.{known}
use Rattle.formula_eval.specs.Reading.{told_out}
use Rattle.formula_eval.specs.Run.{MayName, Out, Stop, circular, gives, need, raises, reads_of, stops}
use Rattle.formula_eval.proofs.Named.{may_needed}
use Rattle.formula_eval.proofs.Notes.{reads_of-append}
use Rattle.formula_eval.proofs.TextLaws.{text_named}
use Rattle.recalc.specs.Cells.{same_cell}
use Rattle.recalc.specs.Cells.{same_cell}
use Rattle.recalc.specs.Sheet.{Sheet, Values, evaluated, over, reads_by, row_of, run_of, told_by}
use Rattle.recalc.specs.Stack.{IsSound}
use Rattle.recalc.proofs.Over.{IsAlikeCell, over_alike, same_out}
use Rattle.recalc.proofs.Turn.{same_itself}
use Rattle.affected_cells.specs.Bound.{NeededLaw, names, names_cell}

-- a stop for cells whose values are not there
abbrev pub needs : Stop → Type 0
needs circular = ⊥
needs (need cs) = Unit {0}

pub needs_joined : IsJoined needs
needs_joined cs ds h g = tt

pub never_right : {A : Type 0} (o : Out A) → StopsBy (λ _. ⊥) o → ⊥
never_right (gives v) h = h
never_right (raises v) h = h
never_right (stops v) h = h

-- what is known tells what all values tell, or that a cell is needed
pub told_cell : (s : Sheet) (k : Values) → IsSound s k → (d : CellId) → IsAlikeCell needs ⊥ s k (λ b. Some (evaluated s b)) d
told_cell s k sound d f =
    elim (k d) as (λ o. k d ≡ o → IsAlikeOut needs ⊥ (told_out d (told_by (Some f) (s.base d) o)) (told_out d (known (evaluated s d)))) [
      | None ↦ λ e. inr (inl tt)
      | Some v ↦ λ e. same_out needs ⊥ (told_out d (known v)) (told_out d (known (evaluated s d))) (ap (λ x. told_out d (known x)) (sym (sound d v e)))
    ] refl

any_more : (d : CellId) (l m : List Read) → AnyNames d l → AnyNames d (l ++ m)
any_more d [] m h = absurd h
any_more d (q ∷ l) m (inl h) = inl h
any_more d (q ∷ l) m (inr h) = inr (any_more d l m h)

names_true : (d : CellId) (q : Read) → Names d q → names_cell d q ≡ true
names_true d (Cell c) h = subst (λ x. same_cell c x ≡ true) h (same_itself c)
names_true d (Key t k) h = rw ((bytes_eq-Decides t d.table).1 h.0, (bytes_eq-Decides k d.column).1 h.1) refl
names_true d (Rows t) h = absurd h

any_true : (d : CellId) (qs : List Read) → AnyNames d qs → list_any (names_cell d) qs ≡ true
any_true d [] h = absurd h
any_true d (q ∷ qs) (inl h) = or_left (names_cell d q) (list_any (names_cell d) qs) (names_true d q h)
any_true d (q ∷ qs) (inr h) = or_right (names_cell d q) (list_any (names_cell d) qs) (any_true d qs h)

-- what the front of some notes names, the notes name
front_named : (d : CellId) (l m : List Note) → IsFront l m → AnyNames d (reads_of l) → AnyNames d (reads_of m)
front_named d l m front h = subst (λ n. AnyNames d (reads_of n)) (sym front.1) (subst (AnyNames d) (sym (reads_of-append l front.0)) (any_more d (reads_of l) (reads_of front.0) h))

pub needed_law : NeededLaw
needed_law s k sound c d f e h = ap (λ o. list_any (names_cell d) (reads_by s (λ b. Some (evaluated s b)) c o)) e ∙ any_true d (reads_of (run_of (over s (λ b. Some (evaluated s b))) c f).notes) among
  where
    met : AnyNames d (reads_of (run_of (over s k) c f).notes)
    met = (may_needed (over s k) (reads_of (run_of (over s k) c f).notes) d (run_of (over s k) c f).out (text_named (over s k) (row_of c) f) h).1

    among : AnyNames d (reads_of (run_of (over s (λ b. Some (evaluated s b))) c f).notes)
    among = elim (over_alike needs ⊥ s k (λ b. Some (evaluated s b)) needs_joined (told_cell s k sound) c f) [
      | inl g ↦ subst (λ n. AnyNames d (reads_of n)) g.1 met
      | inr g ↦ elim g [
        | inl w ↦ front_named d (run_of (over s k) c f).notes (run_of (over s (λ b. Some (evaluated s b))) c f).notes w.1 met
        | inr w ↦ absurd (never_right (run_of (over s (λ b. Some (evaluated s b))) c f).out w.0)
      ]
    ]
