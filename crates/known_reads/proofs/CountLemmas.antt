-- How many attempts the cells take.
use Rattle.std.proofs.Common.{◌≤◌, ◌<◌, Bool, true, false, not, ◌&&◌, ◌||◌, List, [], ◌∷◌, length, ◌≡◌, refl, sym, ap, ◌∙◌, subst, Option, Some, None, arith}
use Rattle.std.proofs.lemmas.Bool.{false≢true, true≢false}
use Rattle.std.specs.Option.{is_some}
use Rattle.cell_types.specs.declared.cell.CellId.{CellId}
use Rattle.cell_types.specs.declared.value.CellValue.{CellValue}
use Rattle.doc_model.specs.Document.{Document}
use Rattle.recalc.specs.declared.kept.KeptTable.{KeptTable}
use Rattle.recalc.specs.Cells.{same_cell}
use Rattle.recalc.specs.Evaluated.{sheet_of}
use Rattle.recalc.specs.Kept.{held_at}
use Rattle.recalc.specs.Sheet.{Sheet, Values}
use Rattle.recalc.specs.Stack.{AreOpen, IsOpen, count, is_open, on}
use Rattle.recalc.specs.Turn.{StaysKnown}
use Rattle.recalc.proofs.Moves.{count_less, on_in}
use Rattle.recalc.proofs.Turn.{same_itself, same_true}
use Rattle.affected_values.specs.declared.taking.HeldValue.{HeldValue}
use Rattle.affected_values.specs.Taken.{IsRightBut, IsTaken}
use Rattle.affected_values.proofs.RefreshedLemmas.{held_left}
use Rattle.known_reads.specs.Attempts.{HasFormulas}
use Rattle.known_reads.specs.Recorded.{HasOpen, open_count}

-- ---- open cells

not_known : (o p : Option CellValue) → (is_some o ≡ true → is_some p ≡ true) → p ≡ None → o ≡ None
not_known None p h e = refl
not_known (Some v) p h e = absurd (true≢false (sym (h refl) ∙ ap is_some e))

-- what is open later was open before
pub open_before : (s : Sheet) (k j : Values) → StaysKnown k j → (cells : List CellId) → HasOpen s k cells → HasOpen s j cells
open_before s k j stays cells has c opened = has c (opened.0, not_known (k c) (j c) (stays c) opened.1)

-- what was taken out is all that is open
taken_on : (s : Document) (old now : List KeptTable) (cells : List CellId) (taken : List HeldValue) → IsTaken cells taken (held_at s old) (held_at s now) → IsRightBut s old cells
    → (c : CellId) → IsOpen (sheet_of s) (held_at s now) c → on cells c ≡ true
taken_on s old now cells taken out right c opened = by (on cells c) refl
  where
    by : (b : Bool) → on cells c ≡ b → on cells c ≡ true
    by true e = e
    by false e = absurd (true≢false (sym (held_left s old now cells taken out right c (out.each c ∙ e) (ap is_some opened.0.1)) ∙ ap is_some opened.1))

pub open_taken : (s : Document) (old now : List KeptTable) (cells : List CellId) (taken : List HeldValue) → IsTaken cells taken (held_at s old) (held_at s now) → IsRightBut s old cells
    → HasOpen (sheet_of s) (held_at s now) cells
open_taken s old now cells taken out right c opened = on_in (sheet_of s) cells c (taken_on s old now cells taken out right c opened)

-- so what is open is in each list that has the formula cells that were taken out
pub open_named : (s : Document) (old now : List KeptTable) (cells : List CellId) (taken : List HeldValue) → IsTaken cells taken (held_at s old) (held_at s now) → IsRightBut s old cells
    → (all : List CellId) → HasFormulas s cells all → HasOpen (sheet_of s) (held_at s now) all
open_named s old now cells taken out right all has c opened = has c (taken_on s old now cells taken out right c opened) (ap is_some opened.0.1)

-- ---- the stack

and_first : (a b : Bool) → (a && b) ≡ true → a ≡ true
and_first true b e = refl
and_first false b e = absurd (false≢true e)

and_not : (a b : Bool) → a ≡ true → b ≡ false → (a && not b) ≡ true
and_not true false p q = refl
and_not true true p q = absurd (true≢false q)
and_not false b p q = absurd (false≢true p)

and_none : (a b : Bool) → b ≡ true → (a && not b) ≡ false
and_none true true e = refl
and_none true false e = absurd (false≢true e)
and_none false b e = refl

or_right : (a b : Bool) → b ≡ true → (a || b) ≡ true
or_right true b e = refl
or_right false b e = e

module _ (s : Sheet) (k : Values) (cells : List CellId) (has : HasOpen s k cells) where
  few : (p : CellId → Bool) (stack : List CellId) → AreOpen s k stack → ((c : CellId) → on stack c ≡ true → p c ≡ true) → length stack ≤ count p cells
  few p [] all more = omega arith
  few p (c ∷ cs) all more =
      let less : count (λ d. p d && not (same_cell c d)) cells < count p cells =
      count_less (λ d. p d && not (same_cell c d)) p cells c (has c all.0) (λ d e. and_first (p d) (not (same_cell c d)) e) (and_none (p c) (same_cell c c) (same_itself c))
      (more c (ap (λ b. b || on cs c) (same_itself c))) in
      let rest : length cs ≤ count (λ d. p d && not (same_cell c d)) cells =
      few (λ d. p d && not (same_cell c d)) cs all.2 (λ d h. and_not (p d) (same_cell c d) (more d (or_right (same_cell c d) (on cs d) h)) (apart d (same_cell c d) refl h)) in
      omega (arith, less, rest)
    where
      apart : (d : CellId) (b : Bool) → same_cell c d ≡ b → on cs d ≡ true → same_cell c d ≡ false
      apart d true e h = absurd (true≢false (sym h ∙ ap (on cs) (sym (same_true c d e)) ∙ all.1))
      apart d false e h = e

  open_on : (stack : List CellId) → AreOpen s k stack → (c : CellId) → on stack c ≡ true → is_open k c ≡ true
  open_on [] all c h = absurd (false≢true h)
  open_on (d ∷ ds) all c h = by (open_on ds all.2 c) (same_cell d c) refl h
    where
      by : (on ds c ≡ true → is_open k c ≡ true) → (b : Bool) → same_cell d c ≡ b → (b || on ds c) ≡ true → is_open k c ≡ true
      by later true e h = subst (λ x. is_open k x ≡ true) (same_true d c e) (ap (λ o. not (is_some o)) all.0.1)
      by later false e h = later h

  -- a stack of open cells is no higher than there are open cells
  pub stack_few : (stack : List CellId) → AreOpen s k stack → length stack ≤ open_count k cells
  stack_few stack all = few (is_open k) stack all (open_on stack all)
