-- What each seat at the table knows: histories that the one which is shown continues.
use Rattle.std.specs.Prelude.{◌≡◌, ℕ, List, [], ◌∷◌, ◌++◌, take}
use mathlib.Core.Option.{some}
use lib.ListN.{get_elem?}
use Rattle.snap_reads.specs.Past.{ContinuesAll}
use Rattle.snap_reads.specs.declared.past.Past.{Past}
use Rattle.snap_reads.specs.declared.rule.View.{View}

module _ {O E : Type 0} where
  -- each seat's histories are continued by this one
  abbrev pub IsAhead : Past O E → List (View O E) → Type 0
  IsAhead past views = (seat : ℕ) (v : View O E) → get_elem? views seat ≡ some v
      → ContinuesAll v.known past

  -- a seat that knows nothing
  abbrev pub newcomer : View O E
  newcomer = record { known = [] }

  -- what a note tells: the newest alone
  abbrev pub newest : View O E → View O E
  newest v = record { known = take 1 v.known }

  -- told of what the other knows
  abbrev pub informed : View O E → View O E → View O E
  informed v w = record { known = w.known ++ v.known }

module _ {T S O E : Type 0} (state : T → S) (past : S → Past O E) (stands : S → Type 0) where
  -- what is shown stands for its history, which continues what each seat knows
  abbrev pub Keeps : T → List (View O E) → Type 0
  Keeps x views = stands (state x) × IsAhead (past (state x)) views

  -- The shot y stands for its history, which continues what was known; this is known from then on
  abbrev pub Sees : View O E → T → T → View O E → Type 0
  Sees v x y w = stands (state y) × ContinuesAll v.known (past (state y))
      × (w.known ≡ past (state y) ∷ v.known)
