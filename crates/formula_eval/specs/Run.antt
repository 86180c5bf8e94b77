-- What evaluation comes to, with the notes that it makes on the way, and how runs are put together.
use Rattle.std.specs.Prelude.{List, [], ◌∷◌, ◌++◌, ◌≡◌, ◌⊎◌, Result, Ok, Err}
use Rattle.cell_types.specs.declared.cell.CellId.{CellId}
use Rattle.cell_types.specs.declared.cell.Read.{Read}
use Rattle.cell_types.specs.declared.value.ErrKind.{ErrKind}
use Rattle.formula_eval.specs.declared.note.Note.{Note}
use Rattle.formula_eval.specs.declared.note.Note.TheVariants as note

-- why evaluation cannot go on: a circular cell, or cells whose values are not there yet
pub data Stop : Type 0 where
  circular : Stop
  need : List CellId → Stop

pub data Out (A : Type 0) : Type 0 where
  gives : A → Out A
  raises : ErrKind → Out A
  stops : Stop → Out A

pub record Run (A : Type 0) : Type 0 where
  pub out : Out A
  pub notes : List Note

-- the reads among notes
abbrev pub reads_of : List Note → List Read
reads_of [] = []
reads_of (note.Read q ∷ notes) = q ∷ reads_of notes
reads_of (note.All t ∷ notes) = reads_of notes
reads_of (note.Met t ks ∷ notes) = reads_of notes

-- the cell is one of them
abbrev pub IsAmong : CellId → List CellId → Type 0
IsAmong d [] = ⊥
IsAmong d (c ∷ cs) = (c ≡ d) ⊎ IsAmong d cs

module _ {A : Type 0} where
  -- the cell is one of those for which it stops
  abbrev pub MayName : CellId → Out A → Type 0
  MayName d (stops (need cs)) = IsAmong d cs
  MayName d o = ⊥

  -- the outcome of an operation on values, which never stops
  abbrev pub out_of : Result A ErrKind → Out A
  out_of (Ok v) = gives v
  out_of (Err e) = raises e

  -- an outcome without a note
  abbrev pub done : Out A → Run A
  done o = record { out = o; notes = [] }

  -- notes made before
  abbrev pub after : List Note → Run A → Run A
  after l a = record { out = a.out; notes = l ++ a.notes }

module _ {A B : Type 0} where
  abbrev pub onward : Out A → List Note → (A → Run B) → Run B
  onward (gives v) l k = after l (k v)
  onward (raises e) l k = record { out = raises e; notes = l }
  onward (stops s) l k = record { out = stops s; notes = l }

  -- one after the other; an error or a stop ends both
  abbrev pub seq : Run A → (A → Run B) → Run B
  seq a k = onward a.out a.notes k

module _ {A : Type 0} where
  abbrev pub caught : Out A → List Note → Run A → Run A
  caught (gives v) l b = record { out = gives v; notes = l }
  caught (raises e) l b = after l b
  caught (stops s) l b = record { out = stops s; notes = l }

  -- the second where the first raises an error; a stop goes through
  abbrev pub or_else : Run A → Run A → Run A
  or_else a b = caught a.out a.notes b

  -- all of them, from left to right; the first error or stop ends it
  abbrev pub collect : List (Run A) → Run (List A)
  collect [] = done (gives [])
  collect (a ∷ rest) = seq a (λ v. seq (collect rest) (λ vs. done (gives (v ∷ vs))))

module _ {A B C : Type 0} where
  -- of two that are both looked at: a circular cell goes before those that are needed
  abbrev pub both : (A → B → C) → Out A → Out B → Out C
  both f (gives a) (gives b) = gives (f a b)
  both f (gives a) (raises e) = raises e
  both f (gives a) (stops s) = stops s
  both f (raises e) (gives b) = raises e
  both f (raises e) (raises d) = raises e
  both f (raises e) (stops s) = stops s
  both f (stops circular) o = stops circular
  both f (stops (need cs)) (gives b) = stops (need cs)
  both f (stops (need cs)) (raises e) = stops (need cs)
  both f (stops (need cs)) (stops circular) = stops circular
  both f (stops (need cs)) (stops (need ds)) = stops (need (cs ++ ds))
