-- When two readers make the evaluator run alike, up to where it stops.
use Rattle.std.specs.Prelude.{ℕ, List, [], ◌∷◌, ◌++◌, ◌≡◌, ◌⊎◌, is_some}
use Rattle.std.specs.List.{AllByRecursion}
use Rattle.cell_types.specs.declared.cell.CellId.{CellId}
use Rattle.cell_types.specs.declared.cell.Read.{Read}
use Rattle.cell_types.specs.declared.cell.Read.TheVariants.{Cell, Key, Rows}
use Rattle.formula_eval.specs.declared.note.Note.{Note}
use Rattle.formula_eval.specs.declared.note.Note.TheVariants as note
use Rattle.formula_eval.specs.Reader.{Reader, cell_at}
use Rattle.formula_eval.specs.Run.{Stop, need, Out, gives, raises, stops, Run}
use Rattle.formula_eval.specs.Reading.{told_out}
use Rattle.formula_eval.specs.Lookup.{matched}

-- two stops count as the same
abbrev pub IsSameOut : {A : Type 0} → Out A → Out A → Type 0
IsSameOut (gives v) (gives w) = v ≡ w
IsSameOut (raises e) (raises f) = e ≡ f
IsSameOut (stops s) (stops t) = Unit {0}
IsSameOut o p = ⊥

abbrev pub StopsBy : {A : Type 0} → (Stop → Type 0) → Out A → Type 0
StopsBy P (stops s) = P s
StopsBy P o = ⊥

-- the first list stands at the front of the second
abbrev pub IsFront : List Note → List Note → Type 0
IsFront l m = (rest : List Note) × (m ≡ l ++ rest)

-- cells that are excused are so together
abbrev pub IsJoined : (Stop → Type 0) → Type 0
IsJoined L = (cs ds : List CellId) → L (need cs) → L (need ds) → L (need (cs ++ ds))

-- a stop of the first that L excuses, or one of the second where R holds
module _ (L : Stop → Type 0) (R : Type 0) where
  abbrev pub IsAlikeOut : {A : Type 0} → Out A → Out A → Type 0
  IsAlikeOut o p = IsSameOut o p ⊎ (StopsBy L o ⊎ StopsBy (λ _. R) p)

  abbrev pub IsAlikeRun : {A : Type 0} → Run A → Run A → Type 0
  IsAlikeRun a b =
      (IsSameOut a.out b.out × (a.notes ≡ b.notes))
      ⊎ ((StopsBy L a.out × IsFront a.notes b.notes)
      ⊎ (StopsBy (λ _. R) b.out × IsFront b.notes a.notes))

  module _ (x y : Reader) where
    -- the two readers tell the same of a cell, or are excused
    abbrev pub IsAlikeCell : CellId → Type 0
    IsAlikeCell c = IsAlikeOut (told_out c (x.cell c)) (told_out c (y.cell c))

    -- of a column, they tell the same type
    abbrev pub IsAlikeColumn : List ℕ → List ℕ → Type 0
    IsAlikeColumn t c = x.kind t c ≡ y.kind t c

    -- they tell the same at a read, and of a key column every cell
    abbrev pub IsAlikeRead : Read → Type 0
    IsAlikeRead (Cell c) = IsAlikeColumn c.table c.column × IsAlikeCell c
    IsAlikeRead (Key t c) = IsAlikeColumn t c × ((r : ℕ) → IsAlikeCell (cell_at t c r))
    IsAlikeRead (Rows t) = x.rows t ≡ y.rows t

    -- they tell the same at a note: of a key column the type alone, of a table that it is there,
    -- all its rows where these are taken, and of keys that are met which rows meet them
    abbrev pub IsAlikeNote : Note → Type 0
    IsAlikeNote (note.Read (Cell c)) = IsAlikeColumn c.table c.column × IsAlikeCell c
    IsAlikeNote (note.Read (Key t c)) = IsAlikeColumn t c
    IsAlikeNote (note.Read (Rows t)) = is_some (x.rows t) ≡ is_some (y.rows t)
    IsAlikeNote (note.All t) = x.rows t ≡ y.rows t
    IsAlikeNote (note.Met t ks) = IsAlikeOut (matched x t ks) (matched y t ks)

    -- runs that are alike where the readers are at the notes of the first
    abbrev pub IsAlike : {A : Type 0} → Run A → Run A → Type 0
    IsAlike a b = AllByRecursion IsAlikeNote a.notes → IsAlikeRun a b

    -- runs that are alike, one by one
    abbrev pub AreAlike : {A : Type 0} → List (Run A) → List (Run A) → Type 0
    AreAlike [] [] = Unit {0}
    AreAlike [] (b ∷ bs) = ⊥
    AreAlike (a ∷ rest) [] = ⊥
    AreAlike (a ∷ rest) (b ∷ bs) = IsAlike a b × AreAlike rest bs
