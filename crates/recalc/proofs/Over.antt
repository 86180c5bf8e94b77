-- Two runs of a formula over one sheet, with different known values.
use Rattle.std.proofs.Common.{ℕ, List, [], ◌∷◌, ◌≡◌, inl, refl, ap, subst, Option, Some, None}
use Rattle.std.specs.List.{AllByRecursion}
use Rattle.cell_types.specs.declared.cell.CellId.{CellId}
use Rattle.cell_types.specs.declared.value.CellValue.{CellValue}
use Rattle.cell_types.specs.declared.column_type.ColType.{ColType}
use Rattle.cell_types.specs.declared.cell.Read.{Read}
use Rattle.cell_types.specs.declared.cell.Read.TheVariants.{Cell, Key, Rows}
use Rattle.formula_eval.specs.Run.{Stop, Out, gives, raises, stops, reads_of}
use Rattle.formula_eval.specs.Reading.{told_out}
use Rattle.formula_eval.specs.Likeness.{IsSameOut, StopsBy, IsAlikeOut, IsAlikeRun, IsAlikeRead, IsJoined}
use Rattle.formula_eval.proofs.TextLaws.{text_alike, text_covers}
use Rattle.recalc.specs.Cells.{cell_of}
use Rattle.recalc.specs.Sheet.{Sheet, Values, told_by, over, finished, row_of, run_of}

pub same_out : {A : Type 0} (L : Stop → Type 0) (R : Type 0) (o p : Out A) → o ≡ p → IsAlikeOut L R o p
same_out L R (gives v) p e = subst (λ q. IsAlikeOut L R (gives v) q) e (inl refl)
same_out L R (raises v) p e = subst (λ q. IsAlikeOut L R (raises v) q) e (inl refl)
same_out L R (stops v) p e = subst (λ q. IsAlikeOut L R (stops v) q) e (inl tt)

pub all_each : {X : Type 0} (P : X → Type 0) → ((x : X) → P x) → (xs : List X) → AllByRecursion P xs
all_each P h [] = tt
all_each P h (x ∷ xs) = (h x, all_each P h xs)

module _ (L : Stop → Type 0) (R : Type 0) (s : Sheet) (k j : Values) where
  -- the two tell the same of a formula cell, or are excused
  abbrev pub IsAlikeCell : CellId → Type 0
  IsAlikeCell c = (f : List ℕ) → IsAlikeOut L R (told_out c (told_by (Some f) (s.base c) (k c))) (told_out c (told_by (Some f) (s.base c) (j c)))

  told_alike : (c : CellId) → IsAlikeCell c → (o : Option (List ℕ)) → IsAlikeOut L R (told_out c (told_by o (s.base c) (k c))) (told_out c (told_by o (s.base c) (j c)))
  told_alike c h None = same_out L R (told_out c (s.base c)) (told_out c (s.base c)) refl
  told_alike c h (Some f) = h f

  each_read : ((c : CellId) → IsAlikeCell c) → (q : Read) → IsAlikeRead L R (over s k) (over s j) q
  each_read h (Cell c) = (refl, told_alike c (h c) (s.formula c))
  each_read h (Key t c) = (refl, λ r. told_alike (cell_of t c r) (h (cell_of t c r)) (s.formula (cell_of t c r)))
  each_read h (Rows t) = refl

  -- the formula of a cell runs alike over the two
  pub over_alike : IsJoined L → ((c : CellId) → IsAlikeCell c) → (c : CellId) (f : List ℕ) → IsAlikeRun L R (run_of (over s k) c f) (run_of (over s j) c f)
  over_alike joined h c f =
      text_alike L R (over s k) (over s j) (row_of c) f
      (text_covers L R (over s k) (over s j) (row_of c) joined f (all_each (IsAlikeRead L R (over s k) (over s j)) (each_read h) (reads_of (run_of (over s k) c f).notes)))

-- outcomes that are the same finish the same
pub finished_same : (k : Option ColType) (o p : Out CellValue) → IsSameOut o p → finished k o ≡ finished k p
finished_same k (gives v) (gives w) e = ap (λ u. finished k (gives u)) e
finished_same k (gives v) (raises f) e = absurd e
finished_same k (gives v) (stops t) e = absurd e
finished_same k (raises f) (gives v) e = absurd e
finished_same k (raises f) (raises g) e = ap (λ u. finished k (raises u)) e
finished_same k (raises f) (stops t) e = absurd e
finished_same k (stops t) (gives v) e = absurd e
finished_same k (stops t) (raises f) e = absurd e
finished_same k (stops t) (stops u) e = refl

pub finished_stop : (P : Stop → Type 0) (k : Option ColType) (o : Out CellValue) → StopsBy P o → finished k o ≡ None
finished_stop P k (gives v) h = absurd h
finished_stop P k (raises v) h = absurd h
finished_stop P k (stops v) h = refl
