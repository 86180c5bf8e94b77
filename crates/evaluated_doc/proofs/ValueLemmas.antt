-- The values of the cells of a column, one row after another.
use Rattle.std.proofs.Common.{◌≡◌, ◌∙◌, ℕ, false, List, [], ◌∷◌, map, Option, Some, None, Bor, refl, sym, ap}
use Rattle.std.specs.Option.{MatchOption, option_copied}
use Rattle.cell_types.specs.declared.value.CellValue.{CellValue}
use Rattle.doc_model.specs.Document.{Document}
use Rattle.doc_model.specs.Readers.{cell_at}
use Rattle.recalc.specs.declared.kept.KeptColumn.{KeptColumn}
use Rattle.recalc.specs.declared.kept.KeptTable.{KeptTable}
use Rattle.recalc.specs.Cells.{cell_of}
use Rattle.recalc.specs.Current.{has_formulas}
use Rattle.recalc.specs.Evaluated.{filled, value_of}
use Rattle.recalc.specs.Kept.{IsEvaluated, column_at, held_at}
use Rattle.recalc.specs.Seen.{told_or_no_row, value_told}
use Rattle.recalc.proofs.FilledCells.{filled_told}
use Rattle.recalc.proofs.PlainLemmas.{cell_plain}
use Rattle.recalc.proofs.ToldCells.{column_told}

pub match_copied : {X : Type 0} (o : Option (Bor X)) (p : Option X) → MatchOption o (p ≡ None) (λ v. p ≡ Some v.now) → option_copied o ≡ p
match_copied None p e = sym e
match_copied (Some v) p e = sym e

same_cells : {X Y : Type 0} (f g : X → Y) (xs : List X) → ((x : X) → f x ≡ g x) → map f xs ≡ map g xs
same_cells f g [] each = refl
same_cells f g (x ∷ xs) each = ap (λ l. f x ∷ l) (same_cells f g xs each) ∙ ap (λ y. y ∷ map g xs) (each x)

told_again : (o : Option CellValue) → value_told (told_or_no_row o) ≡ o
told_again None = refl
told_again (Some v) = refl

-- those of a data column of which something is kept are in the tables
pub data_values : (s : Document) (ks : List KeptTable) → IsEvaluated s ks → (t c : List ℕ) (e : KeptColumn) → Some e ≡ column_at ks t c → false ≡ e.is_formula → (rows : List ℕ)
    → map (cell_at s t c) rows ≡ map (cell_at (filled s) t c) rows
data_values s ks is t c e there plain rows =
    same_cells (cell_at s t c) (cell_at (filled s) t c) rows
    (λ r. sym (told_again (cell_at s t c r)) ∙ ap value_told (column_told s ks is.of_document t c e there plain r)
    ∙ filled_told (value_of s) s (held_at s ks) t c r (λ f h. is.values (cell_of t c r) f h))

-- where no column has a formula, all are
pub plain_values : (s : Document) → has_formulas s ≡ false → (t c : List ℕ) (rows : List ℕ) → map (cell_at s t c) rows ≡ map (cell_at (filled s) t c) rows
plain_values s plain t c rows = same_cells (cell_at s t c) (cell_at (filled s) t c) rows (λ r. sym (cell_plain (value_of s) s plain t c r))
