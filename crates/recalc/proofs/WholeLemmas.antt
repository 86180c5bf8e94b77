-- Formula cells of tables, columns and rows by their indexes.
use Rattle.std.proofs.Common.{ℕ, zero, suc, false, List, [], ◌∷◌, slice_get, ◌≡◌, ap, ◌∙◌, subst, Option, Some, None}
use Rattle.std.proofs.lemmas.Slice.Eq.{bytes_eq-Decides}
use Rattle.std.specs.List.{AllByRecursion}
use Rattle.std.specs.Str.{bytes_eq}
use Rattle.doc_model.specs.declared.column.ColDef.{ColDef}
use Rattle.doc_model.specs.ByIds.{find_id, AreDistinct}
use Rattle.doc_model.specs.Grid.{Grid}
use Rattle.doc_model.specs.Document.{Table, Document, table_id}
use Rattle.doc_model.specs.DocumentLaws.{IsWhole}
use Rattle.doc_model.specs.Schema.{no_grid}
use Rattle.doc_model.proofs.Choices.{cond_true, cond_false}
use Rattle.doc_readers.specs.Parts.{grid_at}
use Rattle.recalc.specs.Kept.{blank_of, blank_table}

-- what stands at a place is found by its id
pub found_at : {X : Type 0} (id : X → List ℕ) (xs : List X) (i : ℕ) (x : X) → AreDistinct id xs → slice_get xs i ≡ Some x → find_id id (id x) xs ≡ Some x
found_at id [] zero x d h = absurd (cc)
found_at id [] (suc i) x d h = absurd (cc)
found_at id (y ∷ ys) zero x d h = let same : y ≡ x = cc in cond_true (bytes_eq (id y) (id x)) (Some y) (find_id id (id x) ys) ((bytes_eq-Decides (id y) (id x)).1 (ap id same)) ∙ ap (λ z. Some z) same
found_at id (y ∷ ys) (suc i) x d h = cond_false (bytes_eq (id y) (id x)) (Some y) (find_id id (id x) ys) (apart ys i d.0 h) ∙ found_at id ys i x d.1 h
  where
    apart : (ys : List _) (i : ℕ) → AllByRecursion (λ z. bytes_eq (id y) (id z) ≡ false) ys → slice_get ys i ≡ Some x → bytes_eq (id y) (id x) ≡ false
    apart [] zero a h = absurd (cc)
    apart [] (suc i) a h = absurd (cc)
    apart (z ∷ zs) zero a h = let same : z ≡ x = cc in subst (λ w. bytes_eq (id y) (id w) ≡ false) same a.0
    apart (z ∷ zs) (suc i) a h = apart zs i a.1 h

-- the grid of the table at a place
pub grid_there : (s : Document) → IsWhole s → (i : ℕ) (t : Table) → slice_get s i ≡ Some t → grid_at s t.id ≡ t.grid
grid_there s whole i t h = ap (λ (o : Option Table). elim o as (λ _. Grid ColDef) [ None ↦ no_grid | Some t ↦ t.grid ]) (found_at table_id s i t whole.sound.distinct h)

-- what is kept blank of the table at an index
pub table_made : (s : Document) → IsWhole s → (i : ℕ) (t : Table) → slice_get s i ≡ Some t → (id : List ℕ) → id ≡ t.id → blank_of id (grid_at s id).rows (grid_at s id).columns ≡ blank_table t
table_made s whole i t at id same =
    ap (λ n. blank_of n (grid_at s n).rows (grid_at s n).columns) same ∙ ap (λ (g : Grid ColDef). blank_of t.id g.rows g.columns) (grid_there s whole i t at)
