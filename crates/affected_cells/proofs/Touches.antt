-- The affected cells are closed: what is not affected reads nothing that is touched.
use mathlib.Core.Path.{fun_ext}
use Rattle.std.proofs.Common.{ℕ, zero, suc, Bool, true, false, ◌&&◌, ◌||◌, List, [], ◌∷◌, length, ◌≡◌, inl, inr, refl, sym, ap, ◌∙◌, subst, Some, None, arith}
use Rattle.std.proofs.lemmas.Bool.{false≢true}
use Rattle.std.specs.Option.{is_some}
use Rattle.std.specs.Str.{bytes_eq}
use Rattle.std.proofs.lemmas.Slice.Eq.{bytes_eq-Decides}
use Rattle.std.specs.List.{list_any, AllByRecursion}
use Rattle.cell_types.specs.declared.cell.CellId.{CellId}
use Rattle.cell_types.specs.declared.cell.Read.{Read}
use Rattle.cell_types.specs.declared.cell.Read.TheVariants.{Cell, Key, Rows}
use Rattle.recalc.specs.Cells.{cell_of}
use Rattle.recalc.specs.Sheet.{Sheet, IsIn, IsListed, reads}
use Rattle.recalc.specs.Stack.{count}
use Rattle.affected_cells.proofs.Tests.{any_false, all_weaker, or_false}
use Rattle.affected_cells.specs.Untouched.{IsUntouchedCell, IsUntouched, IsClosed}
use Rattle.affected_cells.specs.Affected.{names_one, affect_step, affected_by, affected_in}
use Rattle.affected_cells.specs.TouchedRight.{IsSameCell, IsTouchedRight}
use Rattle.recalc.proofs.Settled.{count_length, count_more, count_same}
use Rattle.recalc.proofs.Settles.{settles}

same_bool : (a b : Bool) → (a ≡ true → b ≡ true) → (b ≡ true → a ≡ true) → a ≡ b
same_bool true true h g = refl
same_bool true false h g = absurd (false≢true (h refl))
same_bool false true h g = absurd (false≢true (g refl))
same_bool false false h g = refl

all_at : (P : CellId → Type 0) (xs : List CellId) → AllByRecursion P xs → (c : CellId) → IsIn c xs → P c
all_at P [] all c i = absurd i
all_at P (x ∷ xs) all c (inl e) = subst P e all.0
all_at P (x ∷ xs) all c (inr i) = all_at P xs all.1 c i

module _ (s t : Sheet) (fresh : CellId → Bool) (touched : Read → Bool) (listed : IsListed t) where
  keeps_on : (n : ℕ) (c : CellId) → affected_by s t fresh touched n c ≡ true → affected_by s t fresh touched (suc n) c ≡ true
  keeps_on zero c e = absurd (false≢true e)
  keeps_on (suc n) c e = both (is_some (t.formula c)) (affected_by s t fresh touched (suc n) c) (fresh c || list_any (λ q. touched q || names_one s t fresh touched (affected_by s t fresh touched (suc n)) q) (reads s c)) (is_formula (is_some (t.formula c)) _ e) e
    where
      is_formula : (a b : Bool) → (a && b) ≡ true → a ≡ true
      is_formula true b e = refl
      is_formula false b e = absurd (false≢true e)

      both : (a b d : Bool) → a ≡ true → b ≡ true → (a && (b || d)) ≡ true
      both true true d h g = refl
      both true false d h g = absurd (false≢true g)
      both false b d h g = absurd (false≢true h)

  outside : (n : ℕ) (c : CellId) → t.formula c ≡ None → affected_by s t fresh touched n c ≡ false
  outside zero c e = refl
  outside (suc n) c e = ap (λ o. is_some o && (affected_by s t fresh touched n c || (fresh c || list_any (λ q. touched q || names_one s t fresh touched (affected_by s t fresh touched n) q) (reads s c)))) e

  rests : (n : ℕ) → count (affected_by s t fresh touched n) t.cells ≡ count (affected_by s t fresh touched (suc n)) t.cells → affected_by s t fresh touched n ≡ affected_by s t fresh touched (suc n)
  rests n e = fun_ext each
    where
      each : (c : CellId) → affected_by s t fresh touched n c ≡ affected_by s t fresh touched (suc n) c
      each c = elim (t.formula c) as (λ o. t.formula c ≡ o → affected_by s t fresh touched n c ≡ affected_by s t fresh touched (suc n) c) [
        | None ↦ λ f. outside n c f ∙ sym (outside (suc n) c f)
        | Some g ↦ λ f. count_same (affected_by s t fresh touched n) (affected_by s t fresh touched (suc n)) t.cells (keeps_on n) e c (listed c g f)
      ] refl

  -- one round more affects no other cell
  pub affected_rests : affected_in s t fresh touched ≡ affect_step s t fresh touched (affected_in s t fresh touched)
  affected_rests = settles (affect_step s t fresh touched) (affected_by s t fresh touched) (λ n. refl) (λ p. count p t.cells) (length t.cells)
      (λ n. count_length (affected_by s t fresh touched n) t.cells)
      (λ n. count_more (affected_by s t fresh touched n) (affected_by s t fresh touched (suc n)) t.cells (keeps_on n))
      rests (length t.cells) (omega arith)

  free : (c : CellId) (f : List ℕ) → t.formula c ≡ Some f → affected_in s t fresh touched c ≡ false
      → (fresh c ≡ false) × AllByRecursion (λ q. (touched q || names_one s t fresh touched (affected_in s t fresh touched) q) ≡ false) (reads s c)
  free c f e h =
      let step : affect_step s t fresh touched (affected_in s t fresh touched) c ≡ false = sym (ap (λ p. p c) affected_rests) ∙ h in
      let inner : (affected_in s t fresh touched c || (fresh c || list_any (λ q. touched q || names_one s t fresh touched (affected_in s t fresh touched) q) (reads s c))) ≡ false = subst (λ o. (is_some o && (affected_in s t fresh touched c || (fresh c || list_any (λ q. touched q || names_one s t fresh touched (affected_in s t fresh touched) q) (reads s c)))) ≡ false) e step in
      let rest = or_false (affected_in s t fresh touched c) (fresh c || list_any (λ q. touched q || names_one s t fresh touched (affected_in s t fresh touched) q) (reads s c)) inner in
      let parts = or_false (fresh c) (list_any (λ q. touched q || names_one s t fresh touched (affected_in s t fresh touched) q) (reads s c)) rest.1 in
      (parts.0, any_false (λ q. touched q || names_one s t fresh touched (affected_in s t fresh touched) q) (reads s c) parts.1)

  module _ (right : IsTouchedRight s t fresh touched) where
    same_cell_free : (d : CellId) → IsSameCell s t fresh touched d → affected_in s t fresh touched d ≡ false → IsUntouchedCell s t (affected_in s t fresh touched) d
    same_cell_free d (inl h) e = inl h
    same_cell_free d (inr h) e = inr (h.0, h.1, h.2, e)

    -- a cell of the column that is no formula cell is not affected at all
    key_free : (u k : List ℕ) (r : ℕ) → list_any (λ d. bytes_eq d.table u && bytes_eq d.column k && affected_in s t fresh touched d) t.cells ≡ false → affected_in s t fresh touched (cell_of u k r) ≡ false
    key_free u k r h = elim (t.formula (cell_of u k r)) as (λ o. t.formula (cell_of u k r) ≡ o → affected_in s t fresh touched (cell_of u k r) ≡ false) [
      | None ↦ λ f. outside (length t.cells) (cell_of u k r) f
      | Some g ↦ λ f. third (bytes_eq u u) (bytes_eq k k) (affected_in s t fresh touched (cell_of u k r)) ((bytes_eq-Decides u u).1 refl) ((bytes_eq-Decides k k).1 refl)
          (all_at (λ d. (bytes_eq d.table u && bytes_eq d.column k && affected_in s t fresh touched d) ≡ false) t.cells (any_false (λ d. bytes_eq d.table u && bytes_eq d.column k && affected_in s t fresh touched d) t.cells h) (cell_of u k r) (listed (cell_of u k r) g f))
    ] refl
      where
        third : (a b d : Bool) → a ≡ true → b ≡ true → (a && b && d) ≡ false → d ≡ false
        third true true d h g e = e
        third true false d h g e = absurd (false≢true g)
        third false b d h g e = absurd (false≢true h)

    untouched : (q : Read) → (touched q || names_one s t fresh touched (affected_in s t fresh touched) q) ≡ false → IsUntouched s t (affected_in s t fresh touched) q
    untouched (Cell d) h = let p = or_false (touched (Cell d)) (affected_in s t fresh touched d) h in let r = right.cell d p.0 in (r.0, same_cell_free d r.1 p.1)
    untouched (Key u k) h =
        let p = or_false (touched (Key u k)) (list_any (λ d. bytes_eq d.table u && bytes_eq d.column k && affected_in s t fresh touched d) t.cells) h in
        let w = right.key u k p.0 in
        (w.0, λ r. same_cell_free (cell_of u k r) (w.1 r) (key_free u k r p.1))
    untouched (Rows u) h = right.rows u (or_false (touched (Rows u)) false h).0

    pub affected_closed : IsClosed s t (affected_in s t fresh touched)
    affected_closed = record {
      was = λ c f e h. right.was c f e (free c f e h).0;
      kind = λ c f e h. right.kind c f e (free c f e h).0;
      untouched = λ c f e h. all_weaker (λ q. (touched q || names_one s t fresh touched (affected_in s t fresh touched) q) ≡ false) (IsUntouched s t (affected_in s t fresh touched)) untouched (reads s c) (free c f e h).1;
    }
