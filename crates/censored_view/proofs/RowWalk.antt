-- Rows that are shown, one after another.
use Rattle.std.proofs.Common.{ℕ, ◌+◌, ◌<◌, ◌≤◌, Bool, true, false, cond, List, [], ◌∷◌, ◌++◌, map, filter, take, length, get_or, ◌≡◌, refl, sym, ap, ◌∙◌, Some, arith}
use Rattle.std.proofs.lemmas.List.{map-append, take_more}
use Rattle.std.proofs.lemmas.List.Elements.{filter-append}
use Rattle.std.specs.List.{list_any}
use Rattle.cell_types.specs.declared.value.CellValue.{CellValue}
use Rattle.doc_model.specs.declared.view.ViewCol.{ViewCol}
use Rattle.acl_formula.specs.RuleRow.{RuleRow}
use Rattle.censored_view.specs.Readable.{Readable}
use Rattle.censored_view.specs.View.{is_row_shown, shown_rows, shown_value}

-- the first so many, and the next one
pub take_one : {X : Type 0} (xs : List X) (i : ℕ) (x : X) → i < length xs → x ≡ get_or xs i x → take (i + 1) xs ≡ take i xs ++ x ∷ []
take_one xs i x lt is = take_more xs i x lt ∙ ap (λ z. take i xs ++ z ∷ []) (sym is)

pub map_one : {X Y : Type 0} (f : X → Y) (b : Bool) (x : X) → map f (cond b (x ∷ []) []) ≡ cond b (f x ∷ []) []
map_one f true x = refl
map_one f false x = refl

-- one row more, where it passes
grown : {W Y : Type 0} (told : W → RuleRow) (p : RuleRow → Bool) (f : RuleRow → Y) (ws : List W) (i : ℕ) (w : W) (ys zs : List Y) → i < length ws → w ≡ get_or ws i w
    → ys ≡ map f (filter p (map told (take i ws))) → zs ≡ ys ++ cond (p (told w)) (f (told w) ∷ []) [] → zs ≡ map f (filter p (map told (take (i + 1) ws)))
grown told p f ws i w ys zs lt is so made =
    made ∙ ap (λ l. l ++ cond (p (told w)) (f (told w) ∷ []) []) so
    ∙ ap (λ l. map f (filter p (map told (take i ws))) ++ l) (sym (map_one f (p (told w)) (told w)))
    ∙ sym (map-append f (filter p (map told (take i ws))) (cond (p (told w)) (told w ∷ []) []))
    ∙ ap (map f) (sym (filter-append p (map told (take i ws)) (told w ∷ [])))
    ∙ ap (λ l. map f (filter p l)) (sym (map-append told (take i ws) (w ∷ [])))
    ∙ ap (λ l. map f (filter p (map told l))) (sym (take_one ws i w lt is))

module _ {W : Type 0} (told : W → RuleRow) (x : Readable) (id : List ℕ) (ds : List ViewCol) (ws : List W) (i : ℕ) (w : W) (lt : i < length ws) (is : w ≡ get_or ws i w) where
  pub rows_next : (ys zs : List ℕ) → ys ≡ (shown_rows x id ds (map told (take i ws))).rows → zs ≡ ys ++ cond (is_row_shown x ds (told w)) ((told w).id ∷ []) [] → zs ≡ (shown_rows x id ds (map told (take (i + 1) ws))).rows
  rows_next ys zs so made = grown told (is_row_shown x ds) (λ (v : RuleRow). v.id) ws i w ys zs lt is so made

  pub cells_next : (ys zs : List (List CellValue)) → ys ≡ (shown_rows x id ds (map told (take i ws))).cells → zs ≡ ys ++ cond (is_row_shown x ds (told w)) (map (shown_value x (told w)) ds ∷ []) [] → zs ≡ (shown_rows x id ds (map told (take (i + 1) ws))).cells
  cells_next ys zs so made = grown told (is_row_shown x ds) (λ v. map (shown_value x v) ds) ws i w ys zs lt is so made

-- a row of a table with columns is shown where it may be read in one of them
pub some_shown : (x : Readable) (row : RuleRow) (ds : List ViewCol) → 1 ≤ length ds → is_row_shown x ds row ≡ list_any (λ (d : ViewCol). x.cell (Some d.id) row) ds
some_shown x row [] le = absurd (omega (arith, le))
some_shown x row (d ∷ ds) le = refl
