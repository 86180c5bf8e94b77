-- Rows taken out of columns from the first one on, and columns moved to where there is room.
use Rattle.std.proofs.Common.{ℕ, zero, suc, List, [], ◌∷◌, ◌++◌, ◌+◌, map, take, get_or, insert, set, length, Vec, vec_len, vec_capacity, ◌≡◌, ◌<◌, ◌≤◌, refl, sym, ap, subst, ◌∙◌, arith}
use Rattle.std.specs.Global.{Global}
use Rattle.std.specs.List.{AllByRecursion, remove}
use Rattle.cell_types.specs.declared.value.CellValue.{CellValue}
use Rattle.cell_types.specs.declared.value.CellValue.TheVariants.{Null}
use Rattle.column_store.specs.Crossed.{AreRooms, HaveHeight, all_items, remove_each, remove_firsts}
use Rattle.column_store.proofs.CrossedLaws.{map_set, items_at, len_map}

-- ---- what holds of each

module _ {X : Type 0} (P : X → Type 0) where
  pub each_more : (xs : List X) (x : X) → AllByRecursion P xs → P x → AllByRecursion P (xs ++ x ∷ [])
  each_more [] x h p = (p, tt)
  each_more (y ∷ xs) x h p = (h.0, each_more xs x h.1 p)

  pub each_fewer : (xs : List X) (x : X) → AllByRecursion P (xs ++ x ∷ []) → AllByRecursion P xs × P x
  each_fewer [] x h = (tt, h.0)
  each_fewer (y ∷ xs) x h = let rest : AllByRecursion P xs × P x = each_fewer xs x h.1 in ((h.0, rest.0), rest.1)

  pub each_there : (xs : List X) (j : ℕ) (d : X) → AllByRecursion P xs → j < length xs → P (get_or xs j d)
  each_there [] j d h l = absurd (omega arith)
  each_there (x ∷ xs) zero d h l = h.0
  each_there (x ∷ xs) (suc j) d h l = each_there xs j d h.1 (omega arith)

-- ---- a row taken out, column by column

first_kept : (j p : ℕ) (cols : List (List CellValue)) → get_or (remove_firsts j p cols) j [] ≡ get_or cols j []
first_kept zero p cols = refl
first_kept (suc j) p [] = refl
first_kept (suc j) p (c ∷ cols) = first_kept j p cols

remove_next : (j p : ℕ) (cols : List (List CellValue)) → j < length cols
    → set (remove_firsts j p cols) j (remove (get_or cols j []) p) ≡ remove_firsts (suc j) p cols
remove_next j p [] l = absurd (omega arith)
remove_next zero p (c ∷ cols) l = refl
remove_next (suc j) p (c ∷ cols) l = ap (λ cs. remove c p ∷ cs) (remove_next j p cols (omega arith))

-- the column that is read next is as it was
pub column_read : (j p : ℕ) (before : List (List CellValue)) (cols : List (Vec CellValue Global)) (v : Vec CellValue Global) → all_items cols ≡ remove_firsts j p before → j < length cols → v ≡ get_or cols j v
    → v.items ≡ get_or before j []
column_read j p before cols v e l is =
    ap (λ (u : Vec CellValue Global). u.items) is ∙ sym (items_at cols j v l)
    ∙ ap (λ cs. get_or cs j []) e ∙ first_kept j p before

pub take_step : (j p : ℕ) (before : List (List CellValue)) (cols : List (Vec CellValue Global)) (v w : Vec CellValue Global) → all_items cols ≡ remove_firsts j p before → j < length before → j < length cols → v ≡ get_or cols j v → w.items ≡ remove v.items p
    → all_items (set cols j w) ≡ remove_firsts (suc j) p before
take_step j p before cols v w e lb l is out =
    map_set (λ (u : Vec CellValue Global). u.items) cols j w
    ∙ ap (λ cs. set cs j w.items) e
    ∙ ap (set (remove_firsts j p before) j) (out ∙ ap (λ xs. remove xs p) (column_read j p before cols v e l is))
    ∙ remove_next j p before lb

-- ---- rooms

pub no_height : (rooms : List (Vec CellValue Global)) → AreRooms 0 rooms → HaveHeight 0 (all_items rooms)
no_height [] h = tt
no_height (v ∷ rooms) h = (omega (arith, v.ok.0, h.0.0), no_height rooms h.1)

pub length_more : {X : Type 0} (xs : List X) (x : X) → length (xs ++ x ∷ []) ≡ length xs + 1
length_more [] x = refl
length_more (y ∷ xs) x = let later : length (xs ++ x ∷ []) ≡ length xs + 1 = length_more xs x in omega arith

pub one_fewer : {X : Type 0} (all xs : List X) (x : X) → all ≡ xs ++ x ∷ [] → length all ≡ suc (length xs)
one_fewer all xs x e = let n : length (xs ++ x ∷ []) ≡ length xs + 1 = length_more xs x in ap length e ∙ omega arith

pub length_put : {X : Type 0} (xs : List X) (i : ℕ) (x : X) → length (insert xs i x) ≡ length xs + 1
length_put [] zero x = refl
length_put [] (suc i) x = refl
length_put (y ∷ xs) zero x = omega arith
length_put (y ∷ xs) (suc i) x = let later : length (insert xs i x) ≡ length xs + 1 = length_put xs i x in omega arith

pub length_out : {X : Type 0} (xs : List X) (i : ℕ) → i < length xs → length (remove xs i) + 1 ≡ length xs
length_out [] i l = absurd (omega arith)
length_out (y ∷ xs) zero l = omega arith
length_out (y ∷ xs) (suc i) l = let later : length (remove xs i) + 1 ≡ length xs = length_out xs i (omega arith) in omega arith
