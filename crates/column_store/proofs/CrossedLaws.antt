-- Changes of columns are changes of the rows that they cross to.
use Rattle.std.proofs.Common.{ℕ, zero, suc, List, [], ◌∷◌, map, get_or, set, insert, length, slice_get, Vec, Option, None, Some, Bor, ltb, ◌≡◌, ◌<◌, ◌≤◌, refl, subst, sym, ap, ◌∙◌, arith}
use Rattle.std.specs.Global.{Global}
use Rattle.std.proofs.lemmas.Bool.{ltb-true, ltb-false}
use Rattle.std.specs.Option.{option_copied, is_some, IfSome}
use Rattle.std.specs.List.{remove}
use Rattle.cell_types.specs.declared.value.CellValue.{CellValue}
use Rattle.cell_types.specs.declared.value.CellValue.TheVariants.{Null}
use Rattle.column_store.specs.Crossed.{first, rest, all_items, crossed, HaveHeight, insert_each, remove_each, set_in}

-- ---- one list

pub map_set : {X Y : Type 0} (f : X → Y) (xs : List X) (j : ℕ) (x : X) → map f (set xs j x) ≡ set (map f xs) j (f x)
map_set f [] j x = refl
map_set f (y ∷ xs) zero x = refl
map_set f (y ∷ xs) (suc j) x = ap (λ ys. f y ∷ ys) (map_set f xs j x)

set_same : {X : Type 0} (xs : List X) (j : ℕ) (d : X) → set xs j (get_or xs j d) ≡ xs
set_same [] j d = refl
set_same (y ∷ xs) zero d = refl
set_same (y ∷ xs) (suc j) d = ap (λ ys. y ∷ ys) (set_same xs j d)

rest_at : (cols : List (List CellValue)) (j : ℕ) → get_or (map rest cols) j [] ≡ rest (get_or cols j [])
rest_at [] j = refl
rest_at (c ∷ cols) zero = refl
rest_at (c ∷ cols) (suc j) = rest_at cols j

first_at : (cols : List (List CellValue)) (j : ℕ) → get_or (map first cols) j Null ≡ first (get_or cols j [])
first_at [] j = refl
first_at (c ∷ cols) zero = refl
first_at (c ∷ cols) (suc j) = first_at cols j

pub rest_height : (n : ℕ) (cols : List (List CellValue)) → HaveHeight (suc n) cols → HaveHeight n (map rest cols)
rest_height n [] h = tt
rest_height n ([] ∷ cols) h = absurd (omega arith)
rest_height n ((v ∷ c) ∷ cols) h = (omega arith, rest_height n cols h.1)

-- ---- a cell set

set_first : (n : ℕ) (cols : List (List CellValue)) (j : ℕ) (v : CellValue) → HaveHeight (suc n) cols → set (map first cols) j (first (set (get_or cols j []) 0 v)) ≡ set (map first cols) j v
set_first n [] j v h = refl
set_first n ([] ∷ cols) j v h = absurd (omega arith)
set_first n ((w ∷ c) ∷ cols) zero v h = refl
set_first n ((w ∷ c) ∷ cols) (suc j) v h = ap (λ ys. w ∷ ys) (set_first n cols j v h.1)

rest_first : (c : List CellValue) (v : CellValue) → rest (set c 0 v) ≡ rest c
rest_first [] v = refl
rest_first (w ∷ c) v = refl

first_later : (c : List CellValue) (i : ℕ) (v : CellValue) → first (set c (suc i) v) ≡ first c
first_later [] i v = refl
first_later (w ∷ c) i v = refl

rest_later : (c : List CellValue) (i : ℕ) (v : CellValue) → rest (set c (suc i) v) ≡ set (rest c) i v
rest_later [] i v = refl
rest_later (w ∷ c) i v = refl

pub set_crossed : (n : ℕ) (cols : List (List CellValue)) (j i : ℕ) (v : CellValue) → HaveHeight n cols
    → crossed n (set_in j i v cols) ≡ set (crossed n cols) i (set (get_or (crossed n cols) i []) j v)
set_crossed zero cols j i v h = refl
set_crossed (suc n) cols j zero v h =
    ap (λ xs. xs ∷ crossed n (map rest (set_in j 0 v cols))) (map_set first cols j (set (get_or cols j []) 0 v) ∙ set_first n cols j v h)
    ∙ ap (λ ys. set (map first cols) j v ∷ crossed n ys) (map_set rest cols j (set (get_or cols j []) 0 v) ∙ ap (set (map rest cols) j) (rest_first (get_or cols j []) v ∙ sym (rest_at cols j)) ∙ set_same (map rest cols) j [])
set_crossed (suc n) cols j (suc i) v h =
    ap (λ xs. xs ∷ crossed n (map rest (set_in j (suc i) v cols))) (map_set first cols j (set (get_or cols j []) (suc i) v) ∙ ap (set (map first cols) j) (first_later (get_or cols j []) i v ∙ sym (first_at cols j)) ∙ set_same (map first cols) j Null)
    ∙ ap (λ ys. map first cols ∷ crossed n ys) (map_set rest cols j (set (get_or cols j []) (suc i) v) ∙ ap (set (map rest cols) j) (rest_later (get_or cols j []) i v ∙ ap (λ c. set c i v) (sym (rest_at cols j))))
    ∙ ap (λ ys. map first cols ∷ ys) (set_crossed n (map rest cols) j i v (rest_height n cols h))

-- ---- a row put in

first_in : (p : ℕ) (xs : List CellValue) (cols : List (List CellValue)) → length xs ≡ length cols → map first (insert_each 0 xs cols) ≡ xs
first_in p [] [] e = refl
first_in p [] (c ∷ cols) e = absurd (omega arith)
first_in p (x ∷ xs) [] e = absurd (omega arith)
first_in p (x ∷ xs) (c ∷ cols) e = ap (λ ys. x ∷ ys) (first_in p xs cols (omega arith))

rest_in : (xs : List CellValue) (cols : List (List CellValue)) → length xs ≡ length cols → map rest (insert_each 0 xs cols) ≡ cols
rest_in [] [] e = refl
rest_in [] (c ∷ cols) e = absurd (omega arith)
rest_in (x ∷ xs) [] e = absurd (omega arith)
rest_in (x ∷ xs) (c ∷ cols) e = ap (λ ys. c ∷ ys) (rest_in xs cols (omega arith))

first_in_later : (n p : ℕ) (xs : List CellValue) (cols : List (List CellValue)) → HaveHeight (suc n) cols → map first (insert_each (suc p) xs cols) ≡ map first cols
first_in_later n p [] cols h = refl
first_in_later n p (x ∷ xs) [] h = refl
first_in_later n p (x ∷ xs) ([] ∷ cols) h = absurd (omega arith)
first_in_later n p (x ∷ xs) ((w ∷ c) ∷ cols) h = ap (λ ys. w ∷ ys) (first_in_later n p xs cols h.1)

rest_in_later : (n p : ℕ) (xs : List CellValue) (cols : List (List CellValue)) → HaveHeight (suc n) cols → map rest (insert_each (suc p) xs cols) ≡ insert_each p xs (map rest cols)
rest_in_later n p [] cols h = refl
rest_in_later n p (x ∷ xs) [] h = refl
rest_in_later n p (x ∷ xs) ([] ∷ cols) h = absurd (omega arith)
rest_in_later n p (x ∷ xs) ((w ∷ c) ∷ cols) h = ap (λ ys. insert c p x ∷ ys) (rest_in_later n p xs cols h.1)

pub len_map : {X Y : Type 0} (f : X → Y) (xs : List X) → length (map f xs) ≡ length xs
len_map f [] = refl
len_map f (x ∷ xs) = ap suc (len_map f xs)

pub insert_crossed : (n : ℕ) (cols : List (List CellValue)) (p : ℕ) (xs : List CellValue) → HaveHeight n cols → p ≤ n → length xs ≡ length cols
    → crossed (suc n) (insert_each p xs cols) ≡ insert (crossed n cols) p xs
insert_crossed n cols zero xs h l e =
    ap (λ ys. ys ∷ crossed n (map rest (insert_each 0 xs cols))) (first_in 0 xs cols e) ∙ ap (λ ys. xs ∷ crossed n ys) (rest_in xs cols e)
insert_crossed zero cols (suc p) xs h l e = absurd (omega arith)
insert_crossed (suc n) cols (suc p) xs h l e =
    ap (λ ys. ys ∷ crossed (suc n) (map rest (insert_each (suc p) xs cols))) (first_in_later n p xs cols h)
    ∙ ap (λ ys. map first cols ∷ crossed (suc n) ys) (rest_in_later n p xs cols h)
    ∙ ap (λ ys. map first cols ∷ ys) (insert_crossed n (map rest cols) p xs (rest_height n cols h) (omega arith) (e ∙ sym (len_map rest cols)))

-- ---- a row taken out

first_out : (n p : ℕ) (cols : List (List CellValue)) → HaveHeight (suc n) cols → map first (remove_each (suc p) cols) ≡ map first cols
first_out n p [] h = refl
first_out n p ([] ∷ cols) h = absurd (omega arith)
first_out n p ((w ∷ c) ∷ cols) h = ap (λ ys. w ∷ ys) (first_out n p cols h.1)

rest_out : (n p : ℕ) (cols : List (List CellValue)) → HaveHeight (suc n) cols → map rest (remove_each (suc p) cols) ≡ remove_each p (map rest cols)
rest_out n p [] h = refl
rest_out n p ([] ∷ cols) h = absurd (omega arith)
rest_out n p ((w ∷ c) ∷ cols) h = ap (λ ys. remove c p ∷ ys) (rest_out n p cols h.1)

out_first : (n : ℕ) (cols : List (List CellValue)) → HaveHeight (suc n) cols → remove_each 0 cols ≡ map rest cols
out_first n [] h = refl
out_first n ([] ∷ cols) h = absurd (omega arith)
out_first n ((w ∷ c) ∷ cols) h = ap (λ ys. c ∷ ys) (out_first n cols h.1)

pub remove_crossed : (n : ℕ) (cols : List (List CellValue)) (p : ℕ) → HaveHeight (suc n) cols → p ≤ n
    → crossed n (remove_each p cols) ≡ remove (crossed (suc n) cols) p
remove_crossed n cols zero h l = ap (crossed n) (out_first n cols h)
remove_crossed zero cols (suc p) h l = absurd (omega arith)
remove_crossed (suc n) cols (suc p) h l =
    ap (λ ys. ys ∷ crossed n (map rest (remove_each (suc p) cols))) (first_out (suc n) p cols h)
    ∙ ap (λ ys. map first cols ∷ crossed n ys) (rest_out (suc n) p cols h)
    ∙ ap (λ ys. map first cols ∷ ys) (remove_crossed n (map rest cols) p (rest_height (suc n) cols h) (omega arith))

-- ---- rows read

get_first : (c : List CellValue) (i : ℕ) → get_or (rest c) i Null ≡ get_or c (suc i) Null
get_first [] i = refl
get_first (v ∷ c) i = refl

map_get : (cols : List (List CellValue)) (i : ℕ) → map (λ c. get_or c i Null) (map rest cols) ≡ map (λ c. get_or c (suc i) Null) cols
map_get [] i = refl
map_get (c ∷ cols) i = ap (λ v. v ∷ map (λ c. get_or c i Null) (map rest cols)) (get_first c i) ∙ ap (λ vs. get_or c (suc i) Null ∷ vs) (map_get cols i)

pub get_crossed : (n : ℕ) (cols : List (List CellValue)) (i : ℕ) → i < n → get_or (crossed n cols) i [] ≡ map (λ c. get_or c i Null) cols
get_crossed zero cols i l = absurd (omega arith)
get_crossed (suc n) cols zero l = refl
get_crossed (suc n) cols (suc i) l = get_crossed n (map rest cols) i (omega arith) ∙ map_get cols i

pub length_crossed : (n : ℕ) (cols : List (List CellValue)) → length (crossed n cols) ≡ n
length_crossed zero cols = refl
length_crossed (suc n) cols = ap suc (length_crossed n (map rest cols))

-- ---- one cell read

pub items_at : (cols : List (Vec CellValue Global)) (j : ℕ) (d : Vec CellValue Global) → j < length cols → get_or (all_items cols) j [] ≡ (get_or cols j d).items
items_at [] j d l = absurd (omega arith)
items_at (c ∷ cols) zero d l = refl
items_at (c ∷ cols) (suc j) d l = items_at cols j d (omega arith)

get_past : {X : Type 0} (xs : List X) (i : ℕ) (d : X) → length xs ≤ i → get_or xs i d ≡ d
get_past [] i d l = refl
get_past (x ∷ xs) zero d l = absurd (omega arith)
get_past (x ∷ xs) (suc i) d l = get_past xs i d (omega arith)

pub column_height : (n : ℕ) (cols : List (List CellValue)) (j : ℕ) → HaveHeight n cols → j < length cols → length (get_or cols j []) ≡ n
column_height n [] j h l = absurd (omega arith)
column_height n (c ∷ cols) zero h l = h.0
column_height n (c ∷ cols) (suc j) h l = column_height n cols j h.1 (omega arith)

first_or : (n : ℕ) (cols : List (List CellValue)) (j : ℕ) (d : CellValue) → HaveHeight (suc n) cols → get_or (get_or cols j []) 0 d ≡ get_or (map first cols) j d
first_or n [] j d h = refl
first_or n ([] ∷ cols) j d h = absurd (omega arith)
first_or n ((v ∷ c) ∷ cols) zero d h = refl
first_or n ((v ∷ c) ∷ cols) (suc j) d h = first_or n cols j d h.1

rest_or : (c : List CellValue) (i : ℕ) (d : CellValue) → get_or c (suc i) d ≡ get_or (rest c) i d
rest_or [] i d = refl
rest_or (v ∷ c) i d = refl

-- the cell of a column at a row is the one of the row at the column
pub cell_crossed : (n : ℕ) (cols : List (List CellValue)) (i j : ℕ) (d : CellValue) → HaveHeight n cols → get_or (get_or cols j []) i d ≡ get_or (get_or (crossed n cols) i []) j d
cell_crossed zero cols i j d h = get_past (get_or cols j []) i d (none cols j h)
  where
    none : (cols : List (List CellValue)) (j : ℕ) → HaveHeight 0 cols → length (get_or cols j []) ≤ i
    none [] j h = omega arith
    none (c ∷ cols) zero h = omega (arith, h.0)
    none (c ∷ cols) (suc j) h = none cols j h.1
cell_crossed (suc n) cols zero j d h = first_or n cols j d h
cell_crossed (suc n) cols (suc i) j d h =
    rest_or (get_or cols j []) i d ∙ ap (λ c. get_or c i d) (sym (rest_at cols j))
    ∙ cell_crossed n (map rest cols) i j d (rest_height n cols h)

first_slice : (n : ℕ) (cols : List (List CellValue)) (j : ℕ) → HaveHeight (suc n) cols → slice_get (get_or cols j []) 0 ≡ slice_get (map first cols) j
first_slice n [] j h = refl
first_slice n ([] ∷ cols) j h = absurd (omega arith)
first_slice n ((v ∷ c) ∷ cols) zero h = refl
first_slice n ((v ∷ c) ∷ cols) (suc j) h = first_slice n cols j h.1

rest_slice : (c : List CellValue) (i : ℕ) → slice_get c (suc i) ≡ slice_get (rest c) i
rest_slice [] i = refl
rest_slice (v ∷ c) i = refl

pub slice_crossed : (n : ℕ) (cols : List (List CellValue)) (i j : ℕ) → HaveHeight n cols → slice_get (get_or cols j []) i ≡ slice_get (get_or (crossed n cols) i []) j
slice_crossed zero cols i j h = none cols j h
  where
    none : (cols : List (List CellValue)) (j : ℕ) → HaveHeight 0 cols → slice_get (get_or cols j []) i ≡ slice_get (get_or (crossed 0 cols) i []) j
    none [] j h = refl
    none ([] ∷ cols) zero h = refl
    none ((v ∷ c) ∷ cols) zero h = absurd (omega (arith, h.0))
    none (c ∷ cols) (suc j) h = none cols j h.1
slice_crossed (suc n) cols zero j h = first_slice n cols j h
slice_crossed (suc n) cols (suc i) j h =
    rest_slice (get_or cols j []) i ∙ ap (λ c. slice_get c i) (sym (rest_at cols j))
    ∙ slice_crossed n (map rest cols) i j (rest_height n cols h)

pub items_past : (cols : List (Vec CellValue Global)) (j : ℕ) → length cols ≤ j → get_or (all_items cols) j [] ≡ []
items_past [] j l = refl
items_past (c ∷ cols) zero l = absurd (omega arith)
items_past (c ∷ cols) (suc j) l = items_past cols j (omega arith)

get_there : {X : Type 0} (xs : List X) (i : ℕ) (x : X) → i < length xs → x ≡ get_or xs i x → Some x ≡ slice_get xs i
get_there [] i x l e = absurd (omega arith)
get_there (y ∷ xs) zero x l e = ap Some e
get_there (y ∷ xs) (suc i) x l e = get_there xs i x (omega arith) e

get_absent : {X : Type 0} (xs : List X) (i : ℕ) → length xs ≤ i → slice_get xs i ≡ None
get_absent [] i l = refl
get_absent (y ∷ xs) zero l = absurd (omega arith)
get_absent (y ∷ xs) (suc i) l = get_absent xs i (omega arith)

-- what a slice answers for an index
pub told_by_get : (answer : Option (Bor CellValue)) (xs : List CellValue) (i : ℕ) → is_some answer ≡ ltb i (length xs) → IfSome answer (λ x. x.now ≡ get_or xs i x.now) → option_copied answer ≡ slice_get xs i
told_by_get None xs i e h = sym (get_absent xs i (ltb-false i (length xs) (sym e)))
told_by_get (Some x) xs i e h = get_there xs i x.now (ltb-true i (length xs) (sym e)) h

set_absent : {X : Type 0} (xs : List X) (j : ℕ) (x : X) → length xs ≤ j → set xs j x ≡ xs
set_absent [] j x l = refl
set_absent (y ∷ xs) zero x l = absurd (omega arith)
set_absent (y ∷ xs) (suc j) x l = ap (λ ys. y ∷ ys) (set_absent xs j x (omega arith))

pub set_in_past : (cols : List (Vec CellValue Global)) (j i : ℕ) (v : CellValue) → length cols ≤ j → set_in j i v (all_items cols) ≡ all_items cols
set_in_past cols j i v l = set_absent (all_items cols) j (set (get_or (all_items cols) j []) i v) (subst (λ n. n ≤ j) (sym (len_map (λ (c : Vec CellValue Global). c.items) cols)) l)

length_remove : {X : Type 0} (xs : List X) (p n : ℕ) → length xs ≡ suc n → p ≤ n → length (remove xs p) ≡ n
length_remove [] p n e l = absurd (omega arith)
length_remove (x ∷ xs) zero n e l = omega arith
length_remove (x ∷ xs) (suc p) zero e l = absurd (omega arith)
length_remove (x ∷ xs) (suc p) (suc n) e l = ap suc (length_remove xs p n (omega arith) (omega arith))

pub remove_height : (n p : ℕ) (cols : List (List CellValue)) → HaveHeight (suc n) cols → p ≤ n → HaveHeight n (remove_each p cols)
remove_height n p [] h l = tt
remove_height n p (c ∷ cols) h l = (length_remove c p n h.0 l, remove_height n p cols h.1 l)

pub remove_past : {X : Type 0} (xs : List X) (p : ℕ) → length xs ≤ p → remove xs p ≡ xs
remove_past [] zero l = refl
remove_past [] (suc p) l = refl
remove_past (x ∷ xs) zero l = absurd (omega arith)
remove_past (x ∷ xs) (suc p) l = ap (λ ys. x ∷ ys) (remove_past xs p (omega arith))
