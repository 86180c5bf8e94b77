-- Lists that are made from the front, one element after another.
use Rattle.std.proofs.Common.{◌≡◌, ℕ, suc, zero, ◌+◌, ◌<◌, List, [], ◌∷◌, ◌++◌, map, take, length, get_or, refl, ap, arith, add-one}

map_take_suc : {X Y : Type 0} (f : X → Y) (xs : List X) (i : ℕ) (x : X) → i < length xs → x ≡ get_or xs i x → map f (take i xs) ++ f x ∷ [] ≡ map f (take (suc i) xs)
map_take_suc f [] i x lt is = absurd (omega (arith, lt))
map_take_suc f (z ∷ xs) zero x lt is = ap (λ y. f y ∷ []) is
map_take_suc f (z ∷ xs) (suc i) x lt is = ap (λ r. f z ∷ r) (map_take_suc f xs i x (omega (arith, lt)) is)

-- one element more of what was mapped
pub map_take_next : {X Y : Type 0} (f : X → Y) (xs : List X) (i : ℕ) (x : X) → i < length xs → x ≡ get_or xs i x → map f (take i xs) ++ f x ∷ [] ≡ map f (take (i + 1) xs)
map_take_next f xs i x lt is = rw (add-one i) (map_take_suc f xs i x lt is)

read_again : (xs : List ℕ) (i : ℕ) → i < length xs → get_or xs i 0 ≡ get_or xs i (get_or xs i 0)
read_again [] i lt = absurd (omega (arith, lt))
read_again (z ∷ xs) zero lt = refl
read_again (z ∷ xs) (suc i) lt = read_again xs i (omega (arith, lt))

-- the same of numbers, that are read by their index
pub map_take_read : {Y : Type 0} (f : ℕ → Y) (xs : List ℕ) (i : ℕ) → i < length xs → map f (take i xs) ++ f (get_or xs i 0) ∷ [] ≡ map f (take (i + 1) xs)
map_take_read f xs i lt = map_take_next f xs i (get_or xs i 0) lt (read_again xs i lt)
