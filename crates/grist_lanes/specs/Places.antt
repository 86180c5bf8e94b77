-- What lists have in the same places.
use Rattle.std.specs.Prelude.{ℕ, ◌≡◌, List, Some, slice_get}

-- the relation holds of what stands in each place of both
abbrev pub AtEach : {A : Type 0} → (ℕ → A → A → Type 0) → List A → List A → Type 0
AtEach {A} R xs ys =
    (i : ℕ) (x y : A) → slice_get xs i ≡ Some x → slice_get ys i ≡ Some y → R i x y
