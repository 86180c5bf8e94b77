-- The names of keys, in a sorted set and in order.
use Rattle.std.proofs.Common.{◌≡◌, ℕ, Bool, true, false, cond, ◌||◌, List, [], ◌∷◌, ◌++◌, refl, ap, ◌∙◌}
use Rattle.std.specs.Str.{bytes_eq}
use Rattle.formula_parse.specs.Standing.{has_key}
use Rattle.formula_parse.specs.Tree.{Tree}

or_first : (b : Bool) → (b || false) ≡ cond b true false
or_first true = refl
or_first false = refl

or_later : (a b r : Bool) → (a || cond b true r) ≡ cond b true (a || r)
or_later true true r = refl
or_later true false r = refl
or_later false true r = refl
or_later false false r = refl

-- with one more key the names are those before and its own
pub has_key-push : (q : List ℕ) (k : List ℕ × Tree) (ks : List (List ℕ × Tree)) → has_key q (ks ++ k ∷ []) ≡ cond (bytes_eq k.0 q) true (has_key q ks)
has_key-push q k [] = or_first (bytes_eq k.0 q)
has_key-push q k (l ∷ ks) = ap (λ b. bytes_eq l.0 q || b) (has_key-push q k ks) ∙ or_later (bytes_eq l.0 q) (bytes_eq k.0 q) (has_key q ks)
