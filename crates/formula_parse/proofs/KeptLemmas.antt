-- When a tree is not too high.
use Rattle.std.specs.Prelude.{ℕ, ◌+◌, ◌≤◌, ◌<◌, ◌≡◌, Some, None, refl}
use Rattle.std.proofs.Common.{arith}
use Rattle.std.proofs.lemmas.Bool.{le-leb}
use borrow.Author.Tests.{lt-leb}
use Rattle.formula_parse.specs.Tree.{Tree, height_of}
use Rattle.formula_parse.specs.Standing.{max_height}
use Rattle.formula_parse.specs.Machine.{kept}

pub kept_none : (t : Tree) (b : ℕ) → height_of t ≡ b + 1 → 256 ≤ b → kept t ≡ None
unfolding kept max_height
kept_none t b e h = let below : 256 < height_of t = omega arith in rw (lt-leb _ _ below) refl

pub kept_is : (t : Tree) (b : ℕ) → height_of t ≡ b + 1 → b < 256 → kept t ≡ Some t
unfolding kept max_height
kept_is t b e h = let low : height_of t ≤ 256 = omega arith in rw (le-leb _ _ low) refl
