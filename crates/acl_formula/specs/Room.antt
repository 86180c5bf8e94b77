-- How many places a formula's evaluation needs for texts and lists that it joins.
use Rattle.std.specs.Prelude.{ℕ, ◌+◌, ◌≤◌, List, length, Option, Some, None}
use Rattle.formula_parse.specs.declared.operator.BinaryOp.{BinaryOp}
use Rattle.formula_parse.specs.declared.operator.BinaryOp.TheVariants as op
use Rattle.formula_parse.specs.Tree.{Tree, binary, prefix, parentheses, list, Trees, no_trees, one_more}

-- a sum may put down both of its operands
abbrev pub put_down : BinaryOp → ℕ
put_down op.Add = 2
put_down _ = 0

-- at a time: what the parts need, and a place for each item of a list
abbrev mutual
  pub room : Tree → ℕ
  room (binary o a b) = room a + room b + put_down o
  room (prefix o a) = room a
  room (parentheses a) = room a
  room (list ts) = items_room ts
  room _ = 0

  pub items_room : Trees → ℕ
  items_room no_trees = 0
  items_room (one_more t ts) = room t + 1 + items_room ts

-- and a text without tokens needs none
abbrev pub whole_room : Option Tree → ℕ
whole_room None = 0
whole_room (Some t) = room t

-- no rule needs more
abbrev pub most_room : ℕ
most_room = 4096

-- a desk that is no larger has so many places from one on
abbrev pub HasRoom : {A : Type 0} → ℕ → ℕ → List A → Type 0
HasRoom at n desk = (at + n ≤ length desk) × (length desk ≤ most_room)
