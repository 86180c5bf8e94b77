-- The levels of operators between two operands: the higher, the closer they bind.
use Rattle.std.specs.Prelude.{ℕ}

-- operators of one level
pub data Group : Type 0 where
  or_group and_group comparison sum_group term_group : Group

-- the level of a formula with the operator
abbrev pub group_level : Group → ℕ
group_level or_group = 1
group_level and_group = 2
group_level comparison = 4
group_level sum_group = 5
group_level term_group = 6

-- the least level of what stands at its left: chains group to the left, comparisons make no chain
abbrev pub group_left : Group → ℕ
group_left or_group = 1
group_left and_group = 2
group_left comparison = 5
group_left sum_group = 5
group_left term_group = 6

-- the least level of what stands at its right
abbrev pub group_right : Group → ℕ
group_right or_group = 2
group_right and_group = 3
group_right comparison = 5
group_right sum_group = 6
group_right term_group = 7
