use Rattle.std.proofs.Common.{◌≡◌, drop, max}
use Rattle.formula_parse.specs.Tree.{heights, from_list}
use Rattle.formula_parse.proofs.tree.ArgumentList.height.Given as goal

abbrev pub invariant-loop-formula : goal.invariant-loop-formula
invariant-loop-formula l = max l.most (heights (from_list (drop l.formula-index l.formula-items))) ≡ heights (from_list l.self)
