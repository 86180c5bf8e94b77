use Rattle.std.proofs.Common.{◌≡◌, drop, max}
use Rattle.formula_parse.specs.Seen.{keys_of}
use Rattle.formula_parse.specs.Tree.{key_heights, keys_from}
use Rattle.formula_parse.proofs.tree.LookupKeyList.height.Given as goal

abbrev pub invariant-loop-key : goal.invariant-loop-key
invariant-loop-key l = max l.most (key_heights (keys_from (keys_of (drop l.key-index l.key-items)))) ≡ key_heights (keys_from l.self)
