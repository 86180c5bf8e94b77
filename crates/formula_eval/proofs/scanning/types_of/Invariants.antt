use Rattle.std.proofs.Common.{◌≡◌, ◌++◌, drop, map}
use Rattle.formula_eval.proofs.scanning.types_of.Given as goal

-- the types so far and those of the other keys' columns are the types of all
abbrev pub invariant-loop-key : goal.invariant-loop-key
invariant-loop-key g l =
    l.types.items ++ map (λ k. (g.S.CellSource.told l.source).kind l.table k.column) (drop l.key-index l.keys) ≡ map (λ k. (g.S.CellSource.told l.source).kind l.table k.column) l.keys
