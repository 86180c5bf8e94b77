use Rattle.std.proofs.Common.{◌≡◌, ◌++◌, not, drop, filter}
use Rattle.user_actions.specs.References.{is_gone}
use Rattle.user_actions.proofs.clearing.items_left.Given as goal

-- the items so far, and those that are to come
abbrev pub invariant-loop-item : goal.invariant-loop-item
invariant-loop-item l = l.left.items ++ filter (λ i. not (is_gone l.gone i)) (drop l.item-index l.items) ≡ filter (λ i. not (is_gone l.gone i)) l.items
