use Rattle.std.proofs.Common.{◌≡◌, true, take}
use Rattle.std.specs.List.{AllByRecursion}
use Rattle.doc_model.specs.ByIds.{precedes}
use Rattle.bundle_core.proofs.session_index.index_of.Given as goal

-- the sessions so far stand before the name
abbrev pub invariant-loop-index : goal.invariant-loop-index
invariant-loop-index l = AllByRecursion (λ x. precedes x.session l.name ≡ true) (take l.index l.sessions)
