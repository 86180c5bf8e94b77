use Rattle.std.proofs.Common.{◌≡◌, drop}
use Rattle.doc_model.specs.ByIds.{are_distinct}
use Rattle.plain_view.proofs.named.are_distinct.Given as goal

-- the rest decides
abbrev pub invariant-loop-index : goal.invariant-loop-index
invariant-loop-index g l = are_distinct g.T.Named.id_of (drop l.index l.things) ≡ are_distinct g.T.Named.id_of l.things
