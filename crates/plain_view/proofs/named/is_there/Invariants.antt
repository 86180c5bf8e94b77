use Rattle.std.proofs.Common.{◌≡◌, drop}
use Rattle.doc_model.specs.ByIds.{has_id}
use Rattle.plain_view.proofs.named.is_there.Given as goal

-- the rest decides
abbrev pub invariant-loop-thing : goal.invariant-loop-thing
invariant-loop-thing g l = has_id g.T.Named.id_of (drop l.thing-index l.things) l.id ≡ has_id g.T.Named.id_of l.things l.id
