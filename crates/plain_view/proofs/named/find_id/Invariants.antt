use Rattle.std.proofs.Common.{◌≡◌, drop}
use Rattle.doc_model.specs.ByIds.{find_id}
use Rattle.plain_view.proofs.named.find_id.Given as goal

-- the rest decides
abbrev pub invariant-loop-thing : goal.invariant-loop-thing
invariant-loop-thing g l = find_id g.T.Named.id_of l.id (drop l.thing-index l.things) ≡ find_id g.T.Named.id_of l.id l.things
