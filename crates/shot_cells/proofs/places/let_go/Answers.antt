use Rattle.std.proofs.Common.{refl}
use Rattle.shot_cells.proofs.PlaceLemmas.{gone_empty}
use Rattle.shot_cells.proofs.places.let_go.Goals as goal

pub returns-in_default : goal.returns-in_default
returns-in_default g c = λ other key. refl

pub returns-then-is_empty : goal.returns-then-is_empty
returns-then-is_empty g c =
    gone_empty g.K.Ord.cmp c.args.named.now c.remove.new.self c.args.name.now c.in-Some.inner.now c.in-Some.ensures.value (c.is_empty.ensures.0 c.if-is_empty.true) c.remove.ensures.updates

pub returns-else-is_empty : goal.returns-else-is_empty
returns-else-is_empty g c = λ other key. refl
