use Rattle.std.proofs.Common.{◌∙◌}
use Rattle.std.proofs.lemmas.List.{map-id}
use Rattle.list_ops.proofs.lists.all_copied.Goals as goal

pub returns : goal.returns
returns g c = λ h. c.in_ok-all_made.ensures (λ x. x) (λ x y. h x y) ∙ map-id c.args.items.now
