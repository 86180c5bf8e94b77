use Rattle.std.proofs.lemmas.Bool.Decides.{same_from_decides}
use Rattle.doc_model.specs.Same.{same_value}
use Rattle.doc_model.proofs.SameLaws.{same_value-Decides}
use Rattle.user_actions.proofs.cell_updates.is_same_value.Goals as goal

pub returns : goal.returns
returns c = same_from_decides c.same_as.result (same_value c.args.left.now c.args.right.now) c.same_as.ensures (same_value-Decides c.args.left.now c.args.right.now)
