use Rattle.std.proofs.lemmas.Bool.Decides.{same_from_decides}
use Rattle.std.proofs.lemmas.Str.Pattern.{contains_text}
use Rattle.value_ops.proofs.Parts.{is_part_decides}
use Rattle.value_ops.proofs.membership.is_part.Goals as goal

pub returns : goal.returns
returns c =
    let stands = contains_text _ c.args.part.now c.args.text.now c.contains.ensures.cases in
    same_from_decides _ _ (stands.0, stands.1) (is_part_decides c.args.part.now c.args.text.now)
