use Rattle.user_objections.proofs.NumberLemmas.{drop_before}
use Rattle.user_objections.proofs.rows.number_before.Goals as goal

pub returns : goal.returns
returns c = drop_before c.args.numbers.now c.args.taken _ c.requires
