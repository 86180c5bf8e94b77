use Rattle.user_actions.proofs.InfoLemmas.{behind_from}
use Rattle.user_actions.proofs.infos.behind.Goals as goal

pub returns : goal.returns
returns c = behind_from c.args.start.now c.args.text.now c.strip_prefix.result c.strip_prefix.ensures.cases
