use Rattle.meta_schema.proofs.TextLemmas.{after_told}
use Rattle.meta_schema.proofs.type_texts.after.Goals as goal

pub returns : goal.returns
returns c = after_told c.args.word.now c.args.text.now c.strip_prefix.result c.strip_prefix.ensures.cases
