use Rattle.std.proofs.Common.{sym, ◌∙◌, arith}
use Rattle.acl_formula.proofs.ItemLemmas.{item_put, good_put}
use Rattle.acl_formula.proofs.desk.put_item.Goals as goal

pub returns-clause-item : goal.returns-clause-item
returns-clause-item c =
    item_put c.args.desk.now c.args.at c.end_of-place.result c.args.value c.requires.good c.requires.starts (sym c.is_item.ensures ∙ c.if-not-is_item.false) c.end_of-place.ensures (omega (arith, c.end_of-place.ensures, c.requires.room))

pub returns-clause-good : goal.returns-clause-good
returns-clause-good c =
    good_put c.args.desk.now c.args.at c.end_of-place.result c.args.value c.requires.good c.requires.starts (sym c.is_item.ensures ∙ c.if-not-is_item.false) c.end_of-place.ensures (omega (arith, c.end_of-place.ensures, c.requires.room))
