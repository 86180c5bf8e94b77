use Rattle.std.proofs.Common.{arith, refl}
use Rattle.acl_formula.proofs.DeskLemmas.{list_length, list_good, list_sum}
use Rattle.acl_formula.proofs.joining.joined_lists.Goals as goal

pub returns-clause-value : goal.returns-clause-value
returns-clause-value c =
    let len = list_length c.args.desk.now c.args.at c.args.middle c.args.end c.requires.order.0 c.requires.order.1 c.args.left c.args.right c.requires.down.0 c.requires.down.1 c.list_len.result c.list_len-2.result c.requires.lists.0 c.requires.lists.1 c.list_len.ensures c.list_len-2.ensures in
    list_sum c.args.desk.now c.args.at c.args.middle c.args.end c.requires.order.0 c.requires.order.1 c.args.left c.args.right c.requires.down.0 c.requires.down.1 c.requires.lists.0 c.requires.lists.1 (omega (arith, len, c.if-len-gt-MAX_JOINED_ITEMS.false))

pub returns-clause-good : goal.returns-clause-good
returns-clause-good c =
    let len = list_length c.args.desk.now c.args.at c.args.middle c.args.end c.requires.order.0 c.requires.order.1 c.args.left c.args.right c.requires.down.0 c.requires.down.1 c.list_len.result c.list_len-2.result c.requires.lists.0 c.requires.lists.1 c.list_len.ensures c.list_len-2.ensures in
    let good = list_good c.args.desk.now c.args.at c.args.middle c.args.end c.requires.order.0 c.requires.order.1 c.args.left c.args.right c.requires.down.0 c.requires.down.1 c.requires.lists.0 c.requires.lists.1 c.requires.good.0 c.requires.good.1 in
    ((omega (arith, c.requires.order.0, c.requires.order.1), c.requires.order.2, len, omega (arith, c.if-len-gt-MAX_JOINED_ITEMS.false), good), refl)
