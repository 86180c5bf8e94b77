use Rattle.std.proofs.Common.{arith, refl}
use Rattle.acl_formula.proofs.DeskLemmas.{text_length, text_pieces, text_sum}
use Rattle.acl_formula.proofs.joining.joined_texts.Goals as goal

pub returns-clause-value : goal.returns-clause-value
returns-clause-value c =
    let len = text_length c.args.desk.now c.args.at c.args.middle c.args.end c.requires.order.0 c.requires.order.1 c.args.left c.args.right c.requires.down.0 c.requires.down.1 c.text_len.result c.text_len-2.result c.requires.texts.0 c.requires.texts.1 c.text_len.ensures c.text_len-2.ensures in
    text_sum c.args.desk.now c.args.at c.args.middle c.args.end c.requires.order.0 c.requires.order.1 c.args.left c.args.right c.requires.down.0 c.requires.down.1 c.requires.texts.0 c.requires.texts.1 (omega (arith, len, c.if-len-gt-MAX_TEXT_BYTES.false))

pub returns-clause-good : goal.returns-clause-good
returns-clause-good c =
    let len = text_length c.args.desk.now c.args.at c.args.middle c.args.end c.requires.order.0 c.requires.order.1 c.args.left c.args.right c.requires.down.0 c.requires.down.1 c.text_len.result c.text_len-2.result c.requires.texts.0 c.requires.texts.1 c.text_len.ensures c.text_len-2.ensures in
    let pieces = text_pieces c.args.desk.now c.args.at c.args.middle c.args.end c.requires.order.0 c.requires.order.1 c.args.left c.args.right c.requires.down.0 c.requires.down.1 c.requires.texts.0 c.requires.texts.1 c.requires.good.0 c.requires.good.1 in
    ((omega (arith, c.requires.order.0, c.requires.order.1), c.requires.order.2, len, omega (arith, c.if-len-gt-MAX_TEXT_BYTES.false), pieces), refl)
