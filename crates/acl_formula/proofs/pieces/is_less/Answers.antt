use Rattle.std.proofs.Common.{rules}
use Rattle.acl_formula.specs.Desk.{joined}
use Rattle.acl_formula.proofs.PieceLemmas.{less_at_right_end, less_at_left_end}
use Rattle.acl_formula.proofs.pieces.is_less.Goals as goal

pub returns-then-place-right_len : goal.returns-then-place-right_len
returns-then-place-right_len c = less_at_right_end (joined c.args.left.now) (joined c.args.right.now) c.loop-place.place (search rules) c.loop-place.invariant.1

pub returns : goal.returns
returns c = less_at_left_end (joined c.args.left.now) (joined c.args.right.now) c.args.left_len c.args.right_len c.requires.left c.requires.right (search rules) (search rules)
