use Rattle.std.proofs.Common.{rules}
use Rattle.acl_formula.specs.Desk.{joined}
use Rattle.acl_formula.proofs.PieceLemmas.{same_by_takes}
use Rattle.acl_formula.proofs.pieces.are_same.Goals as goal

pub returns : goal.returns
returns c = same_by_takes (joined c.args.left.now) (joined c.args.right.now) c.args.left_len c.requires.left (search rules) (search rules)
