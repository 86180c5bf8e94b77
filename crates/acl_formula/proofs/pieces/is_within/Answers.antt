use Rattle.std.proofs.Common.{rules, arith}
use Rattle.acl_formula.specs.Desk.{joined}
use Rattle.acl_formula.proofs.PieceLemmas.{within_found, within_next}
use Rattle.acl_formula.proofs.pieces.is_within.Goals as goal

pub returns-then-stands_at : goal.returns-then-stands_at
returns-then-stands_at c = within_found (joined c.args.part.now) (joined c.args.text.now) c.loop-from.from (search rules) (search rules) c.loop-from.invariant

pub loop-from-preserved : goal.loop-from-preserved
loop-from-preserved c = within_next (joined c.args.part.now) (joined c.args.text.now) c.loop-from.from _ (search rules) (omega arith) (search rules) c.loop-from.invariant
