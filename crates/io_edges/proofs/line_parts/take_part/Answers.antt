use Rattle.std.proofs.Common.{take, arith}
use Rattle.std.proofs.lemmas.Grind.{common_steps}
use Rattle.std.proofs.Math.ListN.{drop_of_length-le}
use Rattle.io_edges.proofs.LineLemmas.{IsOneLine-take, split_at}
use Rattle.io_edges.proofs.line_parts.take_part.Goals as goal

pub returns-then-len-ahead-clause-part : goal.returns-then-len-ahead-clause-part
returns-then-len-ahead-clause-part c = record {
  part = take c.line_len-len.result c.args.ahead.now;
  one_line = IsOneLine-take _ _ c.line_len-len.ensures.before (omega arith);
  split = split_at _ _ c.if-len-ahead.true (c.line_len-len.ensures.found c.if-len-ahead.true);
  all = λ e. cc;
  kept = grind (arith, common_steps);
}

pub returns-else-len-ahead-clause-part : goal.returns-else-len-ahead-clause-part
returns-else-len-ahead-clause-part c = record {
  part = take c.line_len-len.result c.args.ahead.now;
  one_line = IsOneLine-take _ _ c.line_len-len.ensures.before (omega arith);
  split = grind (arith, common_steps);
  all = λ e. drop_of_length-le c.args.ahead.now c.if-len-ahead.false;
  kept = grind (arith, common_steps);
}
