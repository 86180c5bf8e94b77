use Rattle.std.proofs.Common.{◌≡◌, drop}
use Rattle.formula_parse.specs.Runs.{read, tree_from}
use Rattle.formula_parse.proofs.parser.run.Given as goal

abbrev pub invariant-loop-token : goal.invariant-loop-token
invariant-loop-token l = read l.dialect (drop l.token-index l.tokens) l.frames l.mode ≡ tree_from l.dialect l.tokens
