use Rattle.std.proofs.Common.{◌≡◌, drop}
use Rattle.acl_rules.specs.RuleBook.{memo_of}
use Rattle.acl_rules.proofs.book.memo_of.Given as goal

-- the rest decides
abbrev pub invariant-loop-rule : goal.invariant-loop-rule
invariant-loop-rule l = memo_of (drop l.rule-index l.rules) l.row ≡ memo_of l.rules l.row
