use Rattle.std.proofs.Common.{◌≡◌}
use Rattle.rename_marks.specs.Noted.{stayed}
use Rattle.rename_marks.proofs.marking.Marking.skip.Given as goal

-- so many lexemes that stay so far
abbrev pub invariant-loop-lexeme : goal.invariant-loop-lexeme
invariant-loop-lexeme l = l.self ≡ stayed l.fn.self l._lexeme
