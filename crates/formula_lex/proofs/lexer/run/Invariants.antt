use Rattle.std.proofs.Common.{◌≡◌, ◌+◌, length, drop}
use Rattle.std.specs.Str.{chars}
use Rattle.formula_lex.specs.Machine.{lex, tokens_in}
use Rattle.formula_lex.specs.Spelling.{text_len}
use Rattle.formula_lex.proofs.lexer.run.Given as goal

abbrev pub invariant-loop-c : goal.invariant-loop-c
invariant-loop-c l =
    (l.at + text_len (drop (length l.yielded) (chars l.text)) ≡ length l.text)
    × (lex l.out l.reading l.at (drop (length l.yielded) (chars l.text)) ≡ tokens_in (chars l.text))
