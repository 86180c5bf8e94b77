use Rattle.std.specs.Prelude.{◌≡◌, ◌++◌, drop, length}
use Rattle.formula_lex.specs.Places.{IsInOrder}
use Rattle.rename_texts.specs.Rewriting.{replaced}
use Rattle.rename_texts.proofs.rewriting.replaced.Given as goal

-- what is made and what is left to make are the whole
abbrev pub invariant-loop-token : goal.invariant-loop-token
invariant-loop-token l = record {
  in_order : IsInOrder l.at (drop l.token-index l.tokens) (length l.text);
  told : l.out.items ++ replaced l.text l.new l.at (drop l.token-index l.tokens) l.rest ≡ replaced l.text l.new 0 l.tokens l.marks;
}
