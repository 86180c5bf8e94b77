use Rattle.std.proofs.Common.{subst, sym, List, ℕ, ◌≡◌, IfOk}
use Rattle.formula_lex.specs.declared.fault.LexFault.{LexFault}
use Rattle.formula_lex.specs.declared.token.Token.{Token}
use Rattle.formula_lex.specs.Spelling.{FitsFault, SpellsText}
use Rattle.rename_texts.proofs.RewriteLemmas.{rewritten_none, rewritten_some}
use Rattle.rename_texts.proofs.rewriting.rewrite.Goals as goal

pub returns-in-Ok : goal.returns-in-Ok
returns-in-Ok c =
    let spelled : SpellsText c.args.text.now c.as_slice.result.now = subst (λ (ts : List Token). SpellsText c.args.text.now ts) (sym c.as_slice.ensures) c.in-Ok.ensures.spells in
    subst (λ (bs : List ℕ). IfOk c.with_words.result (λ t. t ≡ bs))
    (sym (rewritten_some c.args.text.now c.args.new.now c.as_slice.result.now c.args.marks.now spelled)) c.with_words.ensures

pub returns-in-Err-Bad : goal.returns-in-Err-Bad
returns-in-Err-Bad c =
    let fits = subst (λ (f : LexFault). FitsFault c.args.text.now f) c.in-Err-Bad.field-0-is c.in-Err-Bad.ensures.fault in
    subst (λ (bs : List ℕ). IfOk c.copy_of.result (λ t. t ≡ bs))
    (sym (rewritten_none c.args.text.now c.args.new.now c.in-Err-Bad.field-0-0 c.args.marks.now fits)) c.copy_of.ensures
