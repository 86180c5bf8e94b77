use Rattle.std.proofs.Common.{◌≡◌, ◌∙◌, ap, subst, sym, List, ℕ}
use Rattle.std.specs.Str.{IsUtf8}
use Rattle.rename_texts.specs.Rewriting.{replaced}
use Rattle.rename_texts.proofs.RewriteLemmas.{replaced_is_utf8}
use Rattle.rename_texts.proofs.rewriting.with_words.Goals as goal

pub text_of-requires : goal.text_of-requires
text_of-requires c =
    let same : c.in_ok-bytes.bytes.items ≡ replaced c.args.text.now c.args.new.now 0 c.args.tokens.now c.args.marks.now =
    c.in_ok-bytes.ensures
    ∙ ap (λ (bs : List ℕ). replaced bs c.as_bytes-2.result.now 0 c.args.tokens.now c.args.marks.now) c.as_bytes.ensures.value
    ∙ ap (λ (bs : List ℕ). replaced c.args.text.now bs 0 c.args.tokens.now c.args.marks.now) c.as_bytes-2.ensures.value in
    subst (λ (bs : List ℕ). IsUtf8 bs) (sym same)
    (replaced_is_utf8 c.args.text.now c.args.new.now c.utf8.text c.utf8.new c.args.tokens.now c.args.marks.now c.requires.spelled)
