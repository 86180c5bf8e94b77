use Rattle.std.proofs.Common.{◌≡◌, ◌∙◌, true, arith, subst, ap, sym}
use Rattle.std.specs.Prelude.{IsUtf8}
use Rattle.std.proofs.lemmas.Str.{scalars-chars}
use Rattle.cell_types.specs.NameRule.{is_name}
use Rattle.cell_types.specs.NameLength.{HasNameLength}
use Rattle.name_rules.specs.FreeName.{numbered}
use Rattle.name_rules.proofs.NumberedNames.{HasNameLength-numbered, is_name-numbered}
use Rattle.name_rules.proofs.free_id.numbered.Goals as goal

pub new-requires : goal.new-requires
new-requires c =
    let utf8 = subst (λ text. IsUtf8 text) c.as_str.ensures.value c.as_str.utf8 in
    let made = c.in_ok-text.ensures ∙ ap (λ text. numbered text c.args.number) c.as_str.ensures.value in
    subst (λ text. HasNameLength text) (sym made) (HasNameLength-numbered c.args.wanted.now c.args.number (scalars-chars c.args.wanted.now utf8) (omega arith))

pub returns-clause-name : goal.returns-clause-name
returns-clause-name c good =
    let made = c.new.ensures ∙ c.in_ok-text.ensures ∙ ap (λ text. numbered text c.args.number) c.as_str.ensures.value in
    subst (λ text. is_name text ≡ true) (sym made) (is_name-numbered c.args.wanted.now c.args.number (omega arith) good)
