use Rattle.std.proofs.Common.{◌∙◌, ap, ◌&&◌}
use Rattle.std.specs.Str.{chars}
use Rattle.std.specs.List.{list_all}
use Rattle.unicode_ident.specs.Ident.{is_xid_continue}
use Rattle.name_rules.proofs.NameLemmas.{has_name_characters_apart}
use Rattle.name_rules.proofs.name_rule.has_name_characters.Goals as goal

pub returns-then-starts_name : goal.returns-then-starts_name
returns-then-starts_name c =
    c.continues_name.ensures ∙ ap (λ b. b && list_all (λ d. is_xid_continue d) (chars c.args.text.now)) c.if-starts_name.ensures
    ∙ has_name_characters_apart (chars c.args.text.now)
