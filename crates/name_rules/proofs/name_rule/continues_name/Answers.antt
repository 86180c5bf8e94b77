use Rattle.std.proofs.Common.{rules, tests}
use Rattle.std.proofs.lemmas.Iterator.{YieldsList-from_chars}
use Rattle.std.proofs.lemmas.Iterator.Search.{all_from_yields_List}
use Rattle.unicode_ident.specs.Ident.{is_xid_continue}
use Rattle.name_rules.proofs.name_rule.continues_name.Goals as goal

pub returns : goal.returns
returns c = all_from_yields_List (λ d. is_xid_continue d) _ _ _ c.all.ensures.ran (YieldsList-from_chars c.args.text.now c.utf8.text cc) (λ x b q k. search (rules, tests))
