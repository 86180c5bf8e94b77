use Rattle.std.proofs.Common.{rules, string_bytes, sym, ◌∙◌}
use Rattle.run_words.proofs.CommandLemmas.{audit_behind, no_audit_asked}
use Rattle.run_words.proofs.form.asks_for_audit.Goals as goal

pub returns-in-len1-up : goal.returns-in-len1-up
returns-in-len1-up c = c.is_audit_form.ensures ∙ sym (audit_behind string_bytes c.args.words.now c.word-item.result c.in-len1-up.len_at_least c.word-item.is (search rules))

pub returns-in_default-2 : goal.returns-in_default-2
returns-in_default-2 c = sym (no_audit_asked string_bytes c.args.words.now c.word-item.result c.in-len1-up.len_at_least c.word-item.is (search rules))
