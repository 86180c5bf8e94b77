use Rattle.std.proofs.Common.{rules, string_bytes, sym, ◌∙◌}
use Rattle.run_words.proofs.CommandLemmas.{no_rows_asked, rows_behind_gen}
use Rattle.run_words.proofs.form.rows_asked.Goals as goal

pub returns-in-len1-up-clause-rows : goal.returns-in-len1-up-clause-rows
returns-in-len1-up-clause-rows c = c.rows_behind.ensures.rows ∙ sym (rows_behind_gen string_bytes c.args.words.now c.word-item.result c.in-len1-up.len_at_least c.word-item.is (search rules))
