use Rattle.std.proofs.Common.{rules, string_bytes, sym}
use Rattle.run_words.proofs.CommandLemmas.{no_lanes_asked}
use Rattle.run_words.proofs.form.lanes_asked.Goals as goal

pub returns-in_default-2-clause-lanes : goal.returns-in_default-2-clause-lanes
returns-in_default-2-clause-lanes c = sym (no_lanes_asked string_bytes c.args.words.now c.word-item.result c.in-len1-up.len_at_least c.word-item.is (search rules))
