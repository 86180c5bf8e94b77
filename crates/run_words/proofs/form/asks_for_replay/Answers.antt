use Rattle.std.proofs.Common.{map, string_bytes, sym, ◌∙◌}
use Rattle.run_words.proofs.ReplayLemmas.{replay_asked}
use Rattle.run_words.proofs.form.asks_for_replay.Goals as goal

pub returns : goal.returns
returns c = c.is_replay_form.ensures ∙ sym (replay_asked (map string_bytes c.args.words.now))
