use Rattle.std.proofs.Common.{rules, ◌∙◌, List, ℕ, map, option_map, string_bytes, codes}
use Rattle.std.specs.Prelude.{option_and_then}
use Rattle.run_words.specs.Clap.{doc_of, watch_of}
use Rattle.run_words.specs.Words.{replay_in}
use Rattle.run_words.proofs.ClapLemmas.{finds_form, is_name_read}
use Rattle.run_words.proofs.reading.replay_plan.Goals as goal

pub named-requires : goal.named-requires
named-requires c =
    let words : List (List ℕ) = map string_bytes c.args.words.now in
    record { name = is_name_read (λ s. s.now) c.value_in.result (option_and_then doc_of (replay_in words)) (c.value_in.ensures ∙ c.in-Ok.ensures.doc) (finds_form words (search rules)).doc_named }

pub named-requires-2 : goal.named-requires-2
named-requires-2 c =
    let words : List (List ℕ) = map string_bytes c.args.words.now in
    record { name = is_name_read (λ s. s.now) c.value_in-2.result (option_and_then watch_of (replay_in words)) (c.value_in-2.ensures ∙ c.in-Ok.ensures.watch) (finds_form words (search rules)).watch_named }
