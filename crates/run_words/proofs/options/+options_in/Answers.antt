use Rattle.std.proofs.Common.{◌≡◌, ◌∙◌, sym, ap, ap₂, map, option_map, string_bytes, None, Some}
use Rattle.std.specs.Prelude.{option_and_then}
use Rattle.run_words.specs.Options.{options_in, with_apart, with_joined}
use Rattle.run_words.specs.OptionViews.{found_of}
use Rattle.run_words.proofs.OptionLemmas.{behind_first, words_apart, words_joined}
use Rattle.run_words.proofs.options.+options_in.Goals as goal

pub returns-in-Some : goal.returns-in-Some
returns-in-Some t c =
    let f = found_of c.args.found in
    let joined : with_joined c.args.is_server f (string_bytes c.word-item.result) ≡ Some (found_of c.in-Some.found) = ap (with_joined c.args.is_server f) (sym c.as_str.ensures.value) ∙ sym c.with_joined.ensures ∙ ap (option_map found_of) c.in-Some.is in
    c.options_in.ensures ∙ sym (words_joined string_bytes c.args.is_server f (found_of c.in-Some.found) c.args.words.now c.word-item.result c.in-len1-up.len_at_least c.word-item.is joined)

pub returns-in-Some-with_apart : goal.returns-in-Some-with_apart
returns-in-Some-with_apart t c =
    let f = found_of c.args.found in
    let joined : with_joined c.args.is_server f (string_bytes c.word-item.result) ≡ None = ap (with_joined c.args.is_server f) (sym c.as_str.ensures.value) ∙ sym c.with_joined.ensures ∙ ap (option_map found_of) c.in-None.is in
    let apart : with_apart c.args.is_server f (string_bytes c.word-item.result) (string_bytes c.text-item.result) ≡ Some (found_of c.in-Some-with_apart.found) = ap₂ (with_apart c.args.is_server f) (sym c.as_str-in-len1-up-rest.ensures.value) (sym c.as_str-in-len1-up-rest-2.ensures.value) ∙ sym c.with_apart.ensures ∙ ap (option_map found_of) c.in-Some-with_apart.is in
    c.options_in-in-Some-with_apart.ensures ∙ sym (words_apart string_bytes c.args.is_server f c.args.words.now c.word-item.result c.text-item.result c.in-len1-up.len_at_least c.word-item.is c.in-len1-up-rest.len_at_least c.text-item.is joined
    ∙ ap (option_and_then (λ h. options_in c.args.is_server h (map string_bytes (behind_first string_bytes (behind_first string_bytes c.args.words.now))))) apart)

pub returns-in-None-with_apart : goal.returns-in-None-with_apart
returns-in-None-with_apart t c =
    let f = found_of c.args.found in
    let joined : with_joined c.args.is_server f (string_bytes c.word-item.result) ≡ None = ap (with_joined c.args.is_server f) (sym c.as_str.ensures.value) ∙ sym c.with_joined.ensures ∙ ap (option_map found_of) c.in-None.is in
    let apart : with_apart c.args.is_server f (string_bytes c.word-item.result) (string_bytes c.text-item.result) ≡ None = ap₂ (with_apart c.args.is_server f) (sym c.as_str-in-len1-up-rest.ensures.value) (sym c.as_str-in-len1-up-rest-2.ensures.value) ∙ sym c.with_apart.ensures ∙ ap (option_map found_of) c.in-None-with_apart.is in
    sym (words_apart string_bytes c.args.is_server f c.args.words.now c.word-item.result c.text-item.result c.in-len1-up.len_at_least c.word-item.is c.in-len1-up-rest.len_at_least c.text-item.is joined
    ∙ ap (option_and_then (λ h. options_in c.args.is_server h (map string_bytes (behind_first string_bytes (behind_first string_bytes c.args.words.now))))) apart)
