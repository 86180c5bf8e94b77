use Rattle.std.proofs.Common.{ap, ◌∙◌, List, ℕ, map, string_bytes, codes}
use Rattle.std.proofs.lemmas.Result.{IfErr-weaker, IfOk-weaker}
use Rattle.clap.specs.Words.{is_simple, subcommand_of, takes}
use Rattle.run_words.specs.Clap.{found_in}
use Rattle.run_words.proofs.ClapLemmas.{finds_form}
use Rattle.run_words.proofs.reading.matched.Goals as goal

pub returns-clause-doc : goal.returns-clause-doc
returns-clause-doc c =
    let words : List (List ℕ) = map string_bytes c.args.words.now in
    let app = c.in_ok-command.ensures in
    let parse = c.try_get_matches_from in
    IfOk-weaker parse.result _ _ (λ m h. ap (found_in (codes "doc")) ((h (ap is_simple app)).1 ∙ ap (λ a. subcommand_of a words) app) ∙ (finds_form words c.requires.form).shows_doc) parse.ensures.matches

pub returns-clause-watch : goal.returns-clause-watch
returns-clause-watch c =
    let words : List (List ℕ) = map string_bytes c.args.words.now in
    let app = c.in_ok-command.ensures in
    let parse = c.try_get_matches_from in
    IfOk-weaker parse.result _ _ (λ m h. ap (found_in (codes "watch")) ((h (ap is_simple app)).1 ∙ ap (λ a. subcommand_of a words) app) ∙ (finds_form words c.requires.form).shows_watch) parse.ensures.matches

pub returns-clause-err : goal.returns-clause-err
returns-clause-err c =
    let words : List (List ℕ) = map string_bytes c.args.words.now in
    let parse = c.try_get_matches_from in
    IfErr-weaker parse.result _ _ (λ e h. h (ap (λ a. takes a words) c.in_ok-command.ensures ∙ (finds_form words c.requires.form).takes)) parse.ensures.passes
