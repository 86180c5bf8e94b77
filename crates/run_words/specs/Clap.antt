-- The command line as clap is told of it, and what it finds in the words.
use Rattle.std.specs.Prelude.{ℕ, List, codes, true, Option, Some, None, option_and_then}
use Rattle.clap.specs.Words.{App, Row, Rule, first_of, new_app, new_rule, with_rule, with_subcommand}
use Rattle.clap.specs.Simple.{on_top}
use Rattle.clap.specs.declared.builder.action.ArgAction.TheVariants.{Set}
use Rattle.run_words.specs.declared.plans.Plan.{Plan}
use Rattle.run_words.specs.declared.plans.Plan.TheVariants.{Audit, Replay, Serve, Gen}

-- an option with one value
abbrev pub option_rule : List ℕ → Rule
option_rule name = record (new_rule name) { long = Some name; action = Some Set }

abbrev pub replay_app : App
replay_app = with_rule (with_rule (new_app (codes "replay")) (option_rule (codes "doc")))
    (option_rule (codes "watch"))

-- no word stands before the command, and clap adds none of its own
abbrev pub bare_app : App
bare_app = on_top (λ s. record s {
  no_binary_name = true;
  disable_help_flag = true;
  disable_help_subcommand = true;
  disable_version_flag = true;
  subcommand_required = true;
}) (new_app (codes "jackclover"))

abbrev pub words_app : App
words_app = with_subcommand bare_app replay_app.top

-- the value of an option, of a command and its rows
abbrev pub found_in : List ℕ → Option (List ℕ × List Row) → Option (List ℕ)
found_in name = option_and_then (λ p. first_of name p.1)

-- the document that a plan names
abbrev pub doc_of : Plan → Option (List ℕ)
doc_of (Replay doc watch) = doc
doc_of (Serve lanes port conns doc watch) = doc
doc_of (Gen n) = None
doc_of (Audit doc) = doc

-- the watched session that a plan names
abbrev pub watch_of : Plan → Option (List ℕ)
watch_of (Replay doc watch) = watch
watch_of (Serve lanes port conns doc watch) = watch
watch_of (Gen n) = None
watch_of (Audit doc) = None
