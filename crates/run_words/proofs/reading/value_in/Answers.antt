use Rattle.std.proofs.Common.{sym, ◌∙◌}
use Rattle.clap.specs.Words.{found_of, subcommand_rows_of}
use Rattle.run_words.proofs.ClapLemmas.{value_found}
use Rattle.run_words.proofs.reading.value_in.Goals as goal

pub returns-in-Some : goal.returns-in-Some
returns-in-Some c =
    c.get_str.ensures ∙ sym (value_found c.args.name.now (subcommand_rows_of c.args.matches.now) (found_of c.in-Some.options.now) c.in-Some.ensures.rows)
